use Rattle.std.proofs.Common.{ap, refl}
use Rattle.std.proofs.lemmas.Result.{on_ok_weaker, on_err_weaker}
use Rattle.model.specs.declared.parties.Party.{Party}
use Rattle.model.specs.State.{new_reader, new_replica}
use Rattle.tables.specs.View.{tables}
use Rattle.steps.specs.Renumbered.{with_writer}
use Rattle.steps.proofs.Halts.{halts}
use Rattle.steps.proofs.halting.halt_party.Goals.{in-Writer, in-Reader, in-Replica}
use Rattle.steps.proofs.halting.halt_party.Goals as goal

pub returns : goal.returns
returns g c = λ start rule ks ms ls size fm fj.
    let n = c.args.numbers.now in
    let rs = c.args.replicas.now in
    let ds = c.args.readers.now in
    let all = halts start rule n (tables rs ds ks ms ls) c.requires fm fj in
    elim c.match-party.branch [
      | in-Writer w ↦
          let r = w.stop-stopped in
          rw (w.in-Writer.is, w.numbers-is, w.replicas-is, w.readers-is, c.and.ensures, w.stopped-is)
          (all Party.Writer r.result _ _ r.ensures.verdict
          (on_ok_weaker r.result (λ e. (ap (λ v. with_writer n v) e, refl)) r.ensures.ok)
          (on_err_weaker r.result (λ e. (ap (λ v. with_writer n v) e, refl)) r.ensures.err))
      | in-Reader w ↦
          let r = w.stop_at-stopped in
          rw (w.in-Reader.is, w.numbers-is, w.replicas-is, w.readers-is, c.and.ensures, w.stopped-is)
          (all (Party.Reader w.in-Reader.reader) r.result _ _ (r.ensures.verdict (new_reader start))
          (on_ok_weaker r.result (λ e. (refl, ap (λ l. tables rs l ks ms ls) (e (new_reader start)))) r.ensures.ok)
          (on_err_weaker r.result (λ e. (refl, ap (λ l. tables rs l ks ms ls) e)) r.ensures.err))
      | in-Replica w ↦
          let r = w.stop_at-stopped-in-Replica in
          rw (w.in-Replica.is, w.numbers-is, w.replicas-is, w.readers-is, c.and.ensures, w.stopped-is)
          (all (Party.Replica w.in-Replica.replica) r.result _ _ (rw size (r.ensures.verdict (new_replica start)))
          (on_ok_weaker r.result (λ e. (refl, ap (λ l. tables l ds ks ms ls) (e (new_replica start)))) r.ensures.ok)
          (on_err_weaker r.result (λ e. (refl, ap (λ l. tables l ds ks ms ls) e)) r.ensures.err))
    ]
