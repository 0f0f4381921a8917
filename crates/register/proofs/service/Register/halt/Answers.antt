use Rattle.std.proofs.Common.{sym, refl}
use Rattle.register.specs.Calls.{meaning}
use Rattle.register.proofs.Calling.{plays_declined, plays_judged}
use Rattle.register.proofs.service.Register.halt.Goals as goal

pub returns-in_err-check : goal.returns-in_err-check
returns-in_err-check g c = plays_declined _ _ _ c.from_residual.ensures.1 c.in_err-check.ensures

pub invariant_of-self : goal.invariant_of-self
invariant_of-self g c = record { kept = (c.halt_party.ensures c.args.self.now.start (meaning g.R.QuorumSystem c.args.self.now) c.args.marks.now c.args.messages.now c.args.journal.now (sym c.in_ok-check.ensures.fitting.replicas) c.in_ok-check.ensures.fitting.messages c.in_ok-check.ensures.fitting.journal).kept }

pub returns : goal.returns
returns g c =
    plays_judged _ _ refl refl refl c.in_ok-check.ensures
    (record {
      replicas = c.halt_party.auto.replicas;
      readers = c.halt_party.auto.readers;
      marks = refl;
      messages = refl;
      journal = refl;
    })
    (c.halt_party.ensures _ _ _ _ _ (sym c.in_ok-check.ensures.fitting.replicas) c.in_ok-check.ensures.fitting.messages c.in_ok-check.ensures.fitting.journal)
