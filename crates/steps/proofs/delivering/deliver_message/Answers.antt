use Rattle.std.proofs.Common.{◌-◌, take, sym}
use Rattle.model.specs.State.{stored, without}
use Rattle.model.specs.Steps.{dropped}
use Rattle.tables.specs.View.{tables}
use Rattle.tables.specs.View.{rule_for}
use Rattle.steps.specs.Renumbered.{with_waiting}
use Rattle.steps.proofs.Delivers.{deliver_done}
use Rattle.steps.proofs.Transits.{taken_out}
use Rattle.steps.proofs.delivering.deliver_message.Goals as goal

pub returns : goal.returns
unfolding dropped
returns g c =
    let n = c.args.numbers.now in
    let plan = c.in_ok-reaction.ensures in
    let out = taken_out c.args.start (rule_for g.R.QuorumSystem c.args.rule.now n.replicas) n _ c.requires.kept c.requires.fits.messages c.requires.fits.journal c.args.place plan.waits in
    deliver_done _ _ n _ c.args.place c.in_ok-reaction.reaction plan (with_waiting n (n.waiting - 1))
    (tables c.args.replicas.now c.args.readers.now c.args.marks.now (stored (without (take n.waiting c.args.messages.now) c.args.place) c.args.messages.now) c.args.journal.now)
    out.state _ _ _ (rw (sym c.remove_at.ensures) (c.apply.ensures c.args.start)) c.requires.kept c.requires.fits out
