use Rattle.std.proofs.Common.{refl}
use Rattle.register.specs.Calls.{meaning}
use Rattle.register.proofs.Calling.{plays_declined, plays_judged}
use Rattle.register.proofs.service.Register.drop.Goals as goal

pub returns-in_err-check : goal.returns-in_err-check
returns-in_err-check g c = plays_declined _ _ _ c.from_residual.ensures.1 c.in_err-check.ensures

pub invariant_of-self : goal.invariant_of-self
invariant_of-self g c = record { kept = (c.drop_message.ensures c.args.self.now.start (meaning g.R.QuorumSystem c.args.self.now) c.args.replicas.now c.args.readers.now c.args.marks.now c.args.journal.now c.in_ok-check.ensures.fitting.journal).kept }

pub returns : goal.returns
returns g c =
    plays_judged _ _ refl refl refl c.in_ok-check.ensures
    (record {
      replicas = refl;
      readers = refl;
      marks = refl;
      messages = c.drop_message.auto.messages;
      journal = refl;
    })
    (c.drop_message.ensures _ _ _ _ _ _ c.in_ok-check.ensures.fitting.journal)
