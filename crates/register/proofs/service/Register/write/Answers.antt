use Rattle.std.proofs.Common.{refl}
use Rattle.register.specs.Calls.{meaning}
use Rattle.register.proofs.Calling.{plays_declined, plays_judged}
use Rattle.register.proofs.service.Register.write.Goals as goal

pub returns-in_err-check : goal.returns-in_err-check
returns-in_err-check g c = plays_declined _ _ _ c.from_residual.ensures.1 c.in_err-check.ensures

pub invariant_of-self : goal.invariant_of-self
invariant_of-self g c = record { kept = (c.start_write.ensures c.args.self.now.start (meaning g.R.QuorumSystem c.args.self.now) c.args.replicas.now c.args.readers.now c.args.marks.now refl).kept }

pub returns : goal.returns
returns g c =
    plays_judged _ _ refl refl refl c.in_ok-check.ensures
    (record {
      replicas = refl;
      readers = refl;
      marks = refl;
      messages = c.start_write.auto.messages;
      journal = c.start_write.auto.journal;
    })
    (c.start_write.ensures _ _ _ _ _ refl)
