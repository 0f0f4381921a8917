use Rattle.std.proofs.Common.{refl}
use Rattle.register.proofs.Calling.{plays_declined, plays_judged}
use Rattle.register.proofs.service.Register.call.Goals as goal

pub returns-in_err-check : goal.returns-in_err-check
returns-in_err-check g c = plays_declined _ _ _ c.from_residual.ensures.1 c.in_err-check.ensures

pub invariant_of-self : goal.invariant_of-self
invariant_of-self g c = record { kept = c.step.ensures.kept }

pub returns : goal.returns
returns g c =
    plays_judged _ _ refl refl refl c.in_ok-check.ensures
    (record {
      replicas = c.step.auto.replicas;
      readers = c.step.auto.readers;
      marks = c.step.auto.marks;
      messages = c.step.auto.messages;
      journal = c.step.auto.journal;
    })
    c.step.ensures
