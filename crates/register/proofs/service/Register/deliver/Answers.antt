use Rattle.std.proofs.Common.{refl}
use Rattle.register.proofs.Calling.{plays_declined, plays_judged}
use Rattle.register.proofs.service.Register.deliver.Goals as goal

pub returns-in_err-check : goal.returns-in_err-check
returns-in_err-check g c = plays_declined _ _ _ c.from_residual.ensures.1 c.in_err-check.ensures

pub invariant_of-self : goal.invariant_of-self
invariant_of-self g c = record { kept = c.deliver_message.ensures.kept }

pub returns : goal.returns
returns g c =
    plays_judged _ _ refl refl refl c.in_ok-check.ensures
    (record {
      replicas = c.deliver_message.auto.replicas;
      readers = c.deliver_message.auto.readers;
      marks = c.deliver_message.auto.marks;
      messages = c.deliver_message.auto.messages;
      journal = c.deliver_message.auto.journal;
    })
    c.deliver_message.ensures
