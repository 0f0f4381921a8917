-- What a delivery will do, as it is planned before anything is altered.
use Rattle.std.specs.Prelude.{◌≡◌, ℕ, ◌+◌, ◌-◌, ◌<◌, ◌≤◌, length, Ok, Err, Result}
use Rattle.quorum.specs.Sets.{Rule}
use Rattle.model.specs.declared.calls.Call.{Call}
use Rattle.model.specs.declared.answers.Refusal.{Refusal}
use Rattle.model.specs.State.{without_message}
use Rattle.model.specs.Steps.{declined, done, deliver}
use Rattle.tables.specs.declared.numbers.Numbers.{Numbers}
use Rattle.reaction.specs.declared.reaction.Reaction.{Reaction}
use Rattle.tables.specs.View.{Tables, view}
use Rattle.steps.specs.Doing.{judged}
use Rattle.reaction.specs.Applied.{applied, sent_by, Applicable}

-- The message at the place waits, its delivery is not declined, and comes to this reaction, for which there is room.
pub record Planned {F : Type 0} (rule : Rule) (start : F) (n : Numbers) (t : Tables F) (place : ℕ) (r : Reaction F)
    : Type 0 where
  pub waits : place < n.waiting
  pub granted : judged rule (view start n t) (Call.Deliver place) ≡ done rule (view start n t) (Call.Deliver place)
  pub effect : deliver rule (view start n t) place ≡ applied (without_message (view start n t) place) n.replicas r
  pub room : (n.waiting - 1) + length (sent_by n.replicas r.post) ≤ n.message_room
  pub applicable : Applicable n r

-- A plan, or the refusal that the delivery is declined with.
abbrev pub Plan : {F : Type 0} → Rule → F → Numbers → Tables F → ℕ → Result (Reaction F) Refusal → Type 0
Plan rule start n t place (Ok r) = Planned rule start n t place r
Plan rule start n t place (Err e) = judged rule (view start n t) (Call.Deliver place) ≡ declined (view start n t) e
