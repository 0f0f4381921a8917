-- Histories: what was called on a register since it was commissioned, and what came of it.
use Rattle.std.specs.Prelude.{ℕ, List, [], ◌∷◌, ◌++◌, map}
use Rattle.quorum.specs.Sets.{Rule}
use Rattle.model.specs.declared.messages.Message.{Message}
use Rattle.model.specs.declared.calls.Call.{Call}
use Rattle.model.specs.Answers.{Answer}
use Rattle.model.specs.State.{State, fresh}
use Rattle.model.specs.Steps.{Outcome, step}

-- A call, its answer, the message that it took out or copied, if any, and those that it sent.
pub record Event (F : Type 0) : Type 0 where
  pub call : Call F
  pub reply : Answer F
  pub taken : List (Message F)
  pub sent : List (Message F)

-- The events in the order of the calls. A declined call has its place among them.
abbrev pub History : Type 0 → Type 0
History F = List (Event F)

abbrev pub event : {F : Type 0} → Call F → Outcome F → Event F
event c o = record { call = c; reply = o.reply; taken = o.taken; sent = o.sent }

-- The events lead from a newly commissioned register to this state: whatever is called next, each call does its step.
pub data Grows {F : Type 0} (rule : Rule) (start : F) : History F → State F → Type 0 where
  begun : (readers message_room journal_room : ℕ)
      → Grows rule start [] (fresh rule start readers message_room journal_room)
  more : {h : History F} {s : State F} → Grows rule start h s → (c : Call F)
      → Grows rule start (h ++ event c (step rule s c) ∷ []) (step rule s c).next

-- The history of a list of calls, and the state after them.
pub record Run (F : Type 0) : Type 0 where
  pub history : History F
  pub state : State F

unfoldable pub run : {F : Type 0} → Rule → State F → List (Call F) → Run F
run {F} rule s [] = record { history = []; state = s }
run {F} rule s (c ∷ cs) =
    let o : Outcome F = step rule s c in
    let rest : Run F = run rule o.next cs in
    record { history = event c o ∷ rest.history; state = rest.state }

abbrev pub replies : {F : Type 0} → History F → List (Answer F)
replies h = map (λ e. e.reply) h
