-- What the finish of a reaction comes to, as an outcome of its own.
use Rattle.std.specs.Prelude.{ℕ, [], Some, None, Option, Ok}
use Rattle.model.specs.declared.journal.Operation.{Operation}
use Rattle.model.specs.State.{State}
use Rattle.model.specs.Records.{one_more, ended}
use Rattle.model.specs.Steps.{Outcome}
use Rattle.tables.specs.declared.numbers.Numbers.{Numbers}
use Rattle.reaction.specs.declared.reaction.Finish.{Finish}
use Rattle.reaction.specs.Applied.{with_finish_of, reply_of}
use Rattle.steps.specs.Renumbered.{with_finished}

-- A line after its operation finished so, at this event.
abbrev pub ended_by : {F : Type 0} → Operation F → ℕ → Finish F → Operation F
ended_by o event f = ended o event (record { stamp = f.stamp; figure = f.figure }) f.exchanges

-- The register's numbers after a finish.
abbrev pub numbers_ended : {F : Type 0} → Numbers → Option (Finish F) → Numbers
numbers_ended n None = n
numbers_ended n (Some f) = with_finished n (one_more n.finished)

-- The answer to what finishes, and the state after it. Nothing is sent.
abbrev pub ending : {F : Type 0} → State F → Option (Finish F) → Outcome F
ending s f = record { reply = Ok (reply_of s f); taken = []; sent = []; next = with_finish_of s f }
