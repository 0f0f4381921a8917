-- Messages that a step sends, and how they are counted.
use Rattle.std.specs.Prelude.{ℕ, ◌+◌, min}
use Rattle.model.specs.declared.journal.Operation.{Operation}
use Rattle.model.specs.declared.messages.Message.{Message}
use Rattle.model.specs.declared.parties.Party.{Party}
use Rattle.model.specs.State.{new_message}
use Rattle.model.specs.Deliveries.{carried}

-- The same message to another receiver.
abbrev pub sent_to : {F : Type 0} → Message F → Party → Message F
sent_to m to = new_message m.kind m.operation m.sender to (carried m)

-- A line after so many more messages of its operation.
abbrev pub sent_more : {F : Type 0} → Operation F → ℕ → Operation F
sent_more o k = record o { sent = min (o.sent + k) 65535 }
