-- The register and the lent tables as one state of the model, and its rule.
use Rattle.std.specs.Prelude.{◌≡◌, ℕ, ◌*◌, ◌≤◌, List, length, take}
use Rattle.quorum.specs.Sets.{Rule}
use Rattle.quorum.specs.declared.system.QuorumSystem.{Ghosts}
use Rattle.model.specs.declared.replica.Replica.{Replica}
use Rattle.model.specs.declared.reader.Reader.{Reader}
use Rattle.model.specs.declared.marks.RelayMark.{RelayMark}
use Rattle.model.specs.declared.messages.Message.{Message}
use Rattle.model.specs.declared.journal.Operation.{Operation}
use Rattle.model.specs.State.{State}
use Rattle.tables.specs.declared.numbers.Numbers.{Numbers}

-- The five tables, whole.
pub record Tables (F : Type 0) : Type 0 where
  pub replicas : List (Replica F)
  pub readers : List (Reader F)
  pub marks : List RelayMark
  pub messages : List (Message F)
  pub journal : List (Operation F)

abbrev pub tables : {F : Type 0} → List (Replica F) → List (Reader F) → List RelayMark → List (Message F) → List (Operation F)
    → Tables F
tables replicas readers marks messages journal =
    record { replicas = replicas; readers = readers; marks = marks; messages = messages; journal = journal }

-- Of the messages those that wait, and of the journal the lines in use.
abbrev pub view : {F : Type 0} → F → Numbers → Tables F → State F
view start n t = record {
  start = start;
  message_room = n.message_room;
  journal_room = n.journal_room;
  writer = n.writer;
  replicas = t.replicas;
  readers = t.readers;
  marks = t.marks;
  messages = take n.waiting t.messages;
  journal = take n.lines t.journal;
  finished = n.finished;
}

-- The rule of a register with so many replicas.
abbrev pub rule_for : {R : Type 0} → Ghosts R → R → ℕ → Rule
rule_for g r n = record { size = n; round = g.round r; hold = g.hold r }

-- The tables have the lengths that they were commissioned with.
pub record Fitting {F : Type 0} (n : Numbers) (t : Tables F) : Type 0 where
  pub replicas : length t.replicas ≡ n.replicas
  pub readers : length t.readers ≡ n.readers
  pub marks : length t.marks ≡ n.replicas * n.readers
  pub messages : length t.messages ≡ n.message_room
  pub journal : length t.journal ≡ n.journal_room

-- What holds of the numbers from commissioning on.
pub record Kept (n : Numbers) : Type 0 where
  pub some_replica : 1 ≤ n.replicas
  pub few_replicas : n.replicas ≤ 24
  pub some_reader : 1 ≤ n.readers
  pub few_readers : n.readers ≤ 32
  pub room : n.waiting ≤ n.message_room
  pub few_messages : n.message_room ≤ 4096
  pub lines_fit : n.lines ≤ n.journal_room
  pub few_lines : n.journal_room ≤ 4096
  -- each write raises the stamp and adds a line
  pub stamps : n.writer.last ≤ n.lines
