-- An operation starts, by the register's numbers.
use Rattle.std.specs.Prelude.{ℕ, ◌+◌, ◌<◌, ◌≤◌, List, length}
use Rattle.model.specs.declared.journal.Operation.{Operation}
use Rattle.model.specs.declared.journal.OperationKind.{OperationKind}
use Rattle.model.specs.declared.messages.Message.{Message}
use Rattle.model.specs.declared.reader.Reader.{Reader}
use Rattle.model.specs.declared.writer.Writer.{Writer}
use Rattle.tables.specs.declared.numbers.Numbers.{Numbers}

-- The numbers with this writer, one line more, and a message to every replica.
abbrev pub started : Numbers → Writer → Numbers
started n w = record n { writer = w; waiting = n.waiting + n.replicas; lines = n.lines + 1 }

-- The line of an operation whose owner has sent this message to every replica.
abbrev pub opened_line : {F : Type 0} → Numbers → OperationKind → Message F → Operation F
opened_line n kind m = record {
  kind = kind;
  owner = m.sender;
  started = n.lines + 1 + n.finished;
  finished = 0;
  exchanges = 0;
  stamp = m.stamp;
  figure = m.figure;
  sent = n.replicas;
}

-- What a read that is not refused finds.
pub record ReadClear {F : Type 0} (n : Numbers) (ds : List (Reader F)) (r : ℕ) : Type 0 where
  pub there : r < length ds
  pub line : n.lines < n.journal_room
  pub room : n.waiting + n.replicas ≤ n.message_room
