-- The register and its tables as one value: what it begins with, how it is read and how it is changed.
use Rattle.std.specs.Prelude.{ℕ, zero, suc, pred, ◌+◌, ◌*◌, Bool, false, List, [], ◌∷◌, ◌++◌, length, drop, replicate, slice_index_or, slice_set}
use Rattle.quorum.specs.Sets.{Rule}
use Rattle.model.specs.declared.parties.Party.{Party}
use Rattle.model.specs.declared.reader.Phase.{Phase}
use Rattle.model.specs.declared.messages.MessageKind.{MessageKind}
use Rattle.model.specs.declared.journal.OperationKind.{OperationKind}
use Rattle.model.specs.declared.writer.Writer.{Writer}
use Rattle.model.specs.declared.replica.Replica.{Replica}
use Rattle.model.specs.declared.reader.Reader.{Reader}
use Rattle.model.specs.declared.marks.RelayMark.{RelayMark}
use Rattle.model.specs.declared.messages.Message.{Message}
use Rattle.model.specs.declared.journal.Operation.{Operation}
use Rattle.model.specs.Stamps.{Stamp, no_stamp}

-- A stamp and its figure, as a replica holds them and a message carries them.
pub record Held (F : Type 0) : Type 0 where
  pub stamp : Stamp
  pub figure : F

-- Of the messages only those that wait, in order, and of the journal only the lines in use.
pub record State (F : Type 0) : Type 0 where
  -- the figure that it began with
  pub start : F
  -- how many messages may wait, and how many lines the journal may have
  pub message_room : ℕ
  pub journal_room : ℕ
  pub writer : Writer
  pub replicas : List (Replica F)
  pub readers : List (Reader F)
  pub marks : List RelayMark
  pub messages : List (Message F)
  pub journal : List (Operation F)
  -- how many operations are finished, up to 65,535
  pub finished : ℕ

-- TABLES

-- A table whose front is this, and whose other places keep what they held.
abbrev pub stored : {A : Type 0} → List A → List A → List A
stored front table = front ++ drop (length front) table

-- A list without what stands at a place.
unfoldable pub without : {A : Type 0} → List A → ℕ → List A
without [] n = []
without (x ∷ xs) zero = xs
without (x ∷ xs) (suc n) = x ∷ without xs n

-- The number of a party among its kind, 0 for the writer. It does not tell the kind: where a number is taken for a reader's or a
-- replica's, soundness says that the party is one.
abbrev pub index : Party → ℕ
index Party.Writer = 0
index (Party.Reader r) = r
index (Party.Replica c) = c

-- A NEW REGISTER

-- What an unused stamp and figure hold.
abbrev pub unused : {F : Type 0} → F → Held F
unused f = record { stamp = no_stamp; figure = f }

abbrev pub new_writer : Writer
new_writer = record { halted = false; last = no_stamp; operation = 0; acknowledgers = 0 }

abbrev pub new_replica : {F : Type 0} → F → Replica F
new_replica f = record { stamp = no_stamp; figure = f; halted = false }

abbrev pub new_reader : {F : Type 0} → F → Reader F
new_reader f = record {
  halted = false;
  operation = 0;
  phase = Phase.Idle;
  replies = 0;
  best_stamp = no_stamp;
  best_figure = f;
  holders = 0;
}

abbrev pub new_mark : RelayMark
new_mark = record { operation = 0; relayers = 0; replied = false }

-- A newly commissioned register for so many readers, with room for so many messages and lines.
unfoldable pub fresh : {F : Type 0} → Rule → F → ℕ → ℕ → ℕ → State F
fresh rule start readers message_room journal_room = record {
  start = start;
  message_room = message_room;
  journal_room = journal_room;
  writer = new_writer;
  replicas = replicate rule.size (new_replica start);
  readers = replicate readers (new_reader start);
  marks = replicate (rule.size * readers) new_mark;
  messages = [];
  journal = [];
  finished = 0;
}

-- A message that carries x.
abbrev pub new_message : {F : Type 0} → MessageKind → ℕ → Party → Party → Held F → Message F
new_message kind n from to x = record {
  kind = kind;
  operation = n;
  sender = from;
  receiver = to;
  stamp = x.stamp;
  figure = x.figure;
}

-- A line of an operation that starts at this event, with x.
abbrev pub new_line : {F : Type 0} → OperationKind → Party → ℕ → Held F → Operation F
new_line kind owner event x = record {
  kind = kind;
  owner = owner;
  started = event;
  finished = 0;
  exchanges = 0;
  stamp = x.stamp;
  figure = x.figure;
  sent = 0;
}

-- READING IT. A place past the end of a table reads as a new record: what reads one without a test that it is there is right
-- only where the tables are sound (Sound), or behind the tests of the call (`tests` in Steps).

abbrev pub no_message : {F : Type 0} → F → Message F
no_message f = new_message MessageKind.Query 0 Party.Writer Party.Writer (unused f)

abbrev pub no_line : {F : Type 0} → F → Operation F
no_line f = new_line OperationKind.Write Party.Writer 0 (unused f)

abbrev pub replica : {F : Type 0} → State F → ℕ → Replica F
replica s c = slice_index_or s.replicas c (new_replica s.start)

abbrev pub reader : {F : Type 0} → State F → ℕ → Reader F
reader s r = slice_index_or s.readers r (new_reader s.start)

abbrev pub message : {F : Type 0} → State F → ℕ → Message F
message s place = slice_index_or s.messages place (no_message s.start)

-- The line of operation n: they are numbered from 1. 0, which is no operation, reads as the first line: whoever looks a line up
-- tests first that it is in the journal, or knows it by soundness.
abbrev pub line : {F : Type 0} → State F → ℕ → Operation F
line s n = slice_index_or s.journal (pred n) (no_line s.start)

-- Right only for a reader that exists: from a higher r it is the place of another replica's mark.
abbrev pub mark_place : {F : Type 0} → State F → ℕ → ℕ → ℕ
mark_place s c r = c * length s.readers + r

-- The mark that replica c keeps for reader r.
abbrev pub mark : {F : Type 0} → State F → ℕ → ℕ → RelayMark
mark s c r = slice_index_or s.marks (mark_place s c r) new_mark

-- What replica c holds.
abbrev pub held : {F : Type 0} → State F → ℕ → Held F
held s c = record { stamp = (replica s c).stamp; figure = (replica s c).figure }

abbrev pub halted : {F : Type 0} → State F → Party → Bool
halted s Party.Writer = s.writer.halted
halted s (Party.Reader r) = (reader s r).halted
halted s (Party.Replica c) = (replica s c).halted

-- CHANGING IT

abbrev pub with_writer : {F : Type 0} → State F → Writer → State F
with_writer s w = record s { writer = w }

abbrev pub with_replicas : {F : Type 0} → State F → List (Replica F) → State F
with_replicas s l = record s { replicas = l }

abbrev pub with_readers : {F : Type 0} → State F → List (Reader F) → State F
with_readers s l = record s { readers = l }

abbrev pub with_marks : {F : Type 0} → State F → List RelayMark → State F
with_marks s l = record s { marks = l }

abbrev pub with_messages : {F : Type 0} → State F → List (Message F) → State F
with_messages s l = record s { messages = l }

-- The journal and the number of finished operations.
abbrev pub with_journal : {F : Type 0} → State F → List (Operation F) → ℕ → State F
with_journal s l n = record s { journal = l; finished = n }

abbrev pub with_reader : {F : Type 0} → State F → ℕ → Reader F → State F
with_reader s r d = with_readers s (slice_set s.readers r d)

abbrev pub with_mark : {F : Type 0} → State F → ℕ → ℕ → RelayMark → State F
with_mark s c r k = with_marks s (slice_set s.marks (mark_place s c r) k)

-- Replica c holds x.
abbrev pub with_held : {F : Type 0} → State F → ℕ → Held F → State F
with_held s c x = with_replicas s (slice_set s.replicas c (record (replica s c) { stamp = x.stamp; figure = x.figure }))

abbrev pub without_message : {F : Type 0} → State F → ℕ → State F
without_message s place = with_messages s (without s.messages place)
