-- What the soundness of tables goes by: of the rule its size, of the register its readers and the lines in use.
use Rattle.std.specs.Prelude.{ℕ, Bool, false, ◌&&◌, List, []}
use Rattle.quorum.specs.Sets.{Rule}
use Rattle.model.specs.declared.reader.Reader.{Reader}
use Rattle.model.specs.declared.messages.Message.{Message}
use Rattle.model.specs.declared.journal.Operation.{Operation}
use Rattle.model.specs.State.{State, new_writer, line}
use Rattle.model.specs.Sound.{reader_within, addressed, recorded, placed}

-- A rule that has this size, and no set that ends a wait or keeps a figure.
abbrev pub of_size : ℕ → Rule
of_size n = record { size = n; round = λ members. false; hold = λ members. false }

-- A register that starts with this figure and has these readers and these lines, and nothing else.
abbrev pub register_of : {F : Type 0} → F → List (Reader F) → List (Operation F) → State F
register_of start readers lines = record {
  start = start;
  message_room = 0;
  journal_room = 0;
  writer = new_writer;
  replicas = [];
  readers = readers;
  marks = [];
  messages = [];
  journal = lines;
  finished = 0;
}

-- A reader's sets name replicas, and it is idle or has a read of its own under way.
abbrev pub reader_sound : {F : Type 0} → Rule → State F → ℕ → Reader F → Bool
reader_sound rule s r d = reader_within rule d && placed s r d

-- A message is addressed, and its line is of an operation that it can serve.
abbrev pub message_sound : {F : Type 0} → Rule → State F → Message F → Bool
message_sound rule s m = addressed rule s m && recorded s m.kind (line s m.operation)
