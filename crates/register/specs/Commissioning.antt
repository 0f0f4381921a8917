-- A draft, and its commissioning.
use Rattle.std.specs.Prelude.{◌≡◌, ℕ, ◌*◌, Bool, ◌&&◌, length, replicate, None, Option, ◌==◌, nat_le}
use Rattle.quorum.specs.declared.refusal.RuleRefusal.{RuleRefusal}
use Rattle.quorum.specs.Refusals.{limited, sized}
use Rattle.model.specs.State.{new_writer, new_replica, new_reader, new_mark}
use Rattle.tables.specs.declared.numbers.Numbers.{Numbers}
use Rattle.tables.specs.View.{Tables}

-- A draft has a rule of 1 to 24 replicas, and 1 to 32 readers.
abbrev pub draft_refusal : ℕ → ℕ → Option RuleRefusal
draft_refusal size readers = limited (sized size && (nat_le 1 readers && nat_le readers 32)) None

-- Whether the tables of the parties have the lengths that so many replicas and readers need.
abbrev pub parties_fit : ℕ → ℕ → ℕ → ℕ → ℕ → Bool
parties_fit size width replicas readers marks = (replicas == size) && readers == width && marks == size * width

-- The numbers of a newly commissioned register for so many replicas and readers, with room for so many messages and lines.
abbrev pub new_numbers : ℕ → ℕ → ℕ → ℕ → Numbers
new_numbers replicas readers message_room journal_room = record {
  writer = new_writer;
  replicas = replicas;
  readers = readers;
  message_room = message_room;
  journal_room = journal_room;
  waiting = 0;
  lines = 0;
  finished = 0;
}

-- The tables of the parties hold new records only.
pub record Filled {F : Type 0} (start : F) (t : Tables F) : Type 0 where
  pub replicas : t.replicas ≡ replicate (length t.replicas) (new_replica start)
  pub readers : t.readers ≡ replicate (length t.readers) (new_reader start)
  pub marks : t.marks ≡ replicate (length t.marks) new_mark
