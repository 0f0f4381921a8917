-- Numbers that change keep what holds of them, and tell how many records are in use.
use Rattle.std.proofs.Common.{◌≡◌, ℕ, ◌≤◌, length, take, refl, ◌∙◌, arith}
use Rattle.std.proofs.lemmas.List.{length-take-le}
use Rattle.model.specs.declared.writer.Writer.{Writer}
use Rattle.tables.specs.declared.numbers.Numbers.{Numbers}
use Rattle.tables.specs.View.{Tables, Kept}
use Rattle.steps.specs.Doing.{SameSizes}

module _ (n : Numbers) (w : Writer) (waiting lines finished : ℕ) where
  abbrev renumbered : Numbers
  renumbered = record n { writer = w; waiting = waiting; lines = lines; finished = finished }

  pub sizes_stay : SameSizes n renumbered
  sizes_stay = record { replicas = refl; readers = refl; message_room = refl; journal_room = refl }

  pub kept_stays : Kept n → waiting ≤ n.message_room → lines ≤ n.journal_room → w.last ≤ lines → Kept renumbered
  kept_stays kept room lines_fit stamps = record {
    some_replica = kept.some_replica;
    few_replicas = kept.few_replicas;
    some_reader = kept.some_reader;
    few_readers = kept.few_readers;
    room = room;
    few_messages = kept.few_messages;
    lines_fit = lines_fit;
    few_lines = kept.few_lines;
    stamps = stamps;
  }

pub same_sizes : (n : Numbers) → SameSizes n n
same_sizes n = sizes_stay n n.writer n.waiting n.lines n.finished

pub sizes_then : {n m l : Numbers} → SameSizes n m → SameSizes m l → SameSizes n l
sizes_then a b = record {
  replicas = b.replicas ∙ a.replicas;
  readers = b.readers ∙ a.readers;
  message_room = b.message_room ∙ a.message_room;
  journal_room = b.journal_room ∙ a.journal_room;
}

module _ {F : Type 0} (n : Numbers) (t : Tables F) (kept : Kept n) where
  pub waiting_is : length t.messages ≡ n.message_room → length (take n.waiting t.messages) ≡ n.waiting
  waiting_is fm = length-take-le n.waiting t.messages (omega (arith, kept.room))

  pub lines_are : length t.journal ≡ n.journal_room → length (take n.lines t.journal) ≡ n.lines
  lines_are fj = length-take-le n.lines t.journal (omega (arith, kept.lines_fit))
