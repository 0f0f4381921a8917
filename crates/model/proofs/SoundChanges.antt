-- What may be done to sound tables that leaves them sound.
use Rattle.std.proofs.Common.{◌≡◌, ℕ, pred, ◌<◌, List, [], ◌∷◌, ◌++◌, length, get_or, set, refl, ap, inl, inr, arith, length-set}
use Rattle.std.specs.List.{AllByRecursion as All}
use Rattle.std.proofs.lemmas.List.{get_or-set_same, get_or-set_other, get_or_append_left, length_push}
use Rattle.std.proofs.ByRecursion.{All-weaker, All-append, All-set}
use Rattle.std.proofs.lemmas.Bool.{cases_eq}
use Rattle.quorum.specs.Sets.{Rule}
use Rattle.model.specs.declared.parties.Party.{Party}
use Rattle.model.specs.declared.journal.OperationKind.{OperationKind}
use Rattle.model.specs.declared.writer.Writer.{Writer}
use Rattle.model.specs.declared.replica.Replica.{Replica}
use Rattle.model.specs.declared.reader.Reader.{Reader}
use Rattle.model.specs.declared.marks.RelayMark.{RelayMark}
use Rattle.model.specs.declared.messages.Message.{Message}
use Rattle.model.specs.declared.journal.Operation.{Operation}
use Rattle.model.specs.State.{State, Held, no_line, new_reader, reader, mark_place, with_writer, with_replicas}
use Rattle.model.specs.State.{with_reader, with_mark, with_messages, with_journal, without_message}
use Rattle.model.specs.Deliveries.{with_finish}
use Rattle.model.specs.Steps.{counted, posted, with_line}
use Rattle.model.proofs.Lists.{all_without}
use Rattle.model.proofs.Totals.{set_keeps, counted_length, counted_keeps}
use Rattle.model.proofs.SoundTables.{Fits, ReaderIn, MarkIn, Placed, Tables, identity, Later, in_journal_tells}
use Rattle.model.proofs.SoundTables.{fits_later, placed_later}

module _ {F : Type 0} where
  -- The journal: the lines stay of the same operations where one is written again, and where counts are raised.

  abbrev pub Relined : List (Operation F) → List (Operation F) → Type 0
  Relined old new =
      (length new ≡ length old) × ((k : ℕ) (d : Operation F) → identity (get_or new k d) ≡ identity (get_or old k d))

  relined_one : (l : List (Operation F)) (i : ℕ) (e o : Operation F) → identity o ≡ identity (get_or l i e)
      → Relined l (set l i o)
  relined_one l i e o h = (length-set l i o, λ k d. set_keeps identity l i o e d h k)

  relined_counted : (f : F) (l : List (Operation F)) (sent : List (Message F)) → Relined l (counted f l sent)
  relined_counted f l sent = (counted_length f l sent, counted_keeps identity (λ o. refl) f l sent)

  pub later_reader : (s : State F) (r : ℕ) (d : Reader F) → Later s (with_reader s r d)
  later_reader s r d = record { as_many = length-set s.readers r d; more_lines = omega arith; same_line = λ n e. refl }

  module _ (rule : Rule) (s : State F) (tables : Tables rule s) where
    -- The test does not look at the writer and the replicas.
    pub parties_changed : (w : Writer) (l : List (Replica F)) → Tables rule (with_replicas (with_writer s w) l)
    parties_changed w l = record {
      readers_in = tables.readers_in;
      marks_in = tables.marks_in;
      all_fit = tables.all_fit;
      all_placed = tables.all_placed;
    }

    pub mark_changed : (c r : ℕ) (k : RelayMark) → MarkIn rule k → Tables rule (with_mark s c r k)
    mark_changed c r k h = record {
      readers_in = tables.readers_in;
      marks_in = All-set (MarkIn rule) s.marks (mark_place s c r) k h tables.marks_in;
      all_fit = tables.all_fit;
      all_placed = tables.all_placed;
    }

    pub reader_changed : (r : ℕ) (d : Reader F) → ReaderIn rule d → Placed s r d → Tables rule (with_reader s r d)
    reader_changed r d h p = record {
      readers_in = All-set (ReaderIn rule) s.readers r d h tables.readers_in;
      marks_in = tables.marks_in;
      all_fit = All-weaker (Fits rule s) (Fits rule (with_reader s r d))
          (fits_later rule s (with_reader s r d) (later_reader s r d)) s.messages tables.all_fit;
      all_placed = λ k b. elim (cases_eq k r) [
        | inl e ↦
            let inside : r < length s.readers = omega (arith, length-set s.readers r d) in
            rw (e, get_or-set_same s.readers r d (new_reader s.start) inside) p
        | inr n ↦
            let inside : k < length s.readers = omega (arith, length-set s.readers r d) in
            rw (get_or-set_other s.readers r k d (new_reader s.start) n) (tables.all_placed k inside)
      ];
    }

    -- The journal and the number of finished operations, where the lines stay of the same operations.
    pub journal_changed : (l : List (Operation F)) (n : ℕ) → Later s (with_journal s l n)
        → Tables rule (with_journal s l n)
    journal_changed l n later = record {
      readers_in = tables.readers_in;
      marks_in = tables.marks_in;
      all_fit = All-weaker (Fits rule s) (Fits rule (with_journal s l n))
          (fits_later rule s (with_journal s l n) later) s.messages tables.all_fit;
      all_placed = λ r b. placed_later rule s (with_journal s l n) later r (reader s r) (tables.all_placed r b);
    }

    pub message_taken : (place : ℕ) → Tables rule (without_message s place)
    message_taken place = record {
      readers_in = tables.readers_in;
      marks_in = tables.marks_in;
      all_fit = all_without (Fits rule s) s.messages place tables.all_fit;
      all_placed = tables.all_placed;
    }

    pub messages_added : (sent : List (Message F)) → All (Fits rule s) sent
        → Tables rule (with_messages s (s.messages ++ sent))
    messages_added sent h = record {
      readers_in = tables.readers_in;
      marks_in = tables.marks_in;
      all_fit = All-append (Fits rule s) s.messages sent tables.all_fit h;
      all_placed = tables.all_placed;
    }

  later_relined : (s : State F) (l : List (Operation F)) (n : ℕ) → Relined s.journal l → Later s (with_journal s l n)
  later_relined s l n h = record {
    as_many = refl;
    more_lines = omega (arith, h.0);
    same_line = λ k e. h.1 (pred k) (no_line s.start);
  }

  -- A line more leaves the others.
  later_push : (s : State F) (o : Operation F) → Later s (with_journal s (s.journal ++ o ∷ []) s.finished)
  later_push s o = record {
    as_many = refl;
    more_lines = omega (arith, length_push s.journal o);
    same_line = λ k e.
        let b = in_journal_tells s k e in
        let inside : pred k < length s.journal = omega arith in
        ap identity (get_or_append_left s.journal (o ∷ []) (no_line s.start) (pred k) inside);
  }

  pub line_added : (rule : Rule) (s : State F) → Tables rule s → (kind : OperationKind) (owner : Party) (x : Held F)
      → Tables rule (with_line s kind owner x)
  line_added rule s tables kind owner x = journal_changed rule s tables _ _ (later_push s _)

  pub line_ended : (rule : Rule) (s : State F) → Tables rule s → (n : ℕ) (x : Held F) (exchanges : ℕ)
      → Tables rule (with_finish s n x exchanges)
  line_ended rule s tables n x exchanges =
      journal_changed rule s tables _ _
      (later_relined s _ _ (relined_one s.journal (pred n) (no_line s.start) _ refl))

  -- The messages that are sent join the others and are counted.
  pub sent_posted : (rule : Rule) (s : State F) → Tables rule s → (sent : List (Message F)) → All (Fits rule s) sent
      → Tables rule (posted s sent)
  sent_posted rule s tables sent h =
      let t : State F = with_journal s (counted s.start s.journal sent) s.finished in
      let later : Later s t = later_relined s _ _ (relined_counted s.start s.journal sent) in
      messages_added rule t (journal_changed rule s tables _ _ later) sent
      (All-weaker (Fits rule s) (Fits rule t) (fits_later rule s t later) sent h)
