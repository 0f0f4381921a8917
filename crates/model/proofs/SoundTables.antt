-- Sound tables, by what the test tells of each reader, mark and message; and that a later state keeps it.
use Rattle.std.proofs.Common.{◌≡◌, ℕ, ◌<◌, ◌≤◌, Bool, true, not, ◌&&◌, eqb, ltb, leb, List, [], ◌∷◌, length, refl, ap, ◌∙◌, inl, inr, zero-add, arith}
use Rattle.std.specs.List.{AllByRecursion as All, list_all}
use Rattle.std.proofs.lemmas.Bool.{and_parts, and_from, or_cases, or_left, or_right, le-leb, leb-true}
use Rattle.std.proofs.ByRecursion.{All-weaker}
use Rattle.quorum.specs.Sets.{Rule}
use Rattle.model.specs.declared.parties.Party.{Party}
use Rattle.model.specs.declared.messages.MessageKind.{MessageKind}
use Rattle.model.specs.declared.journal.OperationKind.{OperationKind}
use Rattle.model.specs.declared.reader.Reader.{Reader}
use Rattle.model.specs.declared.marks.RelayMark.{RelayMark}
use Rattle.model.specs.declared.messages.Message.{Message}
use Rattle.model.specs.declared.journal.Operation.{Operation}
use Rattle.model.specs.State.{State, new_reader, reader, line}
use Rattle.model.specs.Sound.{reader_within, mark_within, sets_within, a_reader, a_replica, suits, in_journal}
use Rattle.model.specs.Sound.{addressed, messages_addressed, serves, owned, recorded, messages_recorded, idle, own_read}
use Rattle.model.specs.Sound.{is_read, is_reader, placed, readers_placed, sound}
use Rattle.model.proofs.Items.{Passes, each_tells, each_from_all, places_tell, from_places}

abbrev pub MarkIn : Rule → RelayMark → Type 0
MarkIn rule k = mark_within rule k ≡ true

module _ {F : Type 0} where
  -- A message is addressed and its line can have it.
  abbrev pub Fits : Rule → State F → Message F → Type 0
  Fits rule s m = (addressed rule s m ≡ true) × (recorded s m.kind (line s m.operation) ≡ true)

  abbrev pub ReaderIn : Rule → Reader F → Type 0
  ReaderIn rule d = reader_within rule d ≡ true

  abbrev pub Placed : State F → ℕ → Reader F → Type 0
  Placed s r d = placed s r d ≡ true

  pub record Tables (rule : Rule) (s : State F) : Type 0 where
    pub readers_in : All (ReaderIn rule) s.readers
    pub marks_in : All (MarkIn rule) s.marks
    pub all_fit : All (Fits rule s) s.messages
    pub all_placed : (r : ℕ) → r < length s.readers → Placed s r (reader s r)

  both : (P Q : Message F → Type 0) (l : List (Message F)) → All P l → All Q l → All (λ m. P m × Q m) l
  both P Q [] p q = tt
  both P Q (m ∷ l) p q = ((p.0, q.0), both P Q l p.1 q.1)

  abbrev recorded_in : State F → Message F → Bool
  recorded_in s m = recorded s m.kind (line s m.operation)

  -- What the test tells, and what it takes to pass it

  pub sound_tells : (rule : Rule) (s : State F) → sound rule s ≡ true → Tables rule s
  unfolding sound sets_within messages_addressed messages_recorded readers_placed
  sound_tells rule s e =
      let a = and_parts (sets_within rule s && messages_addressed rule s && messages_recorded s) (readers_placed s) e in
      let b = and_parts (sets_within rule s && messages_addressed rule s) (messages_recorded s) a.0 in
      let c = and_parts (sets_within rule s) (messages_addressed rule s) b.0 in
      let d = and_parts (list_all (reader_within rule) s.readers) (list_all (mark_within rule) s.marks) c.0 in
      record {
        readers_in = each_tells (reader_within rule) s.readers d.0;
        marks_in = each_tells (mark_within rule) s.marks d.1;
        all_fit = both (Passes (addressed rule s)) (Passes (recorded_in s)) s.messages
            (each_tells (addressed rule s) s.messages c.1) (each_tells (recorded_in s) s.messages b.1);
        all_placed = λ r h. rw zero-add at (places_tell (placed s) (new_reader s.start) 0 s.readers a.1 r h);
      }

  pub tables_sound : (rule : Rule) (s : State F) → Tables rule s → sound rule s ≡ true
  unfolding sound sets_within messages_addressed messages_recorded readers_placed
  tables_sound rule s t =
      and_from _ _
      (and_from _ _
      (and_from _ _
      (and_from _ _ (each_from_all (reader_within rule) s.readers t.readers_in)
      (each_from_all (mark_within rule) s.marks t.marks_in))
      (each_from_all (addressed rule s) s.messages
      (All-weaker (Fits rule s) (Passes (addressed rule s)) (λ m h. h.0) s.messages t.all_fit)))
      (each_from_all (recorded_in s) s.messages
      (All-weaker (Fits rule s) (Passes (recorded_in s)) (λ m h. h.1) s.messages t.all_fit)))
      (from_places (placed s) (new_reader s.start) 0 s.readers (λ r h. rw zero-add (t.all_placed r h)))

  -- Later states: as many readers, and the lines of before are of the same operations

  -- What never changes of a line.
  abbrev pub identity : Operation F → OperationKind × Party
  identity o = (o.kind, o.owner)

  pub record Later (s t : State F) : Type 0 where
    pub as_many : length t.readers ≡ length s.readers
    pub more_lines : length s.journal ≤ length t.journal
    pub same_line : (n : ℕ) → in_journal s n ≡ true → identity (line t n) ≡ identity (line s n)

  pub in_journal_from : (s : State F) (n : ℕ) → 1 ≤ n → n ≤ length s.journal → in_journal s n ≡ true
  in_journal_from s n a b =
      and_from (leb 1 n) (leb n (length s.journal)) (le-leb 1 n a) (le-leb n (length s.journal) b)

  pub in_journal_tells : (s : State F) (n : ℕ) → in_journal s n ≡ true → (1 ≤ n) × (n ≤ length s.journal)
  in_journal_tells s n e =
      let p = and_parts (leb 1 n) (leb n (length s.journal)) e in
      (leb-true 1 n p.0, leb-true n (length s.journal) p.1)

  module _ (rule : Rule) (s t : State F) (l : Later s t) where
    pub in_journal_later : (n : ℕ) → in_journal s n ≡ true → in_journal t n ≡ true
    in_journal_later n e = let p = in_journal_tells s n e in in_journal_from t n p.0 (omega (arith, l.more_lines))

    pub a_reader_later : (p : Party) → a_reader t p ≡ a_reader s p
    a_reader_later Party.Writer = refl
    a_reader_later (Party.Reader r) = ap (λ (k : ℕ). ltb r k) l.as_many
    a_reader_later (Party.Replica c) = refl

    suits_later : (kind : MessageKind) (from to : Party) → suits rule t kind from to ≡ suits rule s kind from to
    suits_later MessageKind.Put from to = refl
    suits_later MessageKind.PutAck from to = refl
    suits_later MessageKind.Query from to = ap (λ b. b && a_replica rule to) (a_reader_later from)
    suits_later MessageKind.Have from to = ap (λ b. a_replica rule from && b) (a_reader_later to)
    suits_later MessageKind.Back from to = ap (λ b. b && a_replica rule to) (a_reader_later from)
    suits_later MessageKind.BackAck from to = ap (λ b. a_replica rule from && b) (a_reader_later to)
    suits_later MessageKind.Fan from to = ap (λ b. b && a_replica rule to) (a_reader_later from)
    suits_later MessageKind.Relay from to = refl
    suits_later MessageKind.Reply from to = ap (λ b. a_replica rule from && b) (a_reader_later to)

    owned_later : (k : OperationKind) (p : Party) → owned t k p ≡ owned s k p
    owned_later OperationKind.Write p = refl
    owned_later (OperationKind.Read k) p = a_reader_later p

    pub fits_later : (m : Message F) → Fits rule s m → Fits rule t m
    fits_later m (a, b) =
        let p = and_parts (suits rule s m.kind m.sender m.receiver) (in_journal s m.operation) a in
        let q = l.same_line m.operation p.1 in (
          and_from _ _ (suits_later m.kind m.sender m.receiver ∙ p.0) (in_journal_later m.operation p.1),
          ap (λ (i : OperationKind × Party). serves m.kind i.0 && owned t i.0 i.1) q
              ∙ ap (λ o. serves m.kind (line s m.operation).kind && o)
              (owned_later (line s m.operation).kind (line s m.operation).owner) ∙ b,
        )

    pub placed_later : (r : ℕ) (d : Reader F) → Placed s r d → Placed t r d
    placed_later r d e = elim (or_cases (idle d.phase && eqb d.operation 0) _ e) [
      | inl i ↦ or_left _ _ i
      | inr w ↦
          let p = and_parts (not (idle d.phase) && in_journal s d.operation)
          (own_read r (line s d.operation)) w in
          let q = and_parts (not (idle d.phase)) (in_journal s d.operation) p.0 in
          or_right (idle d.phase && eqb d.operation 0) _
          (and_from _ _ (and_from _ _ q.0 (in_journal_later d.operation q.1))
          (ap (λ (i : OperationKind × Party). is_read i.0 && is_reader r i.1)
          (l.same_line d.operation q.1) ∙ p.1))
    ]
