-- A delivered message sends no more than what it was worth and what was kept in reserve.
use Rattle.std.proofs.Common.{◌≡◌, ℕ, pred, ◌+◌, ◌*◌, ◌<◌, ◌≤◌, true, false, cond, not, ◌&&◌, ◌||◌, eqb, ltb, List, [], ◌∷◌, length, get_or, set, sym, refl, ap, ◌∙◌, subst, inl, inr, le_of_eq, mul-le-mul_right, arith, length-set}
use Rattle.std.specs.List.{AllByRecursion as All}
use Rattle.std.proofs.lemmas.List.{get_or-set_same}
use Rattle.std.proofs.lemmas.Bool.{cond_both, cond-true, cases_eq, eqb-true, eq-eqb, and_parts, or_cases, not-true, both_ways}
use Rattle.std.proofs.lemmas.Bool.Decides.{nat_tests}
use Rattle.quorum.specs.Sets.{Rule, bits}
use Rattle.model.specs.declared.parties.Party.{Party}
use Rattle.model.specs.declared.messages.MessageKind.{MessageKind}
use Rattle.model.specs.declared.journal.OperationKind.{OperationKind}
use Rattle.model.specs.declared.reader.Reader.{Reader}
use Rattle.model.specs.declared.marks.RelayMark.{RelayMark}
use Rattle.model.specs.declared.messages.Message.{Message}
use Rattle.model.specs.Stamps.{rank}
use Rattle.model.specs.State.{State, Held, index, unused, new_reader, no_line, reader, line, mark, mark_place, held, halted, with_reader, with_held, with_mark}
use Rattle.model.specs.Records.{took, best, heard, confirmed, lowered, placing, reader_freed, marked, mark_replied, acknowledged}
use Rattle.model.specs.Sound.{a_reader, a_replica, suits, owned, recorded, idle, is_reader, placed, in_journal, is_read, is_round_read, is_relay_read}
use Rattle.model.specs.Deliveries.{Effect, quiet, sending, to_all, carried, answer, counts, in_first, in_second, in_relay, read_finishing, after_have, after_last, is_quick, on_offer, on_put_ack, on_query, on_have, on_back_ack, on_reply, on_fan, on_relay, on, received}
use Rattle.model.specs.Claims.{of_operation}
use Rattle.model.proofs.Places.{reader_index, replica_index, not_idle}
use Rattle.model.proofs.Totals.{set_below, weight, only_for, only_same, only_other, load_of, load, of_operation_to_all, load_to_all, Of, to_all_of, LinesKept, lines_same, lines_ended}
use Rattle.model.proofs.Reserve.{pending, unanswered, unreplied, reserve, unreplied_below, unreplied_less, marked_below, replied_below, marked_operation, could_reply, has_replied, reserve_below}

module _ {F : Type 0} where
  -- What is in reserve for operation n of state s, where the readers and the marks are these.
  abbrev pub reserved : Rule → State F → ℕ → List (Reader F) → List RelayMark → ℕ
  reserved rule s n readers marks =
      reserve rule.size s.start (line s n).kind (index (line s n).owner) n readers marks

  -- What message m has come to. Only its operation sends.
  pub record Handled (rule : Rule) (s : State F) (m : Message F) (e : Effect F) : Type 0 where
    pub start_kept : e.next.start ≡ s.start
    pub waiting_kept : e.next.messages ≡ s.messages
    pub readers_kept : length e.next.readers ≡ length s.readers
    pub marks_kept : length e.next.marks ≡ length s.marks
    pub lines : LinesKept s.journal e.next.journal
    pub its_own : All (Of m.operation) e.sent
    pub spends : (n : ℕ) → 1 ≤ n
        → of_operation n e.sent + load rule.size n e.sent + reserved rule s n e.next.readers e.next.marks
        ≤ load_of rule.size n m + reserved rule s n s.readers s.marks

  module _ (rule : Rule) (s : State F) (m : Message F) where
    quiet_handled : Handled rule s m (quiet s)
    unfolding of_operation load
    quiet_handled = record {
      start_kept = refl;
      waiting_kept = refl;
      readers_kept = refl;
      marks_kept = refl;
      lines = lines_same s.journal;
      its_own = tt;
      spends = λ n b. omega arith;
    }

    -- one answer, for a message that is worth one
    answers_one : (kind : MessageKind) → weight rule.size m.kind ≡ 1 → weight rule.size kind ≡ 0
        → (x : Held F) (n : ℕ) (rest : ℕ)
        → of_operation n (answer s m kind x ∷ []) + load rule.size n (answer s m kind x ∷ []) + rest ≤ load_of rule.size n m + rest
    unfolding of_operation load
    answers_one kind e z x n rest = elim (cases_eq m.operation n) [
      | inl u ↦ omega (arith, only_same n m.operation 1 u, only_same n m.operation (weight rule.size kind) u, only_same n m.operation (weight rule.size m.kind) u)
      | inr u ↦ omega (arith, only_other n m.operation 1 u, only_other n m.operation (weight rule.size kind) u)
    ]

    offer_handled : (ack : MessageKind) → weight rule.size m.kind ≡ 1 → weight rule.size ack ≡ 0
        → Handled rule s m (on_offer s m ack)
    unfolding on_offer
    offer_handled ack e z = record {
      start_kept = refl;
      waiting_kept = refl;
      readers_kept = refl;
      marks_kept = refl;
      lines = lines_same s.journal;
      its_own = (refl, tt);
      spends = λ n b. answers_one ack e z (unused s.start) n _;
    }

    query_handled : weight rule.size m.kind ≡ 1 → Handled rule s m (on_query s m)
    unfolding on_query
    query_handled e = record {
      start_kept = refl;
      waiting_kept = refl;
      readers_kept = refl;
      marks_kept = refl;
      lines = lines_same s.journal;
      its_own = (refl, tt);
      spends = λ n b. answers_one MessageKind.Have e refl (held s (index m.receiver)) n _;
    }

    fan_handled : weight rule.size m.kind ≡ rule.size → Handled rule s m (on_fan rule s m)
    unfolding on_fan
    fan_handled e = record {
      start_kept = refl;
      waiting_kept = refl;
      readers_kept = refl;
      marks_kept = refl;
      lines = lines_same s.journal;
      its_own =
          to_all_of m.operation m.operation refl rule.size MessageKind.Relay m.receiver
          (held s (index m.receiver));
      spends = λ n b.
          let x = held s (index m.receiver) in
          let o = of_operation_to_all n rule.size MessageKind.Relay m.operation m.receiver x in
          let l = load_to_all rule.size n rule.size MessageKind.Relay m.operation m.receiver x in
          let w = ap (only_for n m.operation) e in
          let z = none_of n m.operation in
          omega arith;
    }
      where
        none_of : (n k : ℕ) → only_for n k (rule.size * 0) ≡ 0
        none_of n k = elim (cases_eq k n) [
          | inl u ↦ omega (arith, only_same n k (rule.size * 0) u)
          | inr u ↦ only_other n k (rule.size * 0) u
        ]

    put_ack_handled : Handled rule s m (on_put_ack rule s m)
    unfolding on_put_ack of_operation load
    put_ack_handled =
        cond_both (not (eqb s.writer.operation m.operation)) _ _ (Handled rule s m) (λ _. quiet_handled)
        (λ _. cond_both (rule.round (bits (acknowledged s.writer (index m.sender)).acknowledgers)) _ _ (Handled rule s m)
        (λ _. record {
          start_kept = refl;
          waiting_kept = refl;
          readers_kept = refl;
          marks_kept = refl;
          lines = lines_ended s.journal (pred m.operation) (no_line s.start) _ _ _;
          its_own = tt;
          spends = λ n b. omega arith;
        })
        (λ _. record {
          start_kept = refl;
          waiting_kept = refl;
          readers_kept = refl;
          marks_kept = refl;
          lines = lines_same s.journal;
          its_own = tt;
          spends = λ n b. omega arith;
        }))

    -- A reader becomes d

    module _ (r : ℕ) (d : Reader F) where
      reader_below : (n : ℕ) → pending rule.size n d ≤ pending rule.size n (reader s r)
          → reserved rule s n (set s.readers r d) s.marks ≤ reserved rule s n s.readers s.marks
      reader_below n h =
          let e = ap (λ w. unreplied n w (index (line s n).owner) rule.size s.marks)
          (length-set s.readers r d) in
          reserve_below _ _ _ _ _ _
          (set_below (pending rule.size n) s.readers r d (new_reader s.start) h (index (line s n).owner))
          (le_of_eq e)

      reader_handled : ((n : ℕ) → pending rule.size n d ≤ pending rule.size n (reader s r))
          → Handled rule s m (quiet (with_reader s r d))
      unfolding of_operation load
      reader_handled h = record {
        start_kept = refl;
        waiting_kept = refl;
        readers_kept = length-set s.readers r d;
        marks_kept = refl;
        lines = lines_same s.journal;
        its_own = tt;
        spends = λ n b. omega (arith, reader_below n (h n));
      }

    pending_freed : (n : ℕ) (d : Reader F) → 1 ≤ n → pending rule.size n (reader_freed d) ≡ 0
    pending_freed n d b = grind (arith, nat_tests)

    finish_handled : (r : ℕ) (d : Reader F) (exchanges : ℕ) → Handled rule s m (read_finishing s r d exchanges)
    unfolding of_operation load
    finish_handled r d exchanges = record {
      start_kept = refl;
      waiting_kept = refl;
      readers_kept = length-set s.readers r (reader_freed d);
      marks_kept = refl;
      lines = lines_ended s.journal (pred d.operation) (no_line s.start) _ _ _;
      its_own = tt;
      spends = λ n b. omega (arith, reader_below r (reader_freed d) n (omega (arith, pending_freed n d b)));
    }

    last_handled : (r : ℕ) (d : Reader F) (exchanges : ℕ)
        → ((n : ℕ) → pending rule.size n d ≤ pending rule.size n (reader s r))
        → Handled rule s m (after_last rule s r d exchanges)
    last_handled r d exchanges h =
        cond_both (rule.round (bits d.replies)) _ _ (Handled rule s m) (λ _. finish_handled r d exchanges)
        (λ _. reader_handled r d h)

    back_ack_handled : Handled rule s m (on_back_ack rule s m)
    unfolding on_back_ack
    back_ack_handled =
        let r : ℕ = index m.receiver in
        cond_both (counts in_second (reader s r) m) _ _ (Handled rule s m)
        (λ _. last_handled r (confirmed (reader s r) (index m.sender)) 4 (λ n. omega arith))
        (λ _. quiet_handled)

    lowered_pending : (n : ℕ) (d : Reader F) (c : ℕ) (x : Held F)
        → pending rule.size n (lowered d c x) ≤ pending rule.size n d
    unfolding lowered
    lowered_pending n d c x =
        cond_both (eqb d.replies 0 || ltb (rank x.stamp) (rank d.best_stamp)) _ _
        (λ (y : Reader F). pending rule.size n y ≤ pending rule.size n d) (λ _. omega arith) (λ _. omega arith)

    reply_handled : Handled rule s m (on_reply rule s m)
    unfolding on_reply
    reply_handled =
        let r : ℕ = index m.receiver in
        cond_both (counts in_relay (reader s r) m) _ _ (Handled rule s m)
        (λ _. last_handled r (lowered (reader s r) (index m.sender) (carried m)) 3
        (λ n. lowered_pending n (reader s r) (index m.sender) (carried m)))
        (λ _. quiet_handled)

    -- HAVE

    heard_same : (d : Reader F) (c : ℕ) (x : Held F)
        → ((heard d c x).operation ≡ d.operation) × ((heard d c x).phase ≡ d.phase)
    unfolding heard
    heard_same d c x =
        cond_both (ltb (rank d.best_stamp) (rank x.stamp)) _ _ Same (λ _. (refl, refl))
        (λ _. cond_both (eqb (rank d.best_stamp) (rank x.stamp)) _ _ Same (λ _. (refl, refl))
        (λ _. (refl, refl)))
      where
        Same : Reader F → Type 0
        Same y = (y.operation ≡ d.operation) × (y.phase ≡ d.phase)

    owner_is : (r : ℕ) (p : Party) → is_reader r p ≡ true → index p ≡ r
    owner_is r Party.Writer e = absurd (both_ways false refl e)
    owner_is r (Party.Reader k) e = eqb-true k r e
    owner_is r (Party.Replica c) e = absurd (both_ways false refl e)

    -- the reader in its first round owns the line
    own_line : (r : ℕ) (d : Reader F) → placed s r d ≡ true → in_first d.phase ≡ true
        → index (line s d.operation).owner ≡ r
    own_line r d p f = elim (or_cases (idle d.phase && eqb d.operation 0) _ p) [
      | inl e ↦ absurd (both_ways (idle d.phase) (not_idle d.phase f) (and_parts _ _ e).0)
      | inr e ↦ owner_is r (line s d.operation).owner (and_parts (is_read (line s d.operation).kind) _ (and_parts (not (idle d.phase) && in_journal s d.operation) _ e).1).1
    ]

    pending_first : (n : ℕ) (d : Reader F) → d.operation ≡ n → in_first d.phase ≡ true
        → pending rule.size n d ≡ 2 * rule.size
    pending_first n d e f =
        cond-true (eqb d.operation n && in_first d.phase) _ _ (rw (eq-eqb d.operation n e, f) refl)

    module _ (r : ℕ) (d : Reader F) where
      place_spends : r < length s.readers → d.operation ≡ m.operation
          → ((n : ℕ) → pending rule.size n d ≡ pending rule.size n (reader s r)) → in_first d.phase ≡ true
          → is_round_read (line s m.operation).kind ≡ true → index (line s m.operation).owner ≡ r
          → (n : ℕ) → 1 ≤ n
          → of_operation n (to_all rule.size MessageKind.Back d.operation (Party.Reader r) (best d)) + load rule.size n (to_all rule.size MessageKind.Back d.operation (Party.Reader r) (best d))
          + reserved rule s n (set s.readers r (placing d)) s.marks
          ≤ load_of rule.size n m + reserved rule s n s.readers s.marks
      place_spends inside op same first round own n b =
          let o = of_operation_to_all n rule.size MessageKind.Back d.operation (Party.Reader r) (best d) in
          let l = load_to_all rule.size n rule.size MessageKind.Back d.operation (Party.Reader r) (best d) in
          elim (cases_eq d.operation n) [
            | inl u ↦
                let e : m.operation ≡ n = omega arith in
                let kind_is = subst (λ (k : ℕ). is_round_read (line s k).kind ≡ true) e round in
                let owner_of = subst (λ (k : ℕ). index (line s k).owner ≡ r) e own in
                let old = ap (λ (k : ℕ). pending rule.size n (get_or s.readers k (new_reader s.start)))
                owner_of in
                let new = ap
                (λ (k : ℕ). pending rule.size n (get_or (set s.readers r (placing d)) k (new_reader s.start)))
                owner_of in
                let at_r = ap (pending rule.size n)
                (get_or-set_same s.readers r (placing d) (new_reader s.start) inside) in
                let full = pending_first n d u first in
                let before = cond-true (is_round_read (line s n).kind)
                (pending rule.size n (get_or s.readers (index (line s n).owner) (new_reader s.start))) 0
                kind_is in
                let after = cond-true (is_round_read (line s n).kind)
                (pending rule.size n
                (get_or (set s.readers r (placing d)) (index (line s n).owner) (new_reader s.start)))
                0 kind_is in
                let rest = ap
                (λ (w : ℕ). cond (is_relay_read (line s n).kind)
                (unreplied n w (index (line s n).owner) rule.size s.marks) 0)
                (length-set s.readers r (placing d)) in
                omega (
                  arith,
                  zero_placing n,
                  same n,
                  only_same n d.operation rule.size u,
                  only_same n d.operation
                      (rule.size * 1) u,
                )
            | inr u ↦
                let below = reader_below r (placing d) n (omega (arith, zero_placing n)) in
                omega
                (arith, only_other n d.operation rule.size u, only_other n d.operation (rule.size * 1) u)
          ]
        where
          zero_placing : (n : ℕ) → pending rule.size n (placing d) ≡ 0
          zero_placing n = grind (arith, nat_tests)

      place_handled : r < length s.readers → d.operation ≡ m.operation
          → ((n : ℕ) → pending rule.size n d ≡ pending rule.size n (reader s r)) → in_first d.phase ≡ true
          → is_round_read (line s m.operation).kind ≡ true → index (line s m.operation).owner ≡ r
          → Handled rule s m (sending (with_reader s r (placing d)) (to_all rule.size MessageKind.Back d.operation (Party.Reader r) (best d)))
      place_handled inside op same first round own = record {
        start_kept = refl;
        waiting_kept = refl;
        readers_kept = length-set s.readers r (placing d);
        marks_kept = refl;
        lines = lines_same s.journal;
        its_own = to_all_of m.operation d.operation op rule.size MessageKind.Back (Party.Reader r) (best d);
        spends = place_spends inside op same first round own;
      }

      after_have_handled : r < length s.readers → d.operation ≡ m.operation
          → ((n : ℕ) → pending rule.size n d ≡ pending rule.size n (reader s r)) → in_first d.phase ≡ true
          → is_round_read (line s m.operation).kind ≡ true → index (line s m.operation).owner ≡ r
          → Handled rule s m (after_have rule s r d)
      after_have_handled inside op same first round own =
          cond_both (rule.round (bits d.replies)) _ _ (Handled rule s m)
          (λ _. cond_both (is_quick (line s d.operation).kind && rule.hold (bits d.holders)) _ _ (Handled rule s m)
          (λ _. finish_handled r d 2)
          (λ _. place_handled inside op same first round own))
          (λ _. reader_handled r d (λ n. omega (arith, same n)))

    have_handled : index m.receiver < length s.readers → is_round_read (line s m.operation).kind ≡ true
        → placed s (index m.receiver) (reader s (index m.receiver)) ≡ true → Handled rule s m (on_have rule s m)
    unfolding on_have
    have_handled inside round place =
        let r : ℕ = index m.receiver in
        let d : Reader F = reader s r in
        let c : ℕ = index m.sender in
        cond_both (counts in_first d m) _ _ (Handled rule s m)
        (λ t.
        let u = and_parts (eqb d.operation m.operation && in_first d.phase) (not (bits d.replies c)) t in
        let v = and_parts (eqb d.operation m.operation) (in_first d.phase) u.0 in
        let h = heard_same d c (carried m) in
        let op : d.operation ≡ m.operation = eqb-true d.operation m.operation v.0 in
        after_have_handled r (heard d c (carried m)) inside (h.0 ∙ op)
        (λ n. ap (λ k. cond (eqb k n && in_first (heard d c (carried m)).phase) (2 * rule.size) 0) h.0 ∙ ap
        (λ p. cond (eqb d.operation n && in_first p) (2 * rule.size) 0) h.1)
        (ap in_first h.1 ∙ v.1) round (ap (λ k. index (line s k).owner) (sym op) ∙ own_line r d place v.1))
        (λ _. quiet_handled)

    -- RELAY

    place_in_marks : (c r : ℕ) → c < rule.size → r < length s.readers
        → length s.marks ≡ rule.size * length s.readers → mark_place s c r < length s.marks
    place_in_marks c r h k e =
        let p = mul-le-mul_right (length s.readers) h in
        omega arith

    -- replica c's mark for reader r becomes k, and so much is sent
    module _ (c r : ℕ) (k : RelayMark) (x : Held F) where
      mark_below : (n : ℕ) → unanswered n k ≤ unanswered n (mark s c r)
          → reserved rule s n s.readers (set s.marks (mark_place s c r) k) ≤ reserved rule s n s.readers s.marks
      mark_below n h =
          reserve_below _ _
          (pending rule.size n (get_or s.readers (index (line s n).owner) (new_reader s.start))) _ _ _
          (omega arith)
          (unreplied_below n (length s.readers) (index (line s n).owner) rule.size s.marks
          (mark_place s c r) k h)

      mark_handled : ((n : ℕ) → unanswered n k ≤ unanswered n (mark s c r))
          → Handled rule s m (quiet (with_mark (with_held s c x) c r k))
      unfolding of_operation load
      mark_handled h = record {
        start_kept = refl;
        waiting_kept = refl;
        readers_kept = refl;
        marks_kept = length-set s.marks (mark_place s c r) k;
        lines = lines_same s.journal;
        its_own = tt;
        spends = λ n b. omega (arith, mark_below n (h n));
      }

      replies_spends : c < rule.size → mark_place s c r < length s.marks
          → ((n : ℕ) → unanswered n k ≤ unanswered n (mark s c r))
          → unanswered m.operation (mark s c r) ≡ 1 → unanswered m.operation k ≡ 0
          → is_relay_read (line s m.operation).kind ≡ true → index (line s m.operation).owner ≡ r
          → (n : ℕ) → 1 ≤ n
          → of_operation n (answer s m MessageKind.Reply x ∷ []) + load rule.size n (answer s m MessageKind.Reply x ∷ []) + reserved rule s n s.readers (set s.marks (mark_place s c r) k)
          ≤ load_of rule.size n m + reserved rule s n s.readers s.marks
      unfolding of_operation load
      replies_spends low inside h old new relay own n b = elim (cases_eq m.operation n) [
        | inl e ↦
            let kind_is = subst (λ (q : ℕ). is_relay_read (line s q).kind ≡ true) e relay in
            let owner_of = subst (λ (q : ℕ). index (line s q).owner ≡ r) e own in
            let old_n = subst (λ (q : ℕ). unanswered q (mark s c r) ≡ 1) e old in
            let new_n = subst (λ (q : ℕ). unanswered q k ≡ 0) e new in
            let less = unreplied_less n (length s.readers) r rule.size s.marks c k low inside old_n new_n in
            let before = cond-true (is_relay_read (line s n).kind)
            (unreplied n (length s.readers) (index (line s n).owner) rule.size s.marks) 0 kind_is in
            let after = cond-true (is_relay_read (line s n).kind)
            (unreplied n (length s.readers) (index (line s n).owner) rule.size
            (set s.marks (mark_place s c r) k))
            0 kind_is in
            let before_r = ap (λ (q : ℕ). unreplied n (length s.readers) q rule.size s.marks) owner_of in
            let after_r = ap
            (λ (q : ℕ). unreplied n (length s.readers) q rule.size (set s.marks (mark_place s c r) k))
            owner_of in
            omega (arith, only_same n m.operation 1 e, only_same n m.operation 0 e)
        | inr u ↦ omega (arith, mark_below n (h n), only_other n m.operation 1 u, only_other n m.operation 0 u)
      ]

      replies_handled : c < rule.size → mark_place s c r < length s.marks
          → ((n : ℕ) → unanswered n k ≤ unanswered n (mark s c r))
          → unanswered m.operation (mark s c r) ≡ 1 → unanswered m.operation k ≡ 0
          → is_relay_read (line s m.operation).kind ≡ true → index (line s m.operation).owner ≡ r
          → Handled rule s m (sending (with_mark (with_held s c x) c r k) (answer (with_held s c x) m MessageKind.Reply x ∷ []))
      replies_handled low inside h old new relay own = record {
        start_kept = refl;
        waiting_kept = refl;
        readers_kept = refl;
        marks_kept = length-set s.marks (mark_place s c r) k;
        lines = lines_same s.journal;
        its_own = (refl, tt);
        spends = replies_spends low inside h old new relay own;
      }

    held_handled : (c : ℕ) (x : Held F) → Handled rule s m (quiet (with_held s c x))
    unfolding of_operation load
    held_handled c x = record {
      start_kept = refl;
      waiting_kept = refl;
      readers_kept = refl;
      marks_kept = refl;
      lines = lines_same s.journal;
      its_own = tt;
      spends = λ n b. omega arith;
    }

    relay_handled : index m.receiver < rule.size → index (line s m.operation).owner < length s.readers
        → length s.marks ≡ rule.size * length s.readers
        → is_relay_read (line s m.operation).kind ≡ true → Handled rule s m (on_relay rule s m)
    unfolding on_relay
    relay_handled low inside shape relay =
        let c : ℕ = index m.receiver in
        let r : ℕ = index (line s m.operation).owner in
        let x : Held F = took (held s c) (carried m) in
        let k : RelayMark = mark s c r in
        let from : ℕ = index m.sender in
        let n : ℕ = m.operation in
        cond_both (ltb n k.operation) _ _ (Handled rule s m) (λ _. held_handled c x)
        (λ t. cond_both (rule.round (bits (marked k n from).relayers) && not (marked k n from).replied) _ _ (Handled rule s m)
        (λ u.
        let fresh = not-true (marked k n from).replied
        (and_parts (rule.round (bits (marked k n from).relayers)) (not (marked k n from).replied) u).1 in
        replies_handled c r (mark_replied (marked k n from)) x low (place_in_marks c r low inside shape)
        (λ q. omega (arith, replied_below q (marked k n from), marked_below q n from k t))
        (could_reply n from k t fresh) (has_replied n (marked k n from) (marked_operation n from k t)) relay refl)
        (λ _. mark_handled c r (marked k n from) x (λ q. marked_below q n from k t)))

    -- Any message, of which the tables say what sound tables do

    owner_in : (k : OperationKind) (p : Party) → is_relay_read k ≡ true → owned s k p ≡ true
        → index p < length s.readers
    owner_in OperationKind.Write p e o = absurd (both_ways false refl e)
    owner_in (OperationKind.Read k) p e o = reader_index s p o

    on_handled : (kind : MessageKind) → m.kind ≡ kind
        → suits rule s kind m.sender m.receiver ≡ true → recorded s kind (line s m.operation) ≡ true
        → ((r : ℕ) → r < length s.readers → placed s r (reader s r) ≡ true)
        → length s.marks ≡ rule.size * length s.readers
        → Handled rule s m (on rule kind s m)
    unfolding on
    on_handled MessageKind.Put e to b p shape = offer_handled MessageKind.PutAck (ap (weight rule.size) e) refl
    on_handled MessageKind.PutAck e to b p shape = put_ack_handled
    on_handled MessageKind.Query e to b p shape = query_handled (ap (weight rule.size) e)
    on_handled MessageKind.Have e to b p shape =
        let inside = reader_index s m.receiver
        (and_parts (a_replica rule m.sender) (a_reader s m.receiver) to).1 in
        have_handled inside
        (and_parts (is_round_read (line s m.operation).kind) (owned s (line s m.operation).kind (line s m.operation).owner) b).0
        (p (index m.receiver) inside)
    on_handled MessageKind.Back e to b p shape = offer_handled MessageKind.BackAck (ap (weight rule.size) e) refl
    on_handled MessageKind.BackAck e to b p shape = back_ack_handled
    on_handled MessageKind.Fan e to b p shape = fan_handled (ap (weight rule.size) e)
    on_handled MessageKind.Relay e to b p shape =
        let low = replica_index rule m.receiver
        (and_parts (a_replica rule m.sender) (a_replica rule m.receiver) to).1 in
        let booking = and_parts (is_relay_read (line s m.operation).kind)
        (owned s (line s m.operation).kind (line s m.operation).owner) b in
        relay_handled low
        (owner_in (line s m.operation).kind (line s m.operation).owner booking.0 booking.1) shape
        booking.0
    on_handled MessageKind.Reply e to b p shape = reply_handled

    pub received_handled : suits rule s m.kind m.sender m.receiver ≡ true
        → recorded s m.kind (line s m.operation) ≡ true
        → ((r : ℕ) → r < length s.readers → placed s r (reader s r) ≡ true)
        → length s.marks ≡ rule.size * length s.readers
        → Handled rule s m (received rule s m)
    unfolding received
    received_handled to b p shape =
        cond_both (halted s m.receiver) _ _ (Handled rule s m) (λ _. quiet_handled)
        (λ _. on_handled m.kind refl to b p shape)
