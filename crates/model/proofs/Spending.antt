-- What each call sends, and what it leaves that can still be sent.
use Rattle.std.proofs.Common.{◌≡◌, ℕ, zero, suc, pred, ◌+◌, ◌*◌, ◌<◌, ◌≤◌, min, Bool, true, false, cond, not, ◌&&◌, eqb, leb, List, [], ◌∷◌, ◌++◌, length, get_or, set, Some, None, Option, sym, refl, ap, ◌∙◌, subst, inl, inr, le_of_eq, arith, length-set, Ok, Err}
use Rattle.std.specs.List.{AllByRecursion as All, list_all}
use Rattle.std.proofs.lemmas.List.{get_or_append_left, get_or_push, get_or_past, length_push}
use Rattle.std.proofs.ByRecursion.{All-weaker}
use Rattle.std.proofs.lemmas.Bool.{cond_both, cases_eq, leb-true, leb-false, and_parts, not-false, both_ways}
use Rattle.std.proofs.lemmas.Bool.Decides.{nat_tests}
use Rattle.quorum.specs.Sets.{Rule}
use Rattle.model.specs.declared.parties.Party.{Party}
use Rattle.model.specs.declared.reader.Phase.{Phase}
use Rattle.model.specs.declared.messages.MessageKind.{MessageKind}
use Rattle.model.specs.declared.journal.OperationKind.{OperationKind}
use Rattle.model.specs.declared.journal.ReadKind.{ReadKind}
use Rattle.model.specs.declared.writer.Writer.{Writer}
use Rattle.model.specs.declared.replica.Replica.{Replica}
use Rattle.model.specs.declared.reader.Reader.{Reader}
use Rattle.model.specs.declared.marks.RelayMark.{RelayMark}
use Rattle.model.specs.declared.messages.Message.{Message}
use Rattle.model.specs.declared.journal.Operation.{Operation}
use Rattle.model.specs.declared.calls.Call.{Call}
use Rattle.model.specs.declared.answers.Reply.{Reply}
use Rattle.model.specs.declared.answers.Refusal.{Refusal}
use Rattle.model.specs.State.{State, Held, index, unused, new_reader, no_line, no_message, replica, reader, message, line, without, without_message}
use Rattle.model.specs.Records.{one_sent, reading, reader_halted, writing, writer_halted, replica_halted}
use Rattle.model.specs.Sound.{each_from, addressed, suits, recorded, placed, in_journal, messages_addressed, messages_recorded, readers_placed, sets_within, sound, is_round_read, is_relay_read}
use Rattle.model.specs.Deliveries.{Effect, to_all, in_first, received}
use Rattle.model.specs.Steps.{Outcome, declined, counted, posted, outcome, next_number, to_write, write, opening_phase, opening_message, read, deliver, dropped, duplicated, halt, done, tests, first_of, refusal, overfull, settled, step, no_place}
use Rattle.model.specs.Claims.{In, asked, of_operation, limit}
use Rattle.model.proofs.Totals.{set_below, weight, only_same, only_other, load, load_append, load_without, of_operation_to_all, load_to_all, Of, to_all_of, of_operation_none, load_none, load_past, LinesKept, counted_length, counted_keeps, counted_sent}
use Rattle.model.proofs.Reserve.{pending, unreplied, reserve, unreplied_most, reserve_below}
use Rattle.model.proofs.Handlers.{reserved, Handled, received_handled}
use Rattle.model.specs.Answers.{Answer}

-- What a call asks for

abbrev kind_asked : Option (Party × OperationKind) → OperationKind
kind_asked (Some x) = x.1
kind_asked None = OperationKind.Write

abbrev is_asked : Option (Party × OperationKind) → Bool
is_asked (Some x) = true
is_asked None = false

not_asked : (x : Party × OperationKind) → None ≡ Some x → ⊥
not_asked x e = both_ways false refl (ap is_asked e)

-- Tests of every item of a list

pub each_at : {A : Type 0} (test : A → Bool) (l : List A) (i : ℕ) (d : A) → i < length l → list_all test l ≡ true
    → test (get_or l i d) ≡ true
each_at test [] i d h e = absurd (omega arith)
each_at test (x ∷ l) zero d h e = (and_parts (test x) (list_all test l) e).0
each_at test (x ∷ l) (suc i) d h e = each_at test l i d (omega arith) (and_parts (test x) (list_all test l) e).1

pub each_from_at : {A : Type 0} (n : ℕ) (test : ℕ → A → Bool) (l : List A) (i : ℕ) (d : A) (k : ℕ) → n + i ≡ k
    → i < length l → each_from n test l ≡ true → test k (get_or l i d) ≡ true
unfolding each_from
each_from_at n test [] i d k w h e = absurd (omega arith)
each_from_at n test (x ∷ l) zero d k w h e =
    subst (λ (q : ℕ). test q x ≡ true) (omega arith) (and_parts (test n x) (each_from (suc n) test l) e).0
each_from_at n test (x ∷ l) (suc i) d k w h e =
    each_from_at (suc n) test l i d k (omega arith) (omega arith)
    (and_parts (test n x) (each_from (suc n) test l) e).1

pub each_all : {A : Type 0} (test : A → Bool) (P : A → Type 0) → ((x : A) → test x ≡ true → P x) → (l : List A)
    → list_all test l ≡ true → All P l
each_all test P h [] e = tt
each_all test P h (x ∷ l) e =
    (h x (and_parts (test x) (list_all test l) e).0, each_all test P h l (and_parts (test x) (list_all test l) e).1)

module _ {F : Type 0} where
  -- What may still be sent for operation n.
  abbrev pub remaining : Rule → State F → ℕ → ℕ
  remaining rule s n = load rule.size n s.messages + reserved rule s n s.readers s.marks

  -- The call copied no message of operation n.
  abbrev pub CopiesNone : ℕ → Call F → Outcome F → Type 0
  CopiesNone n c o = (place : ℕ) (a : Message F) → c ≡ Call.Duplicate place → In a o.taken → a.operation ≡ n → ⊥

  abbrev pub Shaped : Rule → State F → Type 0
  Shaped rule s = length s.marks ≡ rule.size * length s.readers

  pub record Stepped (rule : Rule) (s : State F) (c : Call F) (o : Outcome F) : Type 0 where
    pub shape : Shaped rule o.next
    pub more_lines : length s.journal ≤ length o.next.journal
    pub past : (n : ℕ) → length o.next.journal < n → of_operation n o.sent ≡ 0
    pub kind_kept : (n : ℕ) → 1 ≤ n → n ≤ length s.journal → (line o.next n).kind ≡ (line s n).kind
    pub counts : (n : ℕ) → 1 ≤ n → n ≤ length o.next.journal
        → (line o.next n).sent ≡ min ((line s n).sent + of_operation n o.sent) 65535
    pub spends : (n : ℕ) → 1 ≤ n → n ≤ length s.journal → CopiesNone n c o
        → of_operation n o.sent + remaining rule o.next n ≤ remaining rule s n
    pub opens : (n : ℕ) → length s.journal < n → n ≤ length o.next.journal
        → of_operation n o.sent + remaining rule o.next n ≤ limit rule.size (line o.next n).kind
    pub starts : (n : ℕ) (p : Party) (k : OperationKind) → asked c ≡ Some (p, k) → o.reply ≡ Ok (Reply.Started n)
        → (1 ≤ n) × (n ≤ length o.next.journal) × ((line o.next n).kind ≡ k)

  -- Tables that are sound

  pub record SoundParts (rule : Rule) (s : State F) : Type 0 where
    pub all_addressed : list_all (addressed rule s) s.messages ≡ true
    pub all_recorded : list_all (λ m. recorded s m.kind (line s m.operation)) s.messages ≡ true
    pub all_placed : each_from 0 (placed s) s.readers ≡ true

  pub sound_parts : (rule : Rule) (s : State F) → sound rule s ≡ true → SoundParts rule s
  unfolding sound messages_addressed messages_recorded readers_placed
  sound_parts rule s e =
      let a = and_parts (sets_within rule s && messages_addressed rule s && messages_recorded s) (readers_placed s) e in
      let b = and_parts (sets_within rule s && messages_addressed rule s) (messages_recorded s) a.0 in
      record {
        all_addressed = (and_parts (sets_within rule s) (messages_addressed rule s) b.0).1;
        all_recorded = b.1;
        all_placed = a.1;
      }

  module _ (rule : Rule) (s : State F) (parts : SoundParts rule s) where
    pub operations_in : All (λ (a : Message F). a.operation ≤ length s.journal) s.messages
    operations_in = each_all (addressed rule s) (λ (a : Message F). a.operation ≤ length s.journal)
        (λ a e. leb-true a.operation (length s.journal)
        (and_parts (leb 1 a.operation) _ (and_parts (suits rule s a.kind a.sender a.receiver) (in_journal s a.operation) e).1).1)
        s.messages parts.all_addressed

    pub placed_at : (r : ℕ) → r < length s.readers → placed s r (reader s r) ≡ true
    placed_at r h =
        each_from_at 0 (placed s) s.readers r (new_reader s.start) r (omega arith) h parts.all_placed

  -- Steps that send nothing

  -- The state with another writer, other replicas, readers and messages.
  abbrev silent_state : State F → Writer → List (Replica F) → List (Reader F) → List (Message F) → State F
  silent_state s w replicas readers messages = record {
    start = s.start;
    message_room = s.message_room;
    journal_room = s.journal_room;
    writer = w;
    replicas = replicas;
    readers = readers;
    marks = s.marks;
    messages = messages;
    journal = s.journal;
    finished = s.finished;
  }

  module _ (rule : Rule) (s : State F) (shaped : Shaped rule s)
      (small : (n : ℕ) → 1 ≤ n → n ≤ length s.journal → (line s n).sent ≤ 65535) where
    silent : (c : Call F) (reply : Answer F) (taken : List (Message F)) (w : Writer) (replicas : List (Replica F)) (readers : List (Reader F)) (messages : List (Message F))
        → length readers ≡ length s.readers
        → ((n : ℕ) (p : Party) (k : OperationKind) → asked c ≡ Some (p, k) → reply ≡ Ok (Reply.Started n) → ⊥)
        → ((n : ℕ) → 1 ≤ n → ((place : ℕ) (a : Message F) → c ≡ Call.Duplicate place → In a taken → a.operation ≡ n → ⊥)
        → load rule.size n messages + reserved rule s n readers s.marks ≤ remaining rule s n)
        → Stepped rule s c (record { reply = reply; taken = taken; sent = []; next = silent_state s w replicas readers messages })
    unfolding of_operation
    silent c reply taken w replicas readers messages wide not_started less = record {
      shape = shaped ∙ ap (λ (k : ℕ). rule.size * k) (sym wide);
      more_lines = omega arith;
      past = λ n h. refl;
      kind_kept = λ n b h. refl;
      counts = λ n b h. omega (arith, small n b h);
      spends = λ n b h u. omega (arith, less n b u);
      opens = λ n b h. absurd (omega arith);
      starts = λ n p k b e. absurd (not_started n p k b e);
    }

    declined_stepped : (c : Call F) (e : Refusal) → Stepped rule s c (declined s e)
    declined_stepped c e = silent c (Err e) [] s.writer s.replicas s.readers s.messages refl
        (λ n p k b i. cc) (λ n b u. omega arith)

    dropped_stepped : (place : ℕ) → place < length s.messages → Stepped rule s (Call.Drop place) (dropped s place)
    unfolding dropped
    dropped_stepped place h =
        silent (Call.Drop place) (Ok Reply.Done) (message s place ∷ []) s.writer s.replicas s.readers
        (without s.messages place) refl
        (λ n p k b i. not_asked (p, k) b)
        (λ n b u. omega (arith, load_without rule.size n s.messages place (no_message s.start) h))

    duplicated_stepped : (place : ℕ) → Stepped rule s (Call.Duplicate place) (duplicated s place)
    unfolding duplicated load
    duplicated_stepped place =
        silent (Call.Duplicate place) (Ok Reply.Done) (message s place ∷ []) s.writer s.replicas s.readers
        (s.messages ++ message s place ∷ []) refl
        (λ n p k b i. not_asked (p, k) b)
        (λ n b u. omega
        (arith, load_append rule.size n s.messages (message s place ∷ []), only_other n (message s place).operation (weight rule.size (message s place).kind) (u place (message s place) refl (inl refl))))

    halt_stepped : (p : Party) → Stepped rule s (Call.Halt p) (halt s p)
    unfolding halt
    halt_stepped Party.Writer =
        silent (Call.Halt Party.Writer) (Ok Reply.Done) [] (writer_halted s.writer) s.replicas s.readers
        s.messages refl
        (λ n p k b i. not_asked (p, k) b) (λ n b u. omega arith)
    halt_stepped (Party.Reader r) =
        silent (Call.Halt (Party.Reader r)) (Ok Reply.Done) [] s.writer s.replicas
        (set s.readers r (reader_halted (reader s r))) s.messages
        (length-set s.readers r (reader_halted (reader s r)))
        (λ n p k b i. not_asked (p, k) b)
        (λ n b u.
        let e = ap (λ (w : ℕ). unreplied n w (index (line s n).owner) rule.size s.marks)
        (length-set s.readers r (reader_halted (reader s r))) in
        let below = reserve_below (is_round_read (line s n).kind) (is_relay_read (line s n).kind) _ _ _ _
        (set_below (pending rule.size n) s.readers r (reader_halted (reader s r)) (new_reader s.start)
        (omega arith) (index (line s n).owner))
        (le_of_eq e) in
        omega arith)
    halt_stepped (Party.Replica c) =
        silent (Call.Halt (Party.Replica c)) (Ok Reply.Done) [] s.writer
        (set s.replicas c (replica_halted (replica s c))) s.readers s.messages refl
        (λ n p k b i. not_asked (p, k) b) (λ n b u. omega arith)

    -- A delivery

    line_same : (f g : F) → f ≡ g → (old new : List (Operation F)) → LinesKept old new → (n : ℕ)
        → ((get_or new (pred n) (no_line f)).kind ≡ (get_or old (pred n) (no_line g)).kind)
        × ((get_or new (pred n) (no_line f)).owner ≡ (get_or old (pred n) (no_line g)).owner)
        × ((get_or new (pred n) (no_line f)).sent ≡ (get_or old (pred n) (no_line g)).sent)
    line_same f g e old new kept n = (
      kept.kind_kept (pred n) (no_line f) ∙ ap (λ (x : F). (get_or old (pred n) (no_line x)).kind) e,
      kept.owner_kept (pred n) (no_line f) ∙ ap (λ (x : F). (get_or old (pred n) (no_line x)).owner) e,
      kept.sent_kept (pred n) (no_line f) ∙ ap (λ (x : F). (get_or old (pred n) (no_line x)).sent) e,
    )

    reserve_same : (f g : F) → f ≡ g → (k l : OperationKind) → k ≡ l → (p q : Party) → p ≡ q
        → (n : ℕ) (readers : List (Reader F)) (marks : List RelayMark)
        → reserve rule.size f k (index p) n readers marks ≡ reserve rule.size g l (index q) n readers marks
    reserve_same f g e k l u p q v n readers marks =
        ap (λ (x : F). reserve rule.size x k (index p) n readers marks) e
        ∙ ap (λ (x : OperationKind). reserve rule.size g x (index p) n readers marks) u
        ∙ ap (λ (x : Party). reserve rule.size g l (index x) n readers marks) v

    handled_stepped : (place : ℕ) → place < length s.messages → (e : Effect F)
        → 1 ≤ (message s place).operation → (message s place).operation ≤ length s.journal
        → Handled rule (without_message s place) (message s place) e
        → Stepped rule s (Call.Deliver place) (outcome (message s place ∷ []) e)
    handled_stepped place h e low high k = record {
      shape = k.marks_kept ∙ shaped ∙ ap (λ (w : ℕ). rule.size * w) (sym k.readers_kept);
      more_lines = omega (arith, many);
      past = λ n b. of_operation_none n m.operation e.sent k.its_own (λ i. omega (arith, many));
      kind_kept = λ n b i. kind_is n;
      counts = λ n b i.
          let old = old_line n in
          let at_most = small n b (omega (arith, many)) in
          let count = counted_sent e.next.start e.next.journal e.sent n (no_line e.next.start) positive
          b (omega (arith, many, counted_length e.next.start e.next.journal e.sent)) (omega arith) in
          omega arith;
      spends = λ n b i u.
          let same = reserve_same e.next.start s.start k.start_kept (line next n).kind (line s n).kind
          (kind_is n) (line next n).owner (line s n).owner (owner_is n) n e.next.readers e.next.marks in
          let cost = k.spends n b in
          let joined = load_append rule.size n e.next.messages e.sent in
          let waiting = ap (load rule.size n) k.waiting_kept in
          let taken = load_without rule.size n s.messages place (no_message s.start) h in
          omega arith;
      opens = λ n b i. absurd (omega (arith, many));
      starts = λ n p k b i. absurd (not_asked (p, k) b);
    }
      where
        m : Message F
        m = message s place

        next : State F
        next = posted e.next e.sent

        many : length next.journal ≡ length s.journal
        many = counted_length e.next.start e.next.journal e.sent ∙ k.lines.as_many

        positive : All (λ (a : Message F). 1 ≤ a.operation) e.sent
        positive =
            All-weaker (Of m.operation) (λ (a : Message F). 1 ≤ a.operation) (λ a i. omega arith) e.sent
            k.its_own

        old_line : (n : ℕ)
            → ((line e.next n).kind ≡ (line s n).kind) × ((line e.next n).owner ≡ (line s n).owner) × ((line e.next n).sent ≡ (line s n).sent)
        old_line n =
            line_same e.next.start s.start k.start_kept s.journal e.next.journal k.lines n

        kind_is : (n : ℕ) → (line next n).kind ≡ (line s n).kind
        kind_is n =
            counted_keeps (λ (o : Operation F). o.kind) (λ o. refl) e.next.start e.next.journal e.sent
            (pred n) (no_line e.next.start) ∙ (old_line n).0

        owner_is : (n : ℕ) → (line next n).owner ≡ (line s n).owner
        owner_is n =
            counted_keeps (λ (o : Operation F). o.owner) (λ o. refl) e.next.start e.next.journal e.sent
            (pred n) (no_line e.next.start) ∙ (old_line n).1

    delivered_stepped : (place : ℕ) → place < length s.messages → SoundParts rule s
        → Stepped rule s (Call.Deliver place) (outcome (message s place ∷ []) (deliver rule s place))
    unfolding deliver
    delivered_stepped place h parts =
        let m : Message F = message s place in
        let a = and_parts (suits rule s m.kind m.sender m.receiver) (in_journal s m.operation)
        (each_at (addressed rule s) s.messages place (no_message s.start) h parts.all_addressed) in
        let b = and_parts (leb 1 m.operation) (leb m.operation (length s.journal)) a.1 in
        handled_stepped place h (received rule (without_message s place) m) (leb-true 1 m.operation b.0)
        (leb-true m.operation (length s.journal) b.1)
        (received_handled rule (without_message s place) m a.0
        (each_at (λ (x : Message F). recorded s x.kind (line s x.operation)) s.messages place
        (no_message s.start) h parts.all_recorded)
        (placed_at rule s parts) shaped)

    -- A write or a read starts

    -- The state with another writer and other readers, and one more line.
    abbrev opened_state : Writer → List (Reader F) → Operation F → State F
    opened_state w readers o = record {
      start = s.start;
      message_room = s.message_room;
      journal_room = s.journal_room;
      writer = w;
      replicas = s.replicas;
      readers = readers;
      marks = s.marks;
      messages = s.messages;
      journal = s.journal ++ o ∷ [];
      finished = s.finished;
    }

    pending_most : (n : ℕ) (d : Reader F) → pending rule.size n d ≤ 2 * rule.size
    pending_most n d =
        cond_both (eqb d.operation n && in_first d.phase) (2 * rule.size) 0 (λ (x : ℕ). x ≤ 2 * rule.size)
        (λ _. omega arith) (λ _. omega arith)

    module _ (parts : SoundParts rule s) (w : Writer) (readers : List (Reader F)) (o : Operation F)
        (kind : MessageKind) (from : Party) (x : Held F)
        (wide : length readers ≡ length s.readers)
        (none_sent : o.sent ≡ 0)
        (worth : rule.size + rule.size * weight rule.size kind +
        (cond (is_round_read o.kind) (2 * rule.size) 0 + cond (is_relay_read o.kind) rule.size 0) ≤
        limit rule.size o.kind)
        (less : (n : ℕ) → (next_number s ≡ n → ⊥) → (k : ℕ) → pending rule.size n
        (get_or readers k (new_reader s.start)) ≤ pending rule.size n
        (get_or s.readers k (new_reader s.start)))
      where
        opened : Outcome F
        opened =
            outcome []
            (record {
              reply = Reply.Started (next_number s);
              sent = to_all rule.size kind (next_number s) from x;
              next = opened_state w readers o;
            })

        one_line : length (s.journal ++ o ∷ []) ≡ suc (length s.journal)
        one_line = length_push s.journal o ∙ omega arith

        many_lines : length (counted s.start (s.journal ++ o ∷ []) (to_all rule.size kind (next_number s) from x)) ≡ suc (length s.journal)
        many_lines =
            counted_length s.start (s.journal ++ o ∷ []) (to_all rule.size kind (next_number s) from x) ∙
            one_line

        old_line : (n : ℕ) → 1 ≤ n → n ≤ length s.journal
            → get_or (s.journal ++ o ∷ []) (pred n) (no_line s.start) ≡ line s n
        old_line n b h = get_or_append_left s.journal (o ∷ []) (no_line s.start) (pred n) (omega arith)

        new_line : (n : ℕ) → length s.journal < n → n ≤ suc (length s.journal)
            → get_or (s.journal ++ o ∷ []) (pred n) (no_line s.start) ≡ o
        new_line n b h = get_or_push s.journal o (no_line s.start) (pred n) (omega arith)

        same_field : {B : Type 0} (g : Operation F → B) → ((y : Operation F) → g (one_sent y) ≡ g y) → (n : ℕ)
            → g (get_or (counted s.start (s.journal ++ o ∷ []) (to_all rule.size kind (next_number s) from x)) (pred n) (no_line s.start)) ≡ g (get_or (s.journal ++ o ∷ []) (pred n) (no_line s.start))
        same_field g u n =
            counted_keeps g u s.start (s.journal ++ o ∷ []) (to_all rule.size kind (next_number s) from x)
            (pred n) (no_line s.start)

        sent_before : (n : ℕ) → 1 ≤ n → n ≤ suc (length s.journal)
            → ((get_or (s.journal ++ o ∷ []) (pred n) (no_line s.start)).sent ≡ (line s n).sent) × ((line s n).sent ≤ 65535)
        sent_before n b h = elim (cases_eq n (suc (length s.journal))) [
          | inl e ↦
              let new = ap (λ (y : Operation F). y.sent) (new_line n (omega arith) h) in
              let old = ap (λ (y : Operation F). y.sent)
              (get_or_past s.journal (pred n) (no_line s.start) (omega arith)) in
              (omega arith, omega arith)
          | inr u ↦ (ap (λ (y : Operation F). y.sent) (old_line n b (omega arith)), small n b (omega arith))
        ]

        opened_stepped : (c : Call F) → ((p : Party) (k : OperationKind) → asked c ≡ Some (p, k) → o.kind ≡ k)
            → Stepped rule s c opened
        unfolding opened
        opened_stepped c kind_is = record {
          shape = shaped ∙ ap (λ (k : ℕ). rule.size * k) (sym wide);
          more_lines = omega (arith, many_lines);
          past = λ n b. of_operation_none n (next_number s) (to_all rule.size kind (next_number s) from x) (to_all_of (next_number s) (next_number s) refl rule.size kind from x) (λ e. omega (arith, many_lines));
          kind_kept = λ n b h. same_field (λ (y : Operation F). y.kind) (λ y. refl) n ∙ ap (λ (y : Operation F). y.kind) (old_line n b h);
          counts = λ n b h.
              let before = sent_before n b (omega (arith, many_lines)) in
              let count = counted_sent s.start (s.journal ++ o ∷ [])
              (to_all rule.size kind (next_number s) from x) n (no_line s.start) positive b
              (omega (arith, many_lines, one_line)) (omega arith) in
              omega arith;
          spends = λ n b h u. old_spends n b h;
          opens = λ n b h. new_opens n b (omega (arith, many_lines));
          starts = λ n p k b e.
              let same : next_number s ≡ n = cc in
              (omega arith, omega (arith, many_lines), new_kind n (omega arith) (omega arith) ∙ kind_is p k b);
        }
          where
            positive : All (λ (a : Message F). 1 ≤ a.operation) (to_all rule.size kind (next_number s) from x)
            positive =
                All-weaker (Of (next_number s)) (λ (a : Message F). 1 ≤ a.operation) (λ a i. omega arith)
                (to_all rule.size kind (next_number s) from x)
                (to_all_of (next_number s) (next_number s) refl rule.size kind from x)

            new_kind : (n : ℕ) → length s.journal < n → n ≤ suc (length s.journal)
                → (line opened.next n).kind ≡ o.kind
            new_kind n b h =
                same_field (λ (y : Operation F). y.kind) (λ y. refl) n ∙ ap (λ (y : Operation F). y.kind)
                (new_line n b h)

            new_limit : (n : ℕ) → length s.journal < n → n ≤ suc (length s.journal)
                → limit rule.size (line opened.next n).kind ≡ limit rule.size o.kind
            new_limit n b h = ap (limit rule.size) (new_kind n b h)

            old_spends : (n : ℕ) → 1 ≤ n → n ≤ length s.journal
                → of_operation n opened.sent + remaining rule opened.next n ≤ remaining rule s n
            old_spends n b h =
                let other : (next_number s ≡ n → ⊥) = λ (e : next_number s ≡ n). omega arith in
                let own = to_all_of (next_number s) (next_number s) refl rule.size kind from x in
                let no_more =
                of_operation_none n (next_number s) (to_all rule.size kind (next_number s) from x) own
                other in
                let no_load =
                load_none rule.size n (next_number s) (to_all rule.size kind (next_number s) from x)
                own other in
                let joined =
                load_append rule.size n s.messages (to_all rule.size kind (next_number s) from x)
                in
                let kind_is = same_field (λ (y : Operation F). y.kind) (λ y. refl) n ∙ ap
                (λ (y : Operation F). y.kind) (old_line n b h) in
                let owner_is = same_field (λ (y : Operation F). y.owner) (λ y. refl) n ∙ ap
                (λ (y : Operation F). y.owner) (old_line n b h) in
                let same = reserve_same s.start s.start refl (line opened.next n).kind (line s n).kind
                kind_is (line opened.next n).owner (line s n).owner owner_is n readers s.marks in
                let e = ap (λ (k : ℕ). unreplied n k (index (line s n).owner) rule.size s.marks) wide in
                let below =
                reserve_below (is_round_read (line s n).kind) (is_relay_read (line s n).kind) _ _ _ _
                (less n other (index (line s n).owner)) (le_of_eq e) in
                omega arith

            new_opens : (n : ℕ) → length s.journal < n → n ≤ suc (length s.journal)
                → of_operation n opened.sent + remaining rule opened.next n ≤ limit rule.size (line opened.next n).kind
            new_opens n b h =
                let e : next_number s ≡ n = omega arith in
                let sent = of_operation_to_all n rule.size kind (next_number s) from x in
                let loaded = load_to_all rule.size n rule.size kind (next_number s) from x in
                let sent_is = only_same n (next_number s) rule.size e in
                let loaded_is = only_same n (next_number s) (rule.size * weight rule.size kind) e in
                let joined =
                load_append rule.size n s.messages (to_all rule.size kind (next_number s) from x)
                in
                let none = load_past rule.size n (length s.journal) s.messages (operations_in rule s parts) b
                in
                let same = reserve_same s.start s.start refl (line opened.next n).kind o.kind
                (new_kind n b h) (line opened.next n).owner (line opened.next n).owner refl n readers
                s.marks in
                let below = reserve_below (is_round_read o.kind) (is_relay_read o.kind) _ _ _ _
                (pending_most n (get_or readers (index (line opened.next n).owner) (new_reader s.start)))
                (unreplied_most n (length readers) (index (line opened.next n).owner) rule.size s.marks)
                in
                omega (arith, new_limit n b h)

    write_stepped : SoundParts rule s → (f : F) → Stepped rule s (Call.Write f) (outcome [] (write rule s f))
    unfolding write opened
    write_stepped parts f =
        opened_stepped parts (writing s.writer (next_number s) (to_write s f).stamp) s.readers
        (record {
          kind = OperationKind.Write;
          owner = Party.Writer;
          started = next_number s + s.finished;
          finished = 0;
          exchanges = 0;
          stamp = (to_write s f).stamp;
          figure = f;
          sent = 0;
        })
        MessageKind.Put Party.Writer (to_write s f) refl refl (omega arith) (λ n u k. omega arith) (Call.Write f)
        (λ p k e. ap kind_asked e)

    -- the reader has a new operation, so it has nothing pending for another
    reading_pending : (n : ℕ) (d : Reader F) (phase : Phase) → (next_number s ≡ n → ⊥)
        → pending rule.size n (reading s.start d (next_number s) phase) ≡ 0
    reading_pending n d phase u = grind (arith, nat_tests)

    worth_read : (kind : ReadKind)
        → rule.size + rule.size * weight rule.size (opening_message kind) + (cond (is_round_read (OperationKind.Read kind)) (2 * rule.size) 0 + cond (is_relay_read (OperationKind.Read kind)) rule.size 0) ≤ limit rule.size (OperationKind.Read kind)
    worth_read ReadKind.Quick = omega arith
    worth_read ReadKind.Settled = omega arith
    worth_read ReadKind.Relay = omega arith

    read_stepped : SoundParts rule s → (r : ℕ) (kind : ReadKind)
        → Stepped rule s (Call.Read r kind) (outcome [] (read rule s r kind))
    unfolding read opened
    read_stepped parts r kind =
        opened_stepped parts s.writer
        (set s.readers r (reading s.start (reader s r) (next_number s) (opening_phase kind)))
        (record {
          kind = OperationKind.Read kind;
          owner = Party.Reader r;
          started = next_number s + s.finished;
          finished = 0;
          exchanges = 0;
          stamp = (unused s.start).stamp;
          figure = s.start;
          sent = 0;
        })
        (opening_message kind) (Party.Reader r) (unused s.start)
        (length-set s.readers r (reading s.start (reader s r) (next_number s) (opening_phase kind))) refl
        (worth_read kind)
        (λ n u k. set_below (pending rule.size n) s.readers r
        (reading s.start (reader s r) (next_number s) (opening_phase kind)) (new_reader s.start)
        (omega (arith, reading_pending n (reader s r) (opening_phase kind) u)) k)
        (Call.Read r kind) (λ p k e. ap kind_asked e)

    -- Any call

    first_none : (b : Bool) (e : Refusal) (rest : Option Refusal) → cond b (Some e) rest ≡ None
        → (b ≡ false) × (rest ≡ None)
    first_none true e rest h = cc
    first_none false e rest h = (refl, h)

    in_place : (place : ℕ) → no_place s place ≡ false → place < length s.messages
    in_place place e = leb-false (length s.messages) place e

    done_stepped : SoundParts rule s → (c : Call F) → first_of (tests rule s c) ≡ None
        → Stepped rule s c (done rule s c)
    unfolding done tests
    done_stepped parts (Call.Write f) e = write_stepped parts f
    done_stepped parts (Call.Read r kind) e = read_stepped parts r kind
    done_stepped parts (Call.Deliver place) e =
        delivered_stepped place (in_place place (first_none (no_place s place) _ _ e).0) parts
    done_stepped parts (Call.Drop place) e =
        dropped_stepped place (in_place place (first_none (no_place s place) _ _ e).0)
    done_stepped parts (Call.Duplicate place) e = duplicated_stepped place
    done_stepped parts (Call.Halt p) e = halt_stepped p

    settled_stepped : (c : Call F) (o : Outcome F) (e : Option Refusal) → (e ≡ None → Stepped rule s c o)
        → Stepped rule s c (settled s e o)
    settled_stepped c o (Some e) h = declined_stepped c e
    settled_stepped c o None h =
        cond_both (overfull s o) (declined s Refusal.NoRoom) o (Stepped rule s c)
        (λ _. declined_stepped c Refusal.NoRoom) (λ _. h refl)

    pub step_stepped : (c : Call F) → Stepped rule s c (step rule s c)
    unfolding step refusal
    step_stepped c = settled_stepped c (done rule s c) (refusal rule s c) (λ e.
        let parts = first_none (not (sound rule s)) Refusal.Unsound (first_of (tests rule s c)) e in
        done_stepped (sound_parts rule s (not-false (sound rule s) parts.0)) c parts.1)
