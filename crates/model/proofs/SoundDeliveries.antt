-- A message that is delivered leaves sound tables sound, and what it sends fits them.
use Rattle.std.proofs.Common.{◌≡◌, ℕ, ◌^◌, ◌<◌, true, false, not, ◌&&◌, ◌||◌, eqb, ltb, length, sym, refl, ◌∙◌, inl, inr, true≢false, pow_pos}
use lib.Pow.{pow-lt}
use lib.Bits.{or_lt}
use Rattle.std.specs.List.{AllByRecursion as All}
use Rattle.std.proofs.lemmas.List.{get_or_past}
use Rattle.std.proofs.ByRecursion.{All-get_or, All-weaker}
use Rattle.std.proofs.lemmas.Bool.{and_parts, and_from, or_cases, cond_both, cases_lt, eqb-true, lt-ltb, ltb-true}
use Rattle.quorum.specs.Sets.{Rule, bits, joined}
use Rattle.model.specs.declared.parties.Party.{Party}
use Rattle.model.specs.declared.messages.MessageKind.{MessageKind}
use Rattle.model.specs.declared.journal.OperationKind.{OperationKind}
use Rattle.model.specs.declared.reader.Reader.{Reader}
use Rattle.model.specs.declared.marks.RelayMark.{RelayMark}
use Rattle.model.specs.declared.messages.Message.{Message}
use Rattle.model.specs.Stamps.{rank}
use Rattle.model.specs.State.{State, Held, index, unused, new_reader, new_mark, reader, line, mark, mark_place, held}
use Rattle.model.specs.State.{halted, with_reader, with_held}
use Rattle.model.specs.Records.{took, best, replied_by, heard, confirmed, lowered, placing, reader_freed, marked}
use Rattle.model.specs.Records.{mark_replied}
use Rattle.model.specs.Sound.{within, a_writer, a_reader, a_replica, suits, in_journal, is_write, is_round_read}
use Rattle.model.specs.Sound.{is_relay_read, serves, owned, recorded, idle, own_read}
use Rattle.model.specs.Deliveries.{Effect, quiet, sending, written, to_all, carried, answer, counts, in_first}
use Rattle.model.specs.Deliveries.{in_second, in_relay, is_quick, read_finishing, after_last, on_offer, on_put_ack}
use Rattle.model.specs.Deliveries.{on_query, on_have, on_back_ack, on_reply, on_fan, on_relay, on, received}
use Rattle.model.proofs.Places.{reader_index, not_idle}
use Rattle.model.proofs.Lists.{all_to_all}
use Rattle.model.proofs.SoundTables.{Fits, ReaderIn, MarkIn, Placed, Tables, fits_later}
use Rattle.model.proofs.SoundChanges.{later_reader, parties_changed, mark_changed, reader_changed, line_ended}

-- What a step leaves is sound, and so are the messages that it sends.
abbrev pub Safe : {F : Type 0} → Rule → Effect F → Type 0
Safe rule e = Tables rule e.next × All (Fits rule e.next) e.sent

-- Sets

module _ (rule : Rule) where
  pub within_none : within rule 0 ≡ true
  within_none = lt-ltb 0 (2 ^ rule.size) (pow_pos rule.size)

  within_joined : (mask : ℕ) (p : Party) → a_replica rule p ≡ true → within rule mask ≡ true
      → within rule (joined mask (index p)) ≡ true
  within_joined mask Party.Writer e h = absurd (true≢false (sym e))
  within_joined mask (Party.Reader r) e h = absurd (true≢false (sym e))
  within_joined mask (Party.Replica c) e h =
      lt-ltb _ _ (or_lt rule.size mask (2 ^ c) (ltb-true mask (2 ^ rule.size) h) (pow-lt (ltb-true c rule.size e)))

  marked_in : (k : RelayMark) (n : ℕ) (p : Party) → a_replica rule p ≡ true → MarkIn rule k
      → MarkIn rule (marked k n (index p))
  unfolding marked
  marked_in k n p e h =
      cond_both (ltb k.operation n) _ _ (MarkIn rule) (λ _. within_joined 0 p e within_none)
      (λ _. within_joined k.relayers p e h)

-- Parties

-- The owner of operation n can have it.
abbrev Owned : {F : Type 0} → State F → ℕ → Type 0
Owned s n = owned s (line s n).kind (line s n).owner ≡ true

module _ {F : Type 0} (s : State F) where
  write_owner : (k : OperationKind) (p : Party) → is_write k ≡ true → owned s k p ≡ true → a_writer p ≡ true
  write_owner OperationKind.Write p e o = o
  write_owner (OperationKind.Read k) p e o = absurd (true≢false (sym e))

  round_owner : (k : OperationKind) (p : Party) → is_round_read k ≡ true → owned s k p ≡ true → a_reader s p ≡ true
  round_owner OperationKind.Write p e o = absurd (true≢false (sym e))
  round_owner (OperationKind.Read k) p e o = o

  relay_owner : (k : OperationKind) (p : Party) → is_relay_read k ≡ true → owned s k p ≡ true → a_reader s p ≡ true
  relay_owner OperationKind.Write p e o = absurd (true≢false (sym e))
  relay_owner (OperationKind.Read k) p e o = o

-- Readers

module _ {F : Type 0} (rule : Rule) where
  -- d, now e, goes on with the same work.
  abbrev Onward : Reader F → Reader F → Type 0
  Onward d e = ReaderIn rule e × (e.operation ≡ d.operation) × (e.phase ≡ d.phase)

  module _ (d : Reader F) (p : Party) (from : a_replica rule p ≡ true) (h : ReaderIn rule d) where
    sets : (within rule d.replies ≡ true) × (within rule d.holders ≡ true)
    sets = and_parts (within rule d.replies) (within rule d.holders) h

    onward : (x : Held F) (holders : ℕ) → within rule holders ≡ true → Onward d (replied_by d (index p) x holders)
    onward x holders w = (and_from _ _ (within_joined rule d.replies p from sets.0) w, refl, refl)

    heard_onward : (x : Held F) → Onward d (heard d (index p) x)
    unfolding heard
    heard_onward x =
        cond_both (ltb (rank d.best_stamp) (rank x.stamp)) _ _ (Onward d)
        (λ _. onward x _ (within_joined rule 0 p from (within_none rule)))
        (λ _. cond_both (eqb (rank d.best_stamp) (rank x.stamp)) _ _ (Onward d)
        (λ _. onward (best d) _ (within_joined rule d.holders p from sets.1)) (λ _. onward (best d) _ sets.1))

    confirmed_onward : Onward d (confirmed d (index p))
    confirmed_onward = onward (best d) _ sets.1

    lowered_onward : (x : Held F) → Onward d (lowered d (index p) x)
    unfolding lowered
    lowered_onward x =
        cond_both (eqb d.replies 0 || ltb (rank x.stamp) (rank d.best_stamp)) _ _ (Onward d)
        (λ _. onward x _ sets.1) (λ _. onward (best d) _ sets.1)

module _ {F : Type 0} (rule : Rule) (s : State F) where
  -- What goes to all the replicas fits, where it suits them and its line can have it.
  pub all_addressed : (kind : MessageKind) (n : ℕ) (from : Party) (x : Held F)
      → ((c : ℕ) → c < rule.size → suits rule s kind from (Party.Replica c) ≡ true) → in_journal s n ≡ true
      → recorded s kind (line s n) ≡ true
      → All (Fits rule s) (to_all rule.size kind n from x)
  all_addressed kind n from x to j b =
      all_to_all kind n from x (Fits rule s) rule.size (λ c l. (and_from _ _ (to c l) j, b))

  -- A reader that is not idle has an operation of its own.
  at_work : (r : ℕ) (d : Reader F) → Placed s r d → idle d.phase ≡ false
      → (in_journal s d.operation ≡ true) × (own_read r (line s d.operation) ≡ true)
  at_work r d p e = elim (or_cases (idle d.phase && eqb d.operation 0) _ p) [
    | inl i ↦ absurd (true≢false (sym (and_parts _ _ i).0 ∙ e))
    | inr w ↦
        let q = and_parts (not (idle d.phase) && in_journal s d.operation) (own_read r (line s d.operation)) w in
        ((and_parts (not (idle d.phase)) (in_journal s d.operation) q.0).1, q.1)
  ]

module _ {F : Type 0} (rule : Rule) (s : State F) (tables : Tables rule s) where
  mark_in : (c r : ℕ) → MarkIn rule (mark s c r)
  mark_in c r = elim (cases_lt (mark_place s c r) (length s.marks)) [
    | inl l ↦ All-get_or (MarkIn rule) s.marks (mark_place s c r) new_mark l tables.marks_in
    | inr l ↦ rw (get_or_past s.marks (mark_place s c r) new_mark l) (within_none rule)
  ]

  -- Reader r, now d

  module _ (r : ℕ) (d : Reader F) (inside : ReaderIn rule d) where
    finish_safe : (exchanges : ℕ) → Safe rule (read_finishing s r d exchanges)
    finish_safe exchanges = (
      line_ended rule _ (reader_changed rule s tables r (reader_freed d) inside refl) d.operation
          (best d) exchanges,
      tt,
    )

    last_safe : Placed s r d → (exchanges : ℕ) → Safe rule (after_last rule s r d exchanges)
    last_safe p exchanges = cond_both (rule.round (bits d.replies)) _ _ (Safe rule)
        (λ _. finish_safe exchanges) (λ _. (reader_changed rule s tables r d inside p, tt))

    placing_safe : in_journal s d.operation ≡ true → own_read r (line s d.operation) ≡ true
        → recorded s MessageKind.Back (line s d.operation) ≡ true
        → a_reader s (Party.Reader r) ≡ true
        → Safe rule (sending (with_reader s r (placing d))
        (to_all rule.size MessageKind.Back d.operation (Party.Reader r) (best d)))
    placing_safe j own b known =
        let next : State F = with_reader s r (placing d) in
        let replies_none = and_from _ _ (within_none rule)
        (and_parts (within rule d.replies) (within rule d.holders) inside).1 in
        let fit : All (Fits rule s) (to_all rule.size MessageKind.Back d.operation (Party.Reader r) (best d)) =
        all_addressed rule s MessageKind.Back d.operation (Party.Reader r) (best d)
        (λ c l. and_from _ _ known (lt-ltb c rule.size l)) j b in (
          reader_changed rule s tables r (placing d) replies_none (and_from _ _ j own),
          All-weaker (Fits rule s) (Fits rule next) (fits_later rule s next (later_reader s r (placing d))) _ fit,
        )

  -- Messages, by their kinds

  module _ (m : Message F) (j : in_journal s m.operation ≡ true) (own : Owned s m.operation) where
    abbrev kind_of : OperationKind
    kind_of = (line s m.operation).kind

    abbrev owner_of : Party
    owner_of = (line s m.operation).owner

    answer_fits : (ack : MessageKind) (x : Held F) → suits rule s ack m.receiver owner_of ≡ true
        → serves ack kind_of ≡ true → Fits rule s (answer s m ack x)
    answer_fits ack x to b = (and_from _ _ to j, and_from _ _ b own)

    quiet_safe : Safe rule (quiet s)
    quiet_safe = (tables, tt)

    offer_safe : (ack : MessageKind) → suits rule s ack m.receiver owner_of ≡ true → serves ack kind_of ≡ true
        → Safe rule (on_offer s m ack)
    unfolding on_offer
    offer_safe ack to b = (parties_changed rule s tables s.writer _, (answer_fits ack (unused s.start) to b, tt))

    put_ack_safe : Safe rule (on_put_ack rule s m)
    unfolding on_put_ack
    put_ack_safe =
        cond_both (not (eqb s.writer.operation m.operation)) _ _ (Safe rule) (λ _. quiet_safe)
        (λ _. cond_both (rule.round (bits (joined s.writer.acknowledgers (index m.sender)))) _ _ (Safe rule)
        (λ _. (line_ended rule _ (parties_changed rule s tables _ s.replicas) m.operation (written s m.operation) 2, tt))
        (λ _. (parties_changed rule s tables _ s.replicas, tt)))

    query_safe : suits rule s MessageKind.Have m.receiver owner_of ≡ true → serves MessageKind.Have kind_of ≡ true
        → Safe rule (on_query s m)
    unfolding on_query
    query_safe to b = (tables, (answer_fits MessageKind.Have (held s (index m.receiver)) to b, tt))

    fan_safe : a_replica rule m.receiver ≡ true → serves MessageKind.Relay kind_of ≡ true
        → Safe rule (on_fan rule s m)
    unfolding on_fan
    fan_safe from b = (
      tables,
      all_addressed rule s MessageKind.Relay m.operation m.receiver _
          (λ c l. and_from _ _ from (lt-ltb c rule.size l)) j (and_from _ _ b own),
    )

    relay_safe : a_replica rule m.sender ≡ true → suits rule s MessageKind.Reply m.receiver owner_of ≡ true
        → serves MessageKind.Reply kind_of ≡ true → Safe rule (on_relay rule s m)
    unfolding on_relay
    relay_safe from to b =
        let c : ℕ = index m.receiver in
        let r : ℕ = index owner_of in
        let x : Held F = took (held s c) (carried m) in
        let taken : Tables rule (with_held s c x) = parties_changed rule s tables s.writer _ in
        let k : RelayMark = marked (mark s c r) m.operation (index m.sender) in
        let in_k : MarkIn rule k = marked_in rule (mark s c r) m.operation m.sender from (mark_in c r) in
        cond_both (ltb m.operation (mark s c r).operation) _ _ (Safe rule) (λ _. (taken, tt))
        (λ _. cond_both (rule.round (bits k.relayers) && not k.replied) _ _ (Safe rule)
        (λ _. (mark_changed rule (with_held s c x) taken c r (mark_replied k) in_k, (answer_fits MessageKind.Reply x to b, tt)))
        (λ _. (mark_changed rule (with_held s c x) taken c r k in_k, tt)))

    -- HAVE, BACK-ACK and REPLY: the receiver is a reader

    module _ (from : a_replica rule m.sender ≡ true) (to : a_reader s m.receiver ≡ true) where
      abbrev number : ℕ
      number = index m.receiver

      abbrev here : Reader F
      here = reader s number

      here_in : ReaderIn rule here
      here_in =
          All-get_or (ReaderIn rule) s.readers number (new_reader s.start) (reader_index s m.receiver to)
          tables.readers_in

      here_placed : Placed s number here
      here_placed = tables.all_placed number (reader_index s m.receiver to)

      still_placed : (d : Reader F) → Onward rule here d → Placed s number d
      still_placed d o = rw (o.1, o.2) here_placed

      back_ack_safe : Safe rule (on_back_ack rule s m)
      unfolding on_back_ack
      back_ack_safe =
          let d : Reader F = confirmed here (index m.sender) in
          let o : Onward rule here d = confirmed_onward rule here m.sender from here_in in
          cond_both (counts in_second here m) _ _ (Safe rule) (λ _. last_safe number d o.0 (still_placed d o) 4)
          (λ _. quiet_safe)

      reply_safe : Safe rule (on_reply rule s m)
      unfolding on_reply
      reply_safe =
          let d : Reader F = lowered here (index m.sender) (carried m) in
          let o : Onward rule here d = lowered_onward rule here m.sender from here_in (carried m) in
          cond_both (counts in_relay here m) _ _ (Safe rule) (λ _. last_safe number d o.0 (still_placed d o) 3)
          (λ _. quiet_safe)

      -- here, now d, has heard of its own operation in its first round
      second_safe : (d : Reader F) → Onward rule here d → counts in_first here m ≡ true
          → serves MessageKind.Have kind_of ≡ true
          → Safe rule (sending (with_reader s number (placing d))
          (to_all rule.size MessageKind.Back d.operation (Party.Reader number) (best d)))
      second_safe d o counted b =
          let both = and_parts (eqb here.operation m.operation && in_first here.phase) _ counted in
          let its = and_parts (eqb here.operation m.operation) (in_first here.phase) both.0 in
          let same : d.operation ≡ m.operation = o.1 ∙ eqb-true here.operation m.operation its.0 in
          let work = at_work rule s number d (still_placed d o) (rw o.2 (not_idle here.phase its.1)) in
          placing_safe number d o.0 work.0 work.1 (rw same (and_from _ _ b own))
          (lt-ltb number (length s.readers) (reader_index s m.receiver to))

      have_safe : serves MessageKind.Have kind_of ≡ true → Safe rule (on_have rule s m)
      unfolding on_have
      have_safe b =
          let d : Reader F = heard here (index m.sender) (carried m) in
          let o : Onward rule here d = heard_onward rule here m.sender from here_in (carried m) in
          cond_both (counts in_first here m) _ _ (Safe rule)
          (λ counted. cond_both (rule.round (bits d.replies)) _ _ (Safe rule)
          (λ _. cond_both (is_quick (line s d.operation).kind && rule.hold (bits d.holders)) _ _ (Safe rule)
          (λ _. finish_safe number d o.0 2) (λ _. second_safe d o counted b))
          (λ _. (reader_changed rule s tables number d o.0 (still_placed d o), tt)))
          (λ _. quiet_safe)

    on_safe : (kind : MessageKind) → suits rule s kind m.sender m.receiver ≡ true → serves kind kind_of ≡ true
        → Safe rule (on rule kind s m)
    unfolding on
    on_safe MessageKind.Put to b =
        offer_safe MessageKind.PutAck
        (and_from _ _ (and_parts (a_writer m.sender) _ to).1 (write_owner s kind_of owner_of b own)) b
    on_safe MessageKind.PutAck to b = put_ack_safe
    on_safe MessageKind.Query to b =
        query_safe (and_from _ _ (and_parts (a_reader s m.sender) _ to).1 (round_owner s kind_of owner_of b own)) b
    on_safe MessageKind.Have to b = let p = and_parts (a_replica rule m.sender) _ to in have_safe p.0 p.1 b
    on_safe MessageKind.Back to b =
        offer_safe MessageKind.BackAck
        (and_from _ _ (and_parts (a_reader s m.sender) _ to).1 (round_owner s kind_of owner_of b own)) b
    on_safe MessageKind.BackAck to b = let p = and_parts (a_replica rule m.sender) _ to in back_ack_safe p.0 p.1
    on_safe MessageKind.Fan to b = fan_safe (and_parts (a_reader s m.sender) _ to).1 b
    on_safe MessageKind.Relay to b =
        let p = and_parts (a_replica rule m.sender) _ to in
        relay_safe p.0 (and_from _ _ p.1 (relay_owner s kind_of owner_of b own)) b
    on_safe MessageKind.Reply to b = let p = and_parts (a_replica rule m.sender) _ to in reply_safe p.0 p.1

  pub received_safe : (m : Message F) → Fits rule s m → Safe rule (received rule s m)
  unfolding received
  received_safe m (a, b) =
      let p = and_parts (suits rule s m.kind m.sender m.receiver) (in_journal s m.operation) a in
      let q = and_parts (serves m.kind (line s m.operation).kind) _ b in
      cond_both (halted s m.receiver) _ _ (Safe rule) (λ _. quiet_safe m p.1 q.1)
      (λ _. on_safe m p.1 q.1 m.kind p.0 q.0)
