-- No waiting message, replica or reader's best has a stamp above the writer's last, whatever the call and the tables.
use Rattle.std.proofs.Common.{◌≡◌, ℕ, ◌<◌, ◌≤◌, not, ◌&&◌, ◌||◌, eqb, ltb, [], ◌∷◌, Some, None, Option, refl, arith, Ok, Err}
use Rattle.std.specs.List.{AllByRecursion as All}
use Rattle.std.proofs.ByRecursion.{All-weaker, All-append, All-set}
use Rattle.std.proofs.lemmas.Bool.{cond_both}
use Rattle.quorum.specs.Sets.{Rule, bits, joined}
use Rattle.model.specs.declared.parties.Party.{Party}
use Rattle.model.specs.declared.messages.MessageKind.{MessageKind}
use Rattle.model.specs.declared.journal.OperationKind.{OperationKind}
use Rattle.model.specs.declared.journal.ReadKind.{ReadKind}
use Rattle.model.specs.declared.replica.Replica.{Replica}
use Rattle.model.specs.declared.reader.Reader.{Reader}
use Rattle.model.specs.declared.marks.RelayMark.{RelayMark}
use Rattle.model.specs.declared.messages.Message.{Message}
use Rattle.model.specs.declared.calls.Call.{Call}
use Rattle.model.specs.declared.answers.Refusal.{Refusal}
use Rattle.model.specs.Stamps.{Stamp, rank, no_stamp, next_stamp}
use Rattle.model.specs.State.{State, Held, index, unused, new_replica, new_reader, no_message, fresh, replica, reader}
use Rattle.model.specs.State.{message, line, mark, held, halted, with_reader, with_held, without_message}
use Rattle.model.specs.Records.{took, best, heard, confirmed, lowered, placing, reader_freed, marked, replica_halted}
use Rattle.model.specs.Records.{reader_halted}
use Rattle.model.specs.Deliveries.{Effect, quiet, to_all, carried, counts, in_first, in_second, in_relay, is_quick}
use Rattle.model.specs.Deliveries.{read_finishing, after_have, after_last, on_offer, on_put_ack, on_query, on_have}
use Rattle.model.specs.Deliveries.{on_back_ack, on_reply, on_fan, on_relay, on, received}
use Rattle.model.specs.Steps.{Outcome, declined, posted, next_number, with_line, to_write, write, opening_message}
use Rattle.model.specs.Steps.{read, deliver, dropped, duplicated, stopped, halt, done, refusal, overfull, settled}
use Rattle.model.specs.Steps.{step}
use Rattle.model.proofs.Ranks.{rank_start, rank_next}
use Rattle.model.proofs.Lists.{all_without, all_to_all}
use Rattle.model.proofs.Items.{all_alike, all_read}
use Rattle.model.specs.Answers.{Answer}

-- The stamp ranks no higher than top.
abbrev pub Low : ℕ → Stamp → Type 0
Low top t = rank t ≤ top

start_low : (top : ℕ) → Low top no_stamp
start_low top = omega (arith, rank_start)

module _ {F : Type 0} where
  abbrev pub LowMessage : ℕ → Message F → Type 0
  LowMessage top m = Low top m.stamp

  abbrev pub LowReplica : ℕ → Replica F → Type 0
  LowReplica top x = Low top x.stamp

  abbrev pub LowReader : ℕ → Reader F → Type 0
  LowReader top d = Low top d.best_stamp

  abbrev pub last : State F → ℕ
  last s = rank s.writer.last

  pub record Behind (s : State F) : Type 0 where
    pub messages_low : All (LowMessage (rank s.writer.last)) s.messages
    pub replicas_low : All (LowReplica (rank s.writer.last)) s.replicas
    pub readers_low : All (LowReader (rank s.writer.last)) s.readers

  abbrev pub Granted : Answer F → Type 0
  Granted (Ok r) = Unit {0}
  Granted (Err e) = ⊥

  -- What a step leaves is behind, so is what it sends, and it is not declined.
  abbrev pub Lags : Effect F → Type 0
  Lags e = Behind e.next × All (LowMessage (last e.next)) e.sent

  all_low_to_all : (top size : ℕ) (kind : MessageKind) (n : ℕ) (from : Party) (x : Held F) → Low top x.stamp
      → All (LowMessage top) (to_all size kind n from x)
  all_low_to_all top size kind n from x h = all_to_all kind n from x (LowMessage top) size (λ c l. h)

  -- Readers and replicas

  took_low : (top : ℕ) (own offered : Held F) → Low top own.stamp → Low top offered.stamp
      → Low top (took own offered).stamp
  took_low top own offered a b =
      cond_both (ltb (rank own.stamp) (rank offered.stamp)) _ _ (λ (x : Held F). Low top x.stamp) (λ _. b)
      (λ _. a)

  heard_low : (top : ℕ) (d : Reader F) (c : ℕ) (x : Held F) → LowReader top d → Low top x.stamp
      → LowReader top (heard d c x)
  unfolding heard
  heard_low top d c x a b =
      cond_both (ltb (rank d.best_stamp) (rank x.stamp)) _ _ (LowReader top) (λ _. b)
      (λ _. cond_both (eqb (rank d.best_stamp) (rank x.stamp)) _ _ (LowReader top) (λ _. a) (λ _. a))

  lowered_low : (top : ℕ) (d : Reader F) (c : ℕ) (x : Held F) → LowReader top d → Low top x.stamp
      → LowReader top (lowered d c x)
  unfolding lowered
  lowered_low top d c x a b =
      cond_both (eqb d.replies 0 || ltb (rank x.stamp) (rank d.best_stamp)) _ _ (LowReader top) (λ _. b)
      (λ _. a)

  -- Another journal, other marks and acknowledgers.
  alike : (s t : State F) → Behind s → t.writer.last ≡ s.writer.last → t.messages ≡ s.messages
      → t.replicas ≡ s.replicas → t.readers ≡ s.readers → Behind t
  alike s t behind w m c r = record {
    messages_low = rw (w, m) behind.messages_low;
    replicas_low = rw (w, c) behind.replicas_low;
    readers_low = rw (w, r) behind.readers_low;
  }

  module _ (s : State F) (behind : Behind s) where
    held_low : (c : ℕ) → Low (last s) (held s c).stamp
    held_low c =
        all_read (LowReplica (last s)) s.replicas c (new_replica s.start) (start_low (last s))
        behind.replicas_low

    reader_low : (r : ℕ) → LowReader (last s) (reader s r)
    reader_low r =
        all_read (LowReader (last s)) s.readers r (new_reader s.start) (start_low (last s)) behind.readers_low

    pub message_low : (place : ℕ) → LowMessage (last s) (message s place)
    message_low place =
        all_read (LowMessage (last s)) s.messages place (no_message s.start) (start_low (last s))
        behind.messages_low

    with_held_behind : (c : ℕ) (x : Held F) → Low (last s) x.stamp → Behind (with_held s c x)
    with_held_behind c x h = record {
      messages_low = behind.messages_low;
      replicas_low = All-set (LowReplica (last s)) s.replicas c _ h behind.replicas_low;
      readers_low = behind.readers_low;
    }

    with_reader_behind : (r : ℕ) (d : Reader F) → LowReader (last s) d → Behind (with_reader s r d)
    with_reader_behind r d h = record {
      messages_low = behind.messages_low;
      replicas_low = behind.replicas_low;
      readers_low = All-set (LowReader (last s)) s.readers r d h behind.readers_low;
    }

    -- Reader r, now d

    module _ (rule : Rule) (r : ℕ) (d : Reader F) (low : LowReader (last s) d) where
      finish_lags : (exchanges : ℕ) → Lags (read_finishing s r d exchanges)
      finish_lags exchanges = (
        alike (with_reader s r (reader_freed d)) _
            (with_reader_behind r (reader_freed d) low) refl refl refl refl,
        tt,
      )

      last_lags : (exchanges : ℕ) → Lags (after_last rule s r d exchanges)
      last_lags exchanges =
          cond_both (rule.round (bits d.replies)) _ _ Lags (λ _. finish_lags exchanges)
          (λ _. (with_reader_behind r d low, tt))

      have_lags : Lags (after_have rule s r d)
      have_lags =
          cond_both (rule.round (bits d.replies)) _ _ Lags
          (λ _. cond_both (is_quick (line s d.operation).kind && rule.hold (bits d.holders)) _ _ Lags
          (λ _. finish_lags 2)
          (λ _. (with_reader_behind r (placing d) low, all_low_to_all (last s) rule.size MessageKind.Back d.operation (Party.Reader r) (best d) low)))
          (λ _. (with_reader_behind r d low, tt))

    -- Message m

    module _ (rule : Rule) (m : Message F) (low : LowMessage (last s) m) where
      quiet_lags : Lags (quiet s)
      quiet_lags = (behind, tt)

      taken_low : (c : ℕ) → Low (last s) (took (held s c) (carried m)).stamp
      taken_low c = took_low (last s) (held s c) (carried m) (held_low c) low

      offer_lags : (ack : MessageKind) → Lags (on_offer s m ack)
      unfolding on_offer
      offer_lags ack =
          (with_held_behind (index m.receiver) _ (taken_low (index m.receiver)), (start_low (last s), tt))

      put_ack_lags : Lags (on_put_ack rule s m)
      unfolding on_put_ack
      put_ack_lags =
          cond_both (not (eqb s.writer.operation m.operation)) _ _ Lags (λ _. quiet_lags)
          (λ _. cond_both (rule.round (bits (joined s.writer.acknowledgers (index m.sender)))) _ _ Lags
          (λ _. (alike s _ behind refl refl refl refl, tt))
          (λ _. (alike s _ behind refl refl refl refl, tt)))

      query_lags : Lags (on_query s m)
      unfolding on_query
      query_lags = (behind, (held_low (index m.receiver), tt))

      heard_lags : Lags (on_have rule s m)
      unfolding on_have
      heard_lags =
          let r : ℕ = index m.receiver in
          cond_both (counts in_first (reader s r) m) _ _ Lags
          (λ _. have_lags rule r (heard (reader s r) (index m.sender) (carried m))
          (heard_low (last s) (reader s r) (index m.sender) (carried m) (reader_low r) low))
          (λ _. quiet_lags)

      back_ack_lags : Lags (on_back_ack rule s m)
      unfolding on_back_ack
      back_ack_lags =
          let r : ℕ = index m.receiver in
          cond_both (counts in_second (reader s r) m) _ _ Lags
          (λ _. last_lags rule r (confirmed (reader s r) (index m.sender)) (reader_low r) 4)
          (λ _. quiet_lags)

      reply_lags : Lags (on_reply rule s m)
      unfolding on_reply
      reply_lags =
          let r : ℕ = index m.receiver in
          cond_both (counts in_relay (reader s r) m) _ _ Lags
          (λ _. last_lags rule r (lowered (reader s r) (index m.sender) (carried m))
          (lowered_low (last s) (reader s r) (index m.sender) (carried m) (reader_low r) low) 3)
          (λ _. quiet_lags)

      fan_lags : Lags (on_fan rule s m)
      unfolding on_fan
      fan_lags = (
        behind,
        all_low_to_all (last s) rule.size MessageKind.Relay m.operation m.receiver _
            (held_low (index m.receiver)),
      )

      relay_lags : Lags (on_relay rule s m)
      unfolding on_relay
      relay_lags =
          let c : ℕ = index m.receiver in
          let x : Held F = took (held s c) (carried m) in
          let k : RelayMark = mark s c (index (line s m.operation).owner) in
          let n : RelayMark = marked k m.operation (index m.sender) in
          let taken : Behind (with_held s c x) = with_held_behind c x (taken_low c) in
          cond_both (ltb m.operation k.operation) _ _ Lags (λ _. (taken, tt))
          (λ _. cond_both (rule.round (bits n.relayers) && not n.replied) _ _ Lags
          (λ _. (alike (with_held s c x) _ taken refl refl refl refl, (taken_low c, tt)))
          (λ _. (alike (with_held s c x) _ taken refl refl refl refl, tt)))

      on_lags : (kind : MessageKind) → Lags (on rule kind s m)
      unfolding on
      on_lags MessageKind.Put = offer_lags MessageKind.PutAck
      on_lags MessageKind.PutAck = put_ack_lags
      on_lags MessageKind.Query = query_lags
      on_lags MessageKind.Have = heard_lags
      on_lags MessageKind.Back = offer_lags MessageKind.BackAck
      on_lags MessageKind.BackAck = back_ack_lags
      on_lags MessageKind.Fan = fan_lags
      on_lags MessageKind.Relay = relay_lags
      on_lags MessageKind.Reply = reply_lags

      received_lags : Lags (received rule s m)
      unfolding received
      received_lags = cond_both (halted s m.receiver) _ _ Lags (λ _. quiet_lags) (λ _. on_lags m.kind)

  posted_behind : (e : Effect F) → Lags e → Behind (posted e.next e.sent)
  posted_behind e (behind, low) = record {
    messages_low = All-append (LowMessage (last e.next)) e.next.messages e.sent behind.messages_low low;
    replicas_low = behind.replicas_low;
    readers_low = behind.readers_low;
  }

  -- Calls

  module _ (rule : Rule) (s : State F) (behind : Behind s) where
    -- the writer's last stamp rises
    write_lags : (f : F) → Lags (write rule s f)
    unfolding write
    write_lags f =
        let top : ℕ = rank (next_stamp s.writer.last) in
        let above : last s < top = rank_next s.writer.last in (
          record {
            messages_low = All-weaker (LowMessage (last s)) (LowMessage top) (λ m h. omega arith) s.messages
                behind.messages_low;
            replicas_low = All-weaker (LowReplica (last s)) (LowReplica top) (λ c h. omega arith) s.replicas
                behind.replicas_low;
            readers_low = All-weaker (LowReader (last s)) (LowReader top) (λ d h. omega arith) s.readers
                behind.readers_low;
          },
          all_low_to_all top rule.size MessageKind.Put (next_number s) Party.Writer (to_write s f) (omega arith),
        )

    read_lags : (r : ℕ) (kind : ReadKind) → Lags (read rule s r kind)
    unfolding read
    read_lags r kind =
        let t : State F = with_line s (OperationKind.Read kind) (Party.Reader r) (unused s.start) in (
          with_reader_behind t (alike s t behind refl refl refl refl) r _ (start_low (last s)),
          all_low_to_all (last s) rule.size (opening_message kind) (next_number s) (Party.Reader r)
              (unused s.start) (start_low (last s)),
        )

    without_behind : (place : ℕ) → Behind (without_message s place)
    without_behind place = record {
      messages_low = all_without (LowMessage (last s)) s.messages place behind.messages_low;
      replicas_low = behind.replicas_low;
      readers_low = behind.readers_low;
    }

    deliver_lags : (place : ℕ) → Lags (deliver rule s place)
    unfolding deliver
    deliver_lags place =
        received_lags (without_message s place) (without_behind place) rule (message s place)
        (message_low s behind place)

    duplicated_behind : (place : ℕ) → Behind (duplicated s place).next
    unfolding duplicated
    duplicated_behind place = record {
      messages_low = All-append (LowMessage (last s)) s.messages (message s place ∷ []) behind.messages_low
          (message_low s behind place, tt);
      replicas_low = behind.replicas_low;
      readers_low = behind.readers_low;
    }

    stopped_behind : (p : Party) → Behind (stopped s p)
    stopped_behind Party.Writer = alike s _ behind refl refl refl refl
    stopped_behind (Party.Reader r) = with_reader_behind s behind r (reader_halted (reader s r)) (reader_low s behind r)
    stopped_behind (Party.Replica c) = record {
      messages_low = behind.messages_low;
      replicas_low = All-set (LowReplica (last s)) s.replicas c (replica_halted (replica s c))
          (held_low s behind c) behind.replicas_low;
      readers_low = behind.readers_low;
    }

    pub done_behind : (c : Call F) → Behind (done rule s c).next × Granted (done rule s c).reply
    unfolding done dropped duplicated halt
    done_behind (Call.Write f) = (posted_behind (write rule s f) (write_lags f), tt)
    done_behind (Call.Read r kind) = (posted_behind (read rule s r kind) (read_lags r kind), tt)
    done_behind (Call.Deliver place) = (posted_behind (deliver rule s place) (deliver_lags place), tt)
    done_behind (Call.Drop place) = (without_behind place, tt)
    done_behind (Call.Duplicate place) = (duplicated_behind place, tt)
    done_behind (Call.Halt p) = (stopped_behind p, tt)

    settled_behind : (o : Outcome F) (e : Option Refusal) → Behind o.next → Behind (settled s e o).next
    settled_behind o (Some e) h = behind
    settled_behind o None h =
        cond_both (overfull s o) (declined s Refusal.NoRoom) o (λ (p : Outcome F). Behind p.next) (λ _. behind)
        (λ _. h)

  pub behind_kept : (rule : Rule) (s : State F) (c : Call F) → Behind s → Behind (step rule s c).next
  unfolding step
  behind_kept rule s c behind =
      settled_behind rule s behind (done rule s c) (refusal rule s c) (done_behind rule s behind c).0

  pub fresh_behind : (rule : Rule) (start : F) (readers message_room journal_room : ℕ)
      → Behind (fresh rule start readers message_room journal_room)
  unfolding fresh
  fresh_behind rule start readers message_room journal_room = record {
    messages_low = tt;
    replicas_low = all_alike (LowReplica (rank no_stamp)) rule.size (new_replica start) (start_low (rank no_stamp));
    readers_low = all_alike (LowReader (rank no_stamp)) readers (new_reader start) (start_low (rank no_stamp));
  }
