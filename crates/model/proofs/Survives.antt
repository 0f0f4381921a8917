-- Every call keeps what an operation waits for, unless it drops one of its messages.
use Rattle.std.proofs.Common.{◌≡◌, ℕ, ◌+◌, ◌*◌, ◌<◌, true, false, ◌⊎◌, List, [], ◌∷◌, ◌++◌, length, get_or, replicate, refl, ◌∙◌, inl, arith}
use Rattle.std.proofs.lemmas.Bool.{cond_both, both_ways, leb-false}
use Rattle.quorum.specs.Sets.{Rule}
use Rattle.quorum.specs.Laws.{Lawful}
use Rattle.model.specs.declared.parties.Party.{Party}
use Rattle.model.specs.declared.messages.MessageKind.{MessageKind}
use Rattle.model.specs.declared.journal.ReadKind.{ReadKind}
use Rattle.model.specs.declared.replica.Replica.{Replica}
use Rattle.model.specs.declared.reader.Reader.{Reader}
use Rattle.model.specs.declared.messages.Message.{Message}
use Rattle.model.specs.declared.calls.Call.{Call}
use Rattle.model.specs.State.{State, Held, unused, without, new_replica, new_mark, no_message, reader, message, halted, without_message}
use Rattle.model.specs.Deliveries.{to_all, on, received}
use Rattle.model.specs.History.{History}
use Rattle.model.specs.Claims.{In}
use Rattle.model.proofs.Lists.{each_set, each_set_all, in_left, in_right, in_without}
use Rattle.model.proofs.World.{World}
use Rattle.model.proofs.Good.{Says, Good}
use Rattle.model.proofs.Chains.{Awake, waits_all, Exchange, ReaderLive, AtIt, Live, Passes, no_operation, plain, reader_carry, writer_carry}
use Rattle.model.proofs.Lives.{LiveIn, Lives, round_none, lost, put_lives, back_lives, query_lives, fan_lives, put_ack_lives, have_lives, back_ack_lives}
use lib.ListN.{length-replicate}
use Rattle.model.specs.State.{fresh}
use Rattle.model.specs.Steps.{Outcome, outcome, next_number, to_write, write, opening_phase, opening_message, read, deliver, dropped, duplicated, halt, done, tests, step}
use Rattle.model.proofs.Lists.{each_replicate}
use Rattle.model.proofs.LiveRelays.{relay_lives, reply_lives}
use Rattle.model.proofs.Run.{Clear, stepped, says_at}

pub record LivesOn {F : Type 0} (q : Rule) (R j : ℕ) (o : Outcome F) : Type 0 where
  pub live : LiveIn q R j o.next

-- The call drops no message of operation j.
abbrev pub Spares : {F : Type 0} → ℕ → Call F → Outcome F → Type 0
Spares {F} j c o = (place : ℕ) → c ≡ Call.Drop place → (a : Message F) → In a o.taken → a.operation ≡ j → ⊥

module _ {F : Type 0} (q : Rule) (R : ℕ) (law : Lawful q) (start : F) (w : World F) (s : State F) (h : History F)
    (g : Good q R start w s h) (j : ℕ) (pos : 0 < j) (x : LiveIn q R j s) where
  abbrev O : Outcome F → Type 0
  O = LivesOn q R j

  -- At most a message of another operation went, and some halted.
  module _ (l : List (Replica F)) (t : List (Message F)) (m : Message F)
      (p : Passes q s.start j s.replicas s.messages l t m) (n : m.operation ≡ j → ⊥) where
    reader_stays : (r : ℕ) → AtIt q s.start j R s.marks l t r (reader s r)
    reader_stays r =
        reader_carry q s.start j s.replicas s.messages l t m p R s.marks s.marks r (reader s r)
        (λ _ _ _. no_operation q s.start j l t m MessageKind.Query MessageKind.Have _ n)
        (λ _ _ _. no_operation q s.start j l t m MessageKind.Back MessageKind.BackAck _ n)
        (λ _ _ _ y. plain q s.start j l t m R s.marks r _ (λ _ i. n i) s.replicas s.messages y)
        (x.reader_live r)

    writer_stays : s.writer.operation ≡ j → s.writer.halted ≡ false
        → Exchange q s.start j l t MessageKind.Put MessageKind.PutAck s.writer.acknowledgers
    writer_stays =
        writer_carry q s.start j s.replicas s.messages l t m p s.writer
        (λ _ _. no_operation q s.start j l t m MessageKind.Put MessageKind.PutAck _ n) x.writer_live

    unmoved : Live q s.start j R l t s.readers s.marks s.writer
    unmoved = record { sized_marks = x.sized_marks; writer_live = writer_stays; reader_live = reader_stays }

  abbrev nothing : Message F
  nothing = no_message s.start

  not_nothing : nothing.operation ≡ j → ⊥
  not_nothing e = omega arith

  grown : (u : List (Message F))
      → Passes q s.start j s.replicas s.messages s.replicas (s.messages ++ u) nothing
  grown u = record { keeps = λ y i. inl (in_left s.messages u y i); awake = λ c k. k }

  drop_lives : (p : ℕ) → ((message s p).operation ≡ j → ⊥) → O (dropped s p)
  unfolding dropped
  drop_lives p n = record {
    live =
        unmoved s.replicas (without s.messages p) (message s p)
        (record { keeps = λ y i. in_without s.messages p _ y i; awake = λ c k. k }) n;
  }

  duplicate_lives : (p : ℕ) → O (duplicated s p)
  unfolding duplicated
  duplicate_lives p = record {
    live = unmoved s.replicas (s.messages ++ message s p ∷ []) nothing (grown (message s p ∷ [])) not_nothing;
  }

  halt_lives : (p : Party) → O (halt s p)
  unfolding halt
  halt_lives Party.Writer = record {
    live = record {
      sized_marks = x.sized_marks;
      writer_live = λ _ e. absurd (both_ways true e refl);
      reader_live = x.reader_live;
    };
  }
  halt_lives (Party.Reader r) = record {
    live = record {
      sized_marks = x.sized_marks;
      writer_live = x.writer_live;
      reader_live =
          each_set_all (λ k y. AtIt q s.start j R s.marks s.replicas s.messages k y) s.readers r _ _
          (λ _ e. absurd (both_ways true e refl)) x.reader_live;
    };
  }
  halt_lives (Party.Replica c) = record {
    live = unmoved _ s.messages nothing
        (record {
          keeps = λ y i. inl i;
          awake =
              each_set_all (λ k y. y.halted ≡ false → Awake s.start s.replicas k) s.replicas c _ _
              (λ e. absurd (both_ways true e refl)) (λ k e. e);
        })
        not_nothing;
  }

  -- An exchange that begins.
  opens : (a b : MessageKind) (n : ℕ) (from : Party) (y : Held F) → n ≡ j
      → Exchange q s.start j s.replicas (s.messages ++ to_all q.size a n from y) a b 0
  opens a b n from y e = record {
    unfinished = round_none q law;
    due = λ c l _.
        let z = waits_all q.size a n from y c l in
        inl
        (inl
        (record { what = z.what; there = in_right s.messages _ _ z.there; is = record { kind_is = z.is.kind_is; operation_is = z.is.operation_is ∙ e; receiver_is = z.is.receiver_is } }));
  }

  write_lives : (f : F) → O (outcome [] (write q s f))
  unfolding write
  write_lives f =
      let u = to_all q.size MessageKind.Put (next_number s) Party.Writer (to_write s f) in
      record {
        live = record {
          sized_marks = x.sized_marks;
          writer_live = λ e _. opens MessageKind.Put MessageKind.PutAck (next_number s) Party.Writer (to_write s f) e;
          reader_live = reader_stays s.replicas (s.messages ++ u) nothing (grown u) not_nothing;
        };
      }

  marks_low : (i : ℕ) → (get_or s.marks i new_mark).operation < next_number s
  marks_low i = omega (arith, (g.marks i).low, g.count_is)

  opened : (kind : ReadKind) (r n : ℕ) (y : Held F) → n ≡ j → n ≡ next_number s
      → ReaderLive q s.start j R s.marks s.replicas (s.messages ++ to_all q.size (opening_message kind) n (Party.Reader r) y) r (opening_phase kind) 0
  opened ReadKind.Quick r n y e i = opens MessageKind.Query MessageKind.Have n (Party.Reader r) y e
  opened ReadKind.Settled r n y e i = opens MessageKind.Query MessageKind.Have n (Party.Reader r) y e
  opened ReadKind.Relay r n y e i = record {
    unfinished = round_none q law;
    asked = λ c l _.
        let z = waits_all q.size MessageKind.Fan n (Party.Reader r) y c l in
        inl
        (record {
          what = z.what;
          there = in_right s.messages _ _ z.there;
          is = record {
            kind_is = z.is.kind_is;
            operation_is = z.is.operation_is ∙ e;
            receiver_is = z.is.receiver_is;
          };
        });
    rounds = λ c a. absurd (omega (arith, marks_low (c * R + r)));
    answers = λ c a. absurd (omega (arith, marks_low (c * R + r)));
    low = λ c. omega (arith, marks_low (c * R + r));
  }

  read_lives : (r : ℕ) (kind : ReadKind) → O (outcome [] (read q s r kind))
  unfolding read
  read_lives r kind =
      let u = to_all q.size (opening_message kind) (next_number s) (Party.Reader r) (unused s.start) in
      record {
        live = record {
          sized_marks = x.sized_marks;
          writer_live = writer_stays s.replicas (s.messages ++ u) nothing (grown u) not_nothing;
          reader_live =
              each_set (λ k y. AtIt q s.start j R s.marks s.replicas (s.messages ++ u) k y) s.readers r _
              _
              (λ e _. opened kind r (next_number s) (unused s.start) e refl) (λ _ e. absurd (omega arith))
              (λ k _. reader_stays s.replicas (s.messages ++ u) nothing (grown u) not_nothing k);
        };
      }

  module _ (p : ℕ) (low : p < length s.messages) where
    abbrev m₀ : Message F
    m₀ = message s p

    says₀ : Says q R w m₀.kind m₀
    says₀ = says_at q R law start w s h g p low

    gone : (y : Message F) → In y s.messages → In y (without s.messages p) ⊎ (y ≡ m₀)
    gone y i = in_without s.messages p (no_message s.start) y i

    acts : (k : MessageKind) → m₀.kind ≡ k → Says q R w k m₀ → Lives q R j (on q k (without_message s p) m₀)
    unfolding on
    acts MessageKind.Put e y = put_lives q R law start w s h g j pos x m₀ says₀ (without s.messages p) gone e
    acts MessageKind.PutAck e y =
        put_ack_lives q R law start w s h g j pos x m₀ says₀ (without s.messages p) gone e
    acts MessageKind.Query e y = query_lives q R law start w s h g j pos x m₀ says₀ (without s.messages p) gone e
    acts MessageKind.Have e y = have_lives q R law start w s h g j pos x m₀ says₀ (without s.messages p) gone e y
    acts MessageKind.Back e y = back_lives q R law start w s h g j pos x m₀ says₀ (without s.messages p) gone e
    acts MessageKind.BackAck e y =
        back_ack_lives q R law start w s h g j pos x m₀ says₀ (without s.messages p) gone e y
    acts MessageKind.Fan e y = fan_lives q R law start w s h g j pos x m₀ says₀ (without s.messages p) gone e
    acts MessageKind.Relay e y = relay_lives q R law start w s h g j pos x m₀ says₀ (without s.messages p) gone e y
    acts MessageKind.Reply e y = reply_lives q R law start w s h g j pos x m₀ says₀ (without s.messages p) gone e y

    arrives : Lives q R j (received q (without_message s p) m₀)
    unfolding received
    arrives =
        cond_both (halted s m₀.receiver) _ _ (Lives q R j)
        (λ e. lost q R law start w s h g j pos x m₀ says₀ (without s.messages p) gone e)
        (λ _. acts m₀.kind refl says₀)

    deliver_lives : O (outcome (m₀ ∷ []) (deliver q s p))
    unfolding deliver
    deliver_lives = record { live = arrives.live }

  done_lives : (c : Call F) → Clear (tests q s c) → Spares j c (done q s c) → O (done q s c)
  unfolding done tests dropped
  done_lives (Call.Write f) t sp = write_lives f
  done_lives (Call.Read r kind) t sp = read_lives r kind
  done_lives (Call.Deliver p) t sp = deliver_lives p (leb-false _ _ t.0)
  done_lives (Call.Drop p) t sp = drop_lives p (sp p refl (message s p) (inl refl))
  done_lives (Call.Duplicate p) t sp = duplicate_lives p
  done_lives (Call.Halt p) t sp = halt_lives p

  pub step_lives : (c : Call F) → Spares j c (step q s c) → O (step q s c)
  step_lives c = stepped (λ o. Spares j c o → O o) q s c (λ e _. record { live = x }) (λ _ t sp. done_lives c t sp)

module _ {F : Type 0} (q : Rule) (law : Lawful q) (start : F) where
  pub fresh_lives : (R a b j : ℕ) → 0 < j → LiveIn q R j (fresh q start R a b)
  unfolding fresh
  fresh_lives R a b j pos = record {
    sized_marks = length-replicate (q.size * R) _;
    writer_live = λ e. absurd (omega arith);
    reader_live =
        each_replicate
        (λ k (y : Reader F). AtIt q start j R (replicate (q.size * R) new_mark)
        (replicate q.size (new_replica start)) [] k y)
        R _ _ (λ k e. absurd (omega arith)) (λ k e. absurd (omega arith));
  }
