-- A delivery keeps what an operation waits for.
use Rattle.std.proofs.Common.{◌≡◌, ℕ, ◌<◌, Bool, true, false, not, ◌&&◌, eqb, ◌⊎◌, List, [], ◌++◌, length, set, sym, refl, ap, ◌∙◌, subst, inl, inr, arith}
use Rattle.std.proofs.lemmas.Bool.{cond_both, cases_eq, cases_Bool, both_ways, eqb-false, not-true, not_from_false, eq-eqb, and_from}
use Rattle.quorum.specs.Sets.{Rule, bits, joined}
use Rattle.quorum.specs.Laws.{Lawful}
use Rattle.model.specs.declared.parties.Party.{Party}
use Rattle.model.specs.declared.reader.Phase.{Phase}
use Rattle.model.specs.declared.messages.MessageKind.{MessageKind}
use Rattle.model.specs.declared.replica.Replica.{Replica}
use Rattle.model.specs.declared.reader.Reader.{Reader}
use Rattle.model.specs.declared.marks.RelayMark.{RelayMark}
use Rattle.model.specs.declared.messages.Message.{Message}
use Rattle.model.specs.State.{State, Held, index, unused, replica, reader, line, held, halted, with_messages}
use Rattle.model.specs.Records.{best, heard, confirmed, placing, reader_freed}
use Rattle.model.specs.Deliveries.{Effect, quiet, to_all, carried, answer, on_offer, on_put_ack, on_query, in_first, in_second, in_relay, counts, is_quick, after_have, on_have, after_last, on_back_ack, on_fan}
use Rattle.model.specs.History.{History}
use Rattle.model.specs.Claims.{In}
use Rattle.model.proofs.Sets.{none, joined_same, joined_old}
use Rattle.model.proofs.Lists.{each_set, each_set_all, in_left, in_right}
use Rattle.model.proofs.World.{round_some, World}
use Rattle.model.proofs.Good.{Ack, Report, Says, Good}
use Rattle.model.proofs.Waits.{to_first, to_second, to_relaying, counts_parts, Hearing, hearing_by, hearing_heard}
use Rattle.model.proofs.Chains.{kind_code, Awake, To, waits_all, relays_all, Exchange, RelayLive, ReaderLive, AtIt, Live, Passes, Swaps, no_swap, answered, counted, carry, RelaySwaps, plain, reader_carry, writer_carry}

abbrev pub LiveIn : {F : Type 0} → Rule → ℕ → ℕ → State F → Type 0
LiveIn q R j s = Live q s.start j R s.replicas s.messages s.readers s.marks s.writer

-- After an effect, with what it sends among the other messages.
pub record Lives {F : Type 0} (q : Rule) (R j : ℕ) (e : Effect F) : Type 0 where
  pub live : Live q e.next.start j R e.next.replicas (e.next.messages ++ e.sent) e.next.readers e.next.marks e.next.writer

pub round_none : (q : Rule) → Lawful q → q.round (bits 0) ≡ false
round_none q law = elim (cases_Bool (q.round (bits 0))) [
  | inl e ↦ let m = round_some q law (bits 0) e in absurd (both_ways (bits 0 m.0) (none m.0) m.1)
  | inr e ↦ e
]

-- A message of the current operation in the right phase counts, or has been counted.
pub counts_not : {F : Type 0} (meant : Phase → Bool) (d : Reader F) (m : Message F) → counts meant d m ≡ false
    → d.operation ≡ m.operation → meant d.phase ≡ true → bits d.replies (index m.sender) ≡ true
counts_not meant d m n o f = elim (cases_Bool (bits d.replies (index m.sender))) [
  | inl e ↦ e
  | inr e ↦ absurd (both_ways _ n (and_from (eqb d.operation m.operation && meant d.phase) (not (bits d.replies (index m.sender)))
      (and_from (eqb d.operation m.operation) (meant d.phase) (eq-eqb d.operation m.operation o) f)
      (not_from_false _ e)))
]

module _ {F : Type 0} (q : Rule) (start : F) (j R : ℕ) (ks : List RelayMark) (l : List (Replica F))
    (t : List (Message F)) (r got : ℕ) where
  pub live_first : (p : Phase) → in_first p ≡ true → Exchange q start j l t MessageKind.Query MessageKind.Have got
      → ReaderLive q start j R ks l t r p got
  live_first Phase.Idle e x = absurd (both_ways false refl e)
  live_first Phase.First e x = x
  live_first Phase.Second e x = absurd (both_ways false refl e)
  live_first Phase.Relay e x = absurd (both_ways false refl e)

  pub first_live : (p : Phase) → in_first p ≡ true → ReaderLive q start j R ks l t r p got
      → Exchange q start j l t MessageKind.Query MessageKind.Have got
  first_live Phase.Idle e x = absurd x
  first_live Phase.First e x = x
  first_live Phase.Second e x = absurd (both_ways false refl e)
  first_live Phase.Relay e x = absurd (both_ways false refl e)

  pub live_second : (p : Phase) → in_second p ≡ true → Exchange q start j l t MessageKind.Back MessageKind.BackAck got
      → ReaderLive q start j R ks l t r p got
  live_second Phase.Idle e x = absurd (both_ways false refl e)
  live_second Phase.First e x = absurd (both_ways false refl e)
  live_second Phase.Second e x = x
  live_second Phase.Relay e x = absurd (both_ways false refl e)

  pub second_live : (p : Phase) → in_second p ≡ true → ReaderLive q start j R ks l t r p got
      → Exchange q start j l t MessageKind.Back MessageKind.BackAck got
  second_live Phase.Idle e x = absurd x
  second_live Phase.First e x = absurd (both_ways false refl e)
  second_live Phase.Second e x = x
  second_live Phase.Relay e x = absurd (both_ways false refl e)

  pub live_relay : (p : Phase) → in_relay p ≡ true → RelayLive q start j R ks l t r got
      → ReaderLive q start j R ks l t r p got
  live_relay Phase.Idle e x = absurd (both_ways false refl e)
  live_relay Phase.First e x = absurd (both_ways false refl e)
  live_relay Phase.Second e x = absurd (both_ways false refl e)
  live_relay Phase.Relay e x = x

  pub relay_live : (p : Phase) → in_relay p ≡ true → ReaderLive q start j R ks l t r p got
      → RelayLive q start j R ks l t r got
  relay_live Phase.Idle e x = absurd x
  relay_live Phase.First e x = absurd (both_ways false refl e)
  relay_live Phase.Second e x = absurd (both_ways false refl e)
  relay_live Phase.Relay e x = x

module _ {F : Type 0} (q : Rule) (R : ℕ) (law : Lawful q) (start : F) (w : World F) (s : State F) (h : History F)
    (g : Good q R start w s h) (j : ℕ) (pos : 0 < j) (x : LiveIn q R j s)
    (m : Message F) (says : Says q R w m.kind m) (t₁ : List (Message F))
    (out : (y : Message F) → In y s.messages → In y t₁ ⊎ (y ≡ m)) where
  abbrev L : Effect F → Type 0
  L = Lives q R j

  abbrev pub rest : State F
  rest = with_messages s t₁

  -- u has come behind the others.
  pub passes : (l : List (Replica F)) (u : List (Message F))
      → ((c : ℕ) → Awake s.start l c → Awake s.start s.replicas c)
      → Passes q s.start j s.replicas s.messages l (t₁ ++ u) m
  passes l u a = record {
    keeps = λ y i. elim (out y i) [ inl k ↦ inl (in_left t₁ u y k) | inr e ↦ inr e ];
    awake = a;
  }

  pub same : (u : List (Message F)) → Passes q s.start j s.replicas s.messages s.replicas (t₁ ++ u) m
  same u = passes s.replicas u (λ c k. k)

  -- The reader that is at operation j is its owner.

  pub owner_first : (r : ℕ) → (reader s r).operation ≡ j → in_first (reader s r).phase ≡ true
      → (w.ops j).owner ≡ Party.Reader r
  owner_first r o f =
      subst (λ n. (w.ops n).owner ≡ Party.Reader r) o (to_first q w r _ _ f (g.readers r)).owner_is

  pub owner_second : (r : ℕ) → (reader s r).operation ≡ j → in_second (reader s r).phase ≡ true
      → (w.ops j).owner ≡ Party.Reader r
  owner_second r o f =
      subst (λ n. (w.ops n).owner ≡ Party.Reader r) o (to_second q w r _ _ f (g.readers r)).owner_is

  pub owner_relay : (r : ℕ) → (reader s r).operation ≡ j → in_relay (reader s r).phase ≡ true
      → (w.ops j).owner ≡ Party.Reader r
  owner_relay r o f =
      subst (λ n. (w.ops n).owner ≡ Party.Reader r) o (to_relaying q w r _ _ f (g.readers r)).owner_is

  pub meant_for : (r : ℕ) → (w.ops j).owner ≡ Party.Reader r → m.operation ≡ j
      → m.receiver ≡ (w.ops m.operation).owner → m.receiver ≡ Party.Reader r
  meant_for r o e t = t ∙ ap (λ n. (w.ops n).owner) e ∙ o

  -- A step that leaves the parties but the replicas as they are.
  pub frame : (l : List (Replica F)) (u : List (Message F)) (a : (c : ℕ) → Awake s.start l c → Awake s.start s.replicas c)
      → (s.writer.operation ≡ j → s.writer.halted ≡ false → Swaps q s.start j l (t₁ ++ u) m MessageKind.Put MessageKind.PutAck s.writer.acknowledgers)
      → ((r : ℕ) → (reader s r).operation ≡ j → (reader s r).halted ≡ false → in_first (reader s r).phase ≡ true → Swaps q s.start j l (t₁ ++ u) m MessageKind.Query MessageKind.Have (reader s r).replies)
      → ((r : ℕ) → (reader s r).operation ≡ j → (reader s r).halted ≡ false → in_second (reader s r).phase ≡ true → Swaps q s.start j l (t₁ ++ u) m MessageKind.Back MessageKind.BackAck (reader s r).replies)
      → (ks : List RelayMark) → length ks ≡ length s.marks
      → ((r : ℕ) → (reader s r).operation ≡ j → (reader s r).halted ≡ false → in_relay (reader s r).phase ≡ true → RelayLive q s.start j R s.marks s.replicas s.messages r (reader s r).replies
      → RelaySwaps q s.start j l (t₁ ++ u) m R s.marks ks r (reader s r).replies)
      → Live q s.start j R l (t₁ ++ u) s.readers ks s.writer
  frame l u a sw s1 s2 ks sk s3 = record {
    sized_marks = sk ∙ x.sized_marks;
    writer_live =
        writer_carry q s.start j s.replicas s.messages l (t₁ ++ u) m (passes l u a) s.writer sw
        x.writer_live;
    reader_live = λ r. reader_carry q s.start j s.replicas s.messages l (t₁ ++ u) m (passes l u a) R s.marks ks r (reader s r) (s1 r) (s2 r) (s3 r) (x.reader_live r);
  }

  -- The receiver has halted.
  pub lost : halted s m.receiver ≡ true → L (quiet rest)
  lost hl = record {
    live = frame s.replicas [] (λ c k. k)
        (λ o k c z a. elim z [
          | inl i ↦ absurd (deaf c i a)
          | inr i ↦ absurd (both_ways _ k (subst (λ p. halted s p ≡ true) ((subst (λ k. Says q R w k m) i.kind_is says).to_owner ∙ ap (λ n. (w.ops n).owner) (i.operation_is ∙ sym o) ∙ g.writer.owner_is (omega arith)) hl))
        ])
        (λ r o k f c z a. elim z [
          | inl i ↦ absurd (deaf c i a)
          | inr i ↦ absurd (both_ways _ k (subst (λ p. halted s p ≡ true) (meant_for r (owner_first r o f) i.operation_is (subst (λ k. Says q R w k m) i.kind_is says).to_owner) hl))
        ])
        (λ r o k f c z a. elim z [
          | inl i ↦ absurd (deaf c i a)
          | inr i ↦ absurd (both_ways _ k (subst (λ p. halted s p ≡ true) (meant_for r (owner_second r o f) i.operation_is (subst (λ k. Says q R w k m) i.kind_is says).to_owner) hl))
        ])
        s.marks refl
        (λ r o k f y. record {
          fan = λ c i a. absurd (deaf c i a);
          relay = λ c i t _ a. absurd (deaf i t a);
          reply = λ i t. absurd (both_ways _ k (subst (λ p. halted s p ≡ true) (meant_for r (owner_relay r o f) t.operation_is (subst (λ k. Says q R w k m) t.kind_is says).to_owner) hl));
          noted = λ c i n. n;
          rounds = y.rounds;
          replied = λ i a b _. inl (a, b);
          low = y.low;
        });
  }
    where
      deaf : {k : MessageKind} (c : ℕ) → To m k j c → Awake s.start s.replicas c → ⊥
      deaf c i a = both_ways _ a (subst (λ p. halted s p ≡ true) i.receiver_is hl)

  -- A message below the relayed reads'.
  pub low_kind : kind_code m.kind < 6
      → (l : List (Replica F)) (u : List (Message F)) (a : (c : ℕ) → Awake s.start l c → Awake s.start s.replicas c) (r : ℕ)
      → (reader s r).operation ≡ j → (reader s r).halted ≡ false → in_relay (reader s r).phase ≡ true
      → RelayLive q s.start j R s.marks s.replicas s.messages r (reader s r).replies
      → RelaySwaps q s.start j l (t₁ ++ u) m R s.marks s.marks r (reader s r).replies
  low_kind k l u a r _ _ _ y =
      plain q s.start j l (t₁ ++ u) m R s.marks r (reader s r).replies (λ z _. omega arith) s.replicas
      s.messages y

  -- Replica c takes what it is offered, and works if it did.
  pub awake_after : (c : ℕ) (y : Held F) (k : ℕ)
      → Awake s.start (set s.replicas c (record { stamp = y.stamp; figure = y.figure; halted = (replica s c).halted })) k
      → Awake s.start s.replicas k
  awake_after c y =
      each_set_all (λ k z. z.halted ≡ false → Awake s.start s.replicas k) s.replicas c _ _ (λ e. e)
      (λ k e. e)

  pub put_lives : m.kind ≡ MessageKind.Put → L (on_offer rest m MessageKind.PutAck)
  unfolding on_offer
  put_lives e =
      let n = ap kind_code e in
      record {
        live = frame _ _ (awake_after (index m.receiver) _)
            (λ _ _. answered q s.start j _ _ m MessageKind.Put MessageKind.PutAck _ (λ z. omega arith)
            (answer rest m MessageKind.PutAck (unused s.start)) (in_right t₁ _ _ (inl refl)) refl refl refl)
            (λ r _ _ _. no_swap q s.start j _ _ m MessageKind.Query MessageKind.Have _ (λ z. omega arith)
            (λ z. omega arith))
            (λ r _ _ _. no_swap q s.start j _ _ m MessageKind.Back MessageKind.BackAck _ (λ z. omega arith)
            (λ z. omega arith))
            s.marks refl (low_kind (omega arith) _ _ (awake_after (index m.receiver) _));
      }

  pub back_lives : m.kind ≡ MessageKind.Back → L (on_offer rest m MessageKind.BackAck)
  unfolding on_offer
  back_lives e =
      let n = ap kind_code e in
      record {
        live = frame _ _ (awake_after (index m.receiver) _)
            (λ _ _. no_swap q s.start j _ _ m MessageKind.Put MessageKind.PutAck _ (λ z. omega arith)
            (λ z. omega arith))
            (λ r _ _ _. no_swap q s.start j _ _ m MessageKind.Query MessageKind.Have _ (λ z. omega arith)
            (λ z. omega arith))
            (λ r _ _ _. answered q s.start j _ _ m MessageKind.Back MessageKind.BackAck _ (λ z. omega arith)
            (answer rest m MessageKind.BackAck (unused s.start)) (in_right t₁ _ _ (inl refl)) refl refl refl)
            s.marks refl (low_kind (omega arith) _ _ (awake_after (index m.receiver) _));
      }

  pub query_lives : m.kind ≡ MessageKind.Query → L (on_query rest m)
  unfolding on_query
  query_lives e =
      let n = ap kind_code e in
      record {
        live = frame s.replicas _ (λ c k. k)
            (λ _ _. no_swap q s.start j _ _ m MessageKind.Put MessageKind.PutAck _ (λ z. omega arith)
            (λ z. omega arith))
            (λ r _ _ _. answered q s.start j _ _ m MessageKind.Query MessageKind.Have _ (λ z. omega arith)
            (answer rest m MessageKind.Have (held rest (index m.receiver))) (in_right t₁ _ _ (inl refl)) refl
            refl refl)
            (λ r _ _ _. no_swap q s.start j _ _ m MessageKind.Back MessageKind.BackAck _ (λ z. omega arith)
            (λ z. omega arith))
            s.marks refl (low_kind (omega arith) _ _ (λ c k. k));
      }

  pub fan_lives : m.kind ≡ MessageKind.Fan → L (on_fan q rest m)
  unfolding on_fan
  fan_lives e =
      let n = ap kind_code e in
      record {
        live = frame s.replicas _ (λ c k. k)
            (λ _ _. no_swap q s.start j _ _ m MessageKind.Put MessageKind.PutAck _ (λ z. omega arith)
            (λ z. omega arith))
            (λ r _ _ _. no_swap q s.start j _ _ m MessageKind.Query MessageKind.Have _ (λ z. omega arith)
            (λ z. omega arith))
            (λ r _ _ _. no_swap q s.start j _ _ m MessageKind.Back MessageKind.BackAck _ (λ z. omega arith)
            (λ z. omega arith))
            s.marks refl
            (λ r o k f y. record {
              fan = λ c i _. inr (λ b l _. inl
                  (let z = relays_all q.size m.operation c (held rest (index m.receiver)) m.receiver (ap index i.receiver_is) b l in
                  record {
                    what = z.what;
                    there = in_right t₁ _ _ z.there;
                    sender_is = z.sender_is;
                    is = record {
                      kind_is = z.is.kind_is;
                      operation_is = z.is.operation_is ∙ i.operation_is;
                      receiver_is = z.is.receiver_is;
                    };
                  }));
              relay = λ c i t _ _. absurd (omega (arith, ap kind_code t.kind_is));
              reply = λ i t. absurd (omega (arith, ap kind_code t.kind_is));
              noted = λ c i z. z;
              rounds = y.rounds;
              replied = λ i a b _. inl (a, b);
              low = y.low;
            });
      }

  -- The writer hears of m.
  module _ (e : m.kind ≡ MessageKind.PutAck) where
    ack_readers : (r : ℕ) → AtIt q s.start j R s.marks s.replicas (t₁ ++ []) r (reader s r)
    ack_readers r =
        let n = ap kind_code e in
        reader_carry q s.start j s.replicas s.messages s.replicas (t₁ ++ []) m (same []) R s.marks
        s.marks r (reader s r)
        (λ _ _ _. no_swap q s.start j _ _ m MessageKind.Query MessageKind.Have _ (λ z. omega arith)
        (λ z. omega arith))
        (λ _ _ _. no_swap q s.start j _ _ m MessageKind.Back MessageKind.BackAck _ (λ z. omega arith)
        (λ z. omega arith))
        (low_kind (omega arith) s.replicas [] (λ c k. k) r) (x.reader_live r)

    pub put_ack_lives : L (on_put_ack q rest m)
    unfolding on_put_ack
    put_ack_lives =
        let n = ap kind_code e in
        cond_both (not (eqb s.writer.operation m.operation)) _ _ L
        (λ z. record {
          live = record {
            sized_marks = x.sized_marks;
            reader_live = ack_readers;
            writer_live = writer_carry q s.start j _ _ _ _ m (same []) s.writer
                (λ o k. counted q s.start j _ _ m MessageKind.Put MessageKind.PutAck _ (λ z. omega arith)
                (λ i. absurd (eqb-false s.writer.operation m.operation (not-true _ z) (o ∙ sym i))))
                x.writer_live;
          };
        })
        (λ z. cond_both (q.round (bits (joined s.writer.acknowledgers (index m.sender)))) _ _ L
        (λ _. record {
          live = record {
            sized_marks = x.sized_marks;
            reader_live = ack_readers;
            writer_live = λ o. absurd (omega arith);
          };
        })
        (λ b. record {
          live = record {
            sized_marks = x.sized_marks;
            reader_live = ack_readers;
            writer_live = λ o k. carry q s.start j _ _ _ _ m (same []) MessageKind.Put MessageKind.PutAck s.writer.acknowledgers (joined s.writer.acknowledgers (index m.sender))
                (counted q s.start j _ _ m MessageKind.Put MessageKind.PutAck _ (λ z. omega arith)
                (λ _. joined_same s.writer.acknowledgers (index m.sender)))
                b (joined_old s.writer.acknowledgers (index m.sender)) (x.writer_live o k);
          };
        }))

  -- A reader hears of m, which is for the owner of its operation.
  module _ (to_owner : m.receiver ≡ (w.ops m.operation).owner) (not_put : kind_code m.kind < 2 → ⊥)
      (n₂ : kind_code m.kind ≡ 2 → ⊥) (n₄ : kind_code m.kind ≡ 4 → ⊥) (n₆ : kind_code m.kind ≡ 6 → ⊥)
      (n₇ : kind_code m.kind ≡ 7 → ⊥) where
    pub other_readers : (u : List (Message F)) (k : ℕ) → (k ≡ index m.receiver → ⊥)
        → AtIt q s.start j R s.marks s.replicas (t₁ ++ u) k (reader s k)
    other_readers u k n =
        reader_carry q s.start j s.replicas s.messages s.replicas (t₁ ++ u) m (same u) R s.marks
        s.marks k (reader s k)
        (λ o _ f. counted q s.start j _ _ m MessageKind.Query MessageKind.Have _ n₂
        (λ i. absurd (n (sym (ap index (meant_for k (owner_first k o f) i to_owner))))))
        (λ o _ f. counted q s.start j _ _ m MessageKind.Back MessageKind.BackAck _ n₄
        (λ i. absurd (n (sym (ap index (meant_for k (owner_second k o f) i to_owner))))))
        (λ o _ f y. plain q s.start j s.replicas (t₁ ++ u) m R s.marks k _
        (λ _ i. n (sym (ap index (meant_for k (owner_relay k o f) i to_owner)))) s.replicas s.messages y)
        (x.reader_live k)

    pub other_writer : (u : List (Message F)) → s.writer.operation ≡ j → s.writer.halted ≡ false
        → Exchange q s.start j s.replicas (t₁ ++ u) MessageKind.Put MessageKind.PutAck s.writer.acknowledgers
    other_writer u = writer_carry q s.start j _ _ _ _ m (same u) s.writer
        (λ _ _. no_swap q s.start j _ _ m MessageKind.Put MessageKind.PutAck _ (λ z. not_put (omega arith))
        (λ z. not_put (omega arith)))
        x.writer_live

    -- That reader is now d, and u has come.
    pub turned : (r : ℕ) → r ≡ index m.receiver → (d : Reader F) (u : List (Message F))
        → AtIt q s.start j R s.marks s.replicas (t₁ ++ u) r d
        → Live q s.start j R s.replicas (t₁ ++ u) (set s.readers r d) s.marks s.writer
    turned r e d u n = record {
      sized_marks = x.sized_marks;
      writer_live = other_writer u;
      reader_live =
          each_set (λ k y. AtIt q s.start j R s.marks s.replicas (t₁ ++ u) k y) s.readers r d _ n
          (λ _ c. absurd (omega arith)) (λ k z. other_readers u k (λ c. z (c ∙ sym e)));
    }

    -- The message does not count.
    pub unturned : AtIt q s.start j R s.marks s.replicas (t₁ ++ []) (index m.receiver) (reader s (index m.receiver))
        → L (quiet rest)
    unturned n = record {
      live = record {
        sized_marks = x.sized_marks;
        writer_live = other_writer [];
        reader_live = λ k. elim (cases_eq k (index m.receiver)) [
          | inl e ↦ subst (λ i. AtIt q s.start j R s.marks s.replicas (t₁ ++ []) i (reader s i)) (sym e) n
          | inr e ↦ other_readers [] k e
        ];
      };
    }

  module _ (e : m.kind ≡ MessageKind.Have) (p : Report w m) where
    abbrev T : (r : ℕ) → r ≡ index m.receiver → (d : Reader F) (u : List (Message F))
        → AtIt q s.start j R s.marks s.replicas (t₁ ++ u) r d
        → Live q s.start j R s.replicas (t₁ ++ u) (set s.readers r d) s.marks s.writer
    T =
        turned p.to_owner (λ z. omega (arith, ap kind_code e)) (λ z. omega (arith, ap kind_code e))
        (λ z. omega (arith, ap kind_code e)) (λ z. omega (arith, ap kind_code e)) (λ z. omega (arith, ap kind_code e))

    have_after : (r : ℕ) → r ≡ index m.receiver → (d y : Reader F) → Hearing d (index m.sender) y
        → in_first d.phase ≡ true → AtIt q s.start j R s.marks s.replicas s.messages r d
        → L (after_have q rest r y)
    have_after r i d y v f live =
        cond_both (q.round (bits y.replies)) _ _ L
        (λ b. cond_both (is_quick (line s y.operation).kind && q.hold (bits y.holders)) _ _ L
        (λ _. record { live = T r i (reader_freed y) [] (λ o. absurd (omega arith)) })
        (λ _. record {
          live = T r i (placing y) (to_all q.size MessageKind.Back y.operation (Party.Reader r) (best y))
              (λ o _. record {
                unfinished = round_none q law;
                due = λ c l _.
                    let z = waits_all q.size MessageKind.Back y.operation (Party.Reader r) (best y) c l in
                    inl
                    (inl
                    (record { what = z.what; there = in_right t₁ _ _ z.there; is = record { kind_is = z.is.kind_is; operation_is = z.is.operation_is ∙ o; receiver_is = z.is.receiver_is } }));
              });
        }))
        (λ b. record {
          live = T r i y []
              (λ o k. live_first q s.start j R s.marks s.replicas (t₁ ++ []) r y.replies y.phase (ap in_first v.phase_is ∙ f)
              (carry q s.start j _ _ _ _ m (same []) MessageKind.Query MessageKind.Have d.replies y.replies
              (counted q s.start j _ _ m MessageKind.Query MessageKind.Have _ (λ z. omega (arith, ap kind_code e))
              (λ _. rw v.replies_is (joined_same d.replies (index m.sender))))
              b (λ n z. rw v.replies_is (joined_old d.replies (index m.sender) n z))
              (first_live q s.start j R s.marks s.replicas s.messages r d.replies d.phase f
              (live (sym v.operation_is ∙ o) (sym v.halted_is ∙ k)))));
        })

    have_not : counts in_first (reader s (index m.receiver)) m ≡ false
        → AtIt q s.start j R s.marks s.replicas (t₁ ++ []) (index m.receiver) (reader s (index m.receiver))
    have_not n =
        let d = reader s (index m.receiver) in
        let c = ap kind_code e in
        reader_carry q s.start j _ _ _ _ m (same []) R s.marks s.marks (index m.receiver) d
        (λ o _ f. counted q s.start j _ _ m MessageKind.Query MessageKind.Have _ (λ z. omega arith)
        (λ i. counts_not in_first d m n (o ∙ sym i) f))
        (λ _ _ _. no_swap q s.start j _ _ m MessageKind.Back MessageKind.BackAck _ (λ z. omega arith)
        (λ z. omega arith))
        (low_kind (omega arith) s.replicas [] (λ c k. k) (index m.receiver))
        (x.reader_live (index m.receiver))

    pub have_lives : L (on_have q rest m)
    unfolding on_have
    have_lives =
        let r = index m.receiver in
        let d = reader s r in
        cond_both (counts in_first d m) _ _ L
        (λ z. have_after r refl d (heard d (index m.sender) (carried m))
        (hearing_heard d (index m.sender) (carried m)) (counts_parts in_first d m z).phase_is
        (x.reader_live r))
        (λ z. unturned p.to_owner (λ z. omega (arith, ap kind_code e)) (λ z. omega (arith, ap kind_code e))
        (λ z. omega (arith, ap kind_code e)) (λ z. omega (arith, ap kind_code e))
        (λ z. omega (arith, ap kind_code e)) (have_not z))

  module _ (e : m.kind ≡ MessageKind.BackAck) (p : Ack w m) where
    abbrev T₂ : (r : ℕ) → r ≡ index m.receiver → (d : Reader F) (u : List (Message F))
        → AtIt q s.start j R s.marks s.replicas (t₁ ++ u) r d
        → Live q s.start j R s.replicas (t₁ ++ u) (set s.readers r d) s.marks s.writer
    T₂ =
        turned p.to_owner (λ z. omega (arith, ap kind_code e)) (λ z. omega (arith, ap kind_code e))
        (λ z. omega (arith, ap kind_code e)) (λ z. omega (arith, ap kind_code e)) (λ z. omega (arith, ap kind_code e))

    back_ack_after : (r : ℕ) → r ≡ index m.receiver → (d y : Reader F) → Hearing d (index m.sender) y
        → in_second d.phase ≡ true → AtIt q s.start j R s.marks s.replicas s.messages r d
        → L (after_last q rest r y 4)
    back_ack_after r i d y v f live =
        cond_both (q.round (bits y.replies)) _ _ L
        (λ b. record { live = T₂ r i (reader_freed y) [] (λ o. absurd (omega arith)) })
        (λ b. record {
          live = T₂ r i y []
              (λ o k. live_second q s.start j R s.marks s.replicas (t₁ ++ []) r y.replies y.phase (ap in_second v.phase_is ∙ f)
              (carry q s.start j _ _ _ _ m (same []) MessageKind.Back MessageKind.BackAck d.replies y.replies
              (counted q s.start j _ _ m MessageKind.Back MessageKind.BackAck _
              (λ z. omega (arith, ap kind_code e))
              (λ _. rw v.replies_is (joined_same d.replies (index m.sender))))
              b (λ n z. rw v.replies_is (joined_old d.replies (index m.sender) n z))
              (second_live q s.start j R s.marks s.replicas s.messages r d.replies d.phase f
              (live (sym v.operation_is ∙ o) (sym v.halted_is ∙ k)))));
        })

    back_ack_not : counts in_second (reader s (index m.receiver)) m ≡ false
        → AtIt q s.start j R s.marks s.replicas (t₁ ++ []) (index m.receiver) (reader s (index m.receiver))
    back_ack_not n =
        let d = reader s (index m.receiver) in
        let c = ap kind_code e in
        reader_carry q s.start j _ _ _ _ m (same []) R s.marks s.marks (index m.receiver) d
        (λ _ _ _. no_swap q s.start j _ _ m MessageKind.Query MessageKind.Have _ (λ z. omega arith)
        (λ z. omega arith))
        (λ o _ f. counted q s.start j _ _ m MessageKind.Back MessageKind.BackAck _ (λ z. omega arith)
        (λ i. counts_not in_second d m n (o ∙ sym i) f))
        (low_kind (omega arith) s.replicas [] (λ c k. k) (index m.receiver))
        (x.reader_live (index m.receiver))

    pub back_ack_lives : L (on_back_ack q rest m)
    unfolding on_back_ack
    back_ack_lives =
        let r = index m.receiver in
        let d = reader s r in
        cond_both (counts in_second d m) _ _ L
        (λ z. back_ack_after r refl d (confirmed d (index m.sender))
        (hearing_by d (index m.sender) (best d) d.holders) (counts_parts in_second d m z).phase_is
        (x.reader_live r))
        (λ z. unturned p.to_owner (λ z. omega (arith, ap kind_code e)) (λ z. omega (arith, ap kind_code e))
        (λ z. omega (arith, ap kind_code e)) (λ z. omega (arith, ap kind_code e))
        (λ z. omega (arith, ap kind_code e)) (back_ack_not z))
