-- An operation that nothing holds up has finished.
use Rattle.std.proofs.Common.{◌≡◌, ℕ, ◌<◌, ◌≤◌, true, false, not, ltb, sym, ap, ◌∙◌, subst, inl, inr, arith}
use Rattle.std.proofs.lemmas.Bool.{cases_lt, both_ways, not-true, and_parts}
use Rattle.quorum.specs.Sets.{Rule, bits}
use Rattle.quorum.specs.Laws.{Lawful}
use Rattle.model.specs.declared.parties.Party.{Party}
use Rattle.model.specs.declared.reader.Phase.{Phase}
use Rattle.model.specs.declared.messages.MessageKind.{MessageKind}
use Rattle.model.specs.declared.messages.Message.{Message}
use Rattle.model.specs.State.{State, halted}
use Rattle.model.specs.History.{History}
use Rattle.model.specs.Claims.{In, Finished, Undropped, Unawaited, working, Finishing}
use Rattle.model.proofs.Lists.{all_in}
use Rattle.model.proofs.World.{World}
use Rattle.model.proofs.Good.{current, Says, shown, Good}
use Rattle.model.proofs.Chains.{mark_at, Noted, Awake, To, WaitsFrom, Exchange, RelayLive, ReaderLive}
use Rattle.model.proofs.Lives.{LiveIn}
use Rattle.model.proofs.Tellings.{starts_at}

module _ {F : Type 0} (q : Rule) (R : ℕ) (law : Lawful q) (start : F) (w : World F) (s : State F) (h : History F)
    (g : Good q R start w s h) (j : ℕ) (x : LiveIn q R j s)
    (enough : q.round (working q s) ≡ true) (quiet : Unawaited s j) where
  awake : (c : ℕ) → working q s c ≡ true → Awake s.start s.replicas c
  awake c e = not-true _ (and_parts (ltb c q.size) (not (halted s (Party.Replica c))) e).1

  -- A message to a working replica would still be awaited, and so would one to a working owner.

  no_request : (k : MessageKind) (c : ℕ) → Awake s.start s.replicas c → (y : Message F) → In y s.messages
      → To y k j c → ⊥
  no_request k c a y i t =
      both_ways _ a (subst (λ p. halted s p ≡ true) t.receiver_is (quiet y i t.operation_is))

  says_of : (k : MessageKind) (y : Message F) → In y s.messages → y.kind ≡ k → Says q R w k y
  says_of k y i e =
      subst (λ k. Says q R w k y) e (all_in (λ m. Says q R w m.kind m) s.messages y g.messages i)

  no_answer : halted s (w.ops j).owner ≡ false → (y : Message F) → In y s.messages → y.operation ≡ j
      → y.receiver ≡ (w.ops y.operation).owner → ⊥
  no_answer works y i o t =
      both_ways _ works (subst (λ p. halted s p ≡ true) (t ∙ ap (λ n. (w.ops n).owner) o) (quiet y i o))

  -- An exchange that nothing holds up is over.
  exchange_over : (a b : MessageKind) (got : ℕ) → Exchange q s.start j s.replicas s.messages a b got
      → ((c : ℕ) → WaitsFrom s.messages b j c → ⊥) → ⊥
  exchange_over a b got e none =
      both_ways (q.round (bits got)) e.unfinished
      (law.round_more (working q s) (bits got)
      (λ k l i. elim (e.due k l (awake k i)) [
        | inr y ↦ y
        | inl y ↦ elim y [
          | inl z ↦ absurd (no_request a k (awake k i) z.what z.there z.is)
          | inr z ↦ absurd (none k z)
        ]
      ]) enough)

  module _ (works : halted s (w.ops j).owner ≡ false) where
    write_over : Exchange q s.start j s.replicas s.messages MessageKind.Put MessageKind.PutAck s.writer.acknowledgers
        → ⊥
    write_over e =
        exchange_over MessageKind.Put MessageKind.PutAck _ e
        (λ c z. no_answer works z.what z.there z.is.operation_is
        (says_of MessageKind.PutAck z.what z.there z.is.kind_is).to_owner)

    relay_over : (r got : ℕ) → RelayLive q s.start j R s.marks s.replicas s.messages r got → ⊥
    relay_over r got y =
        both_ways (q.round (bits got)) y.unfinished
        (law.round_more (working q s) (bits got) (λ k l i. heard k l (awake k i)) enough)
      where
        noted : (c i : ℕ) → c < q.size → i < q.size → Awake s.start s.replicas c
            → Awake s.start s.replicas i → Noted R s.marks j r c i
        noted c i l k a b = elim (y.asked c l a) [
          | inl z ↦ absurd (no_request MessageKind.Fan c a z.what z.there z.is)
          | inr f ↦ elim (f i k b) [
            | inr z ↦ z
            | inl z ↦ absurd (no_request MessageKind.Relay i b z.what z.there z.is)
          ]
        ]

        heard : (i : ℕ) → i < q.size → Awake s.start s.replicas i → bits got i ≡ true
        heard i l a =
            let o = (noted i i l l a a).operation_is in
            let full = law.round_more (working q s) (bits (mark_at R s.marks i r).relayers)
            (λ k n v. (noted k i n l (awake k v) a).has) enough in
            elim (y.answers i o (y.rounds i o full) a) [
              | inr z ↦ z
              | inl z ↦ absurd (no_answer works z.what z.there z.is.operation_is (says_of MessageKind.Reply z.what z.there z.is.kind_is).to_owner)
            ]

    read_over : (r : ℕ) (p : Phase) (got : ℕ)
        → ReaderLive q s.start j R s.marks s.replicas s.messages r p got → ⊥
    read_over r Phase.Idle got y = y
    read_over r Phase.First got y =
        exchange_over MessageKind.Query MessageKind.Have got y
        (λ c z. no_answer works z.what z.there z.is.operation_is
        (says_of MessageKind.Have z.what z.there z.is.kind_is).to_owner)
    read_over r Phase.Second got y =
        exchange_over MessageKind.Back MessageKind.BackAck got y
        (λ c z. no_answer works z.what z.there z.is.operation_is
        (says_of MessageKind.BackAck z.what z.there z.is.kind_is).to_owner)
    read_over r Phase.Relay got y = relay_over r got y

  -- The owner is not at operation j any more.
  not_at_it : (p : Party) → (w.ops j).owner ≡ p → halted s p ≡ false → 1 ≤ (w.ops j).stage → (w.ops j).stage ≤ 2
      → ⊥
  not_at_it Party.Writer e k b l =
      write_over (subst (λ p. halted s p ≡ false) (sym e) k)
      (x.writer_live
      (subst (λ p. current s.start s.writer.operation s.readers p ≡ j) e ((g.at_work j).busy b l)) k)
  not_at_it (Party.Reader r) e k b l =
      read_over (subst (λ p. halted s p ≡ false) (sym e) k) r _ _
      (x.reader_live r
      (subst (λ p. current s.start s.writer.operation s.readers p ≡ j) e ((g.at_work j).busy b l)) k)
  not_at_it (Party.Replica c) e k b l =
      let z = subst (λ p. current s.start s.writer.operation s.readers p ≡ j) e ((g.at_work j).busy b l) in
      omega (arith, z, (g.core.op j).named b)

  finished : (p : Party) → (w.ops j).owner ≡ p → halted s p ≡ false → 1 ≤ (w.ops j).stage → Finished h j
  finished p e k b = elim (cases_lt (w.ops j).stage 3) [
    | inr l ↦ ((w.ops j).ended, shown w j, g.ended j l)
    | inl l ↦ absurd (not_at_it p e k b (omega arith))
  ]

-- What each operation of which nothing was dropped waits for brings it to its end.
pub finishes : {F : Type 0} (q : Rule) (R : ℕ) (law : Lawful q) (start : F) (w : World F) (s : State F) (h : History F) (g : Good q R start w s h)
    → ((j : ℕ) → 0 < j → Undropped h j → LiveIn q R j s) → Finishing q h s
finishes q R law start w s h g lives m n p kind st works enough undropped quiet =
    let b = starts_at q R law start w s h g m n p kind st in
    let pos = (g.core.op n).named b.stage_is in
    finished q R law start w s h g n (lives n pos undropped) enough quiet p b.owner_is works b.stage_is
