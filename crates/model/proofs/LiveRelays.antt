-- The deliveries of relayed reads keep what an operation waits for.
use Rattle.std.proofs.Common.{◌≡◌, ℕ, ◌+◌, ◌*◌, ◌/◌, ◌%◌, ◌<◌, ◌≤◌, true, false, not, ◌&&◌, ltb, ◌⊎◌, List, [], ◌∷◌, ◌++◌, length, get_or, set, sym, refl, ap, ◌∙◌, subst, inl, inr, arith, length-set}
use Rattle.std.proofs.lemmas.Bool.{cond_both, cases_lt, both_ways, ltb-true, ltb-false, not-false, and_cases}
use Rattle.quorum.specs.Sets.{Rule, bits}
use Rattle.quorum.specs.Laws.{Lawful}
use Rattle.model.specs.declared.parties.Party.{Party}
use Rattle.model.specs.declared.messages.MessageKind.{MessageKind}
use Rattle.model.specs.declared.replica.Replica.{Replica}
use Rattle.model.specs.declared.reader.Reader.{Reader}
use Rattle.model.specs.declared.marks.RelayMark.{RelayMark}
use Rattle.model.specs.declared.messages.Message.{Message}
use Rattle.model.specs.State.{State, Held, index, new_reader, new_mark, reader, line, mark_place, held, with_messages, with_held}
use Rattle.model.specs.Records.{took, lowered, reader_freed, marked, mark_replied}
use Rattle.model.specs.Deliveries.{Effect, carried, answer, in_relay, counts, after_last, on_reply, on_relay_at, on_relay}
use Rattle.model.specs.History.{History}
use Rattle.model.specs.Claims.{In}
use Rattle.model.proofs.Sets.{joined_same, joined_old}
use Rattle.std.proofs.lemmas.List.{get_or_past, get_or-set_same}
use Rattle.model.proofs.Lists.{each_set_all, in_right}
use Rattle.model.proofs.World.{World}
use Rattle.model.proofs.Good.{current, Relayed, Settling, Says, Good}
use Rattle.model.proofs.Waits.{counts_parts, Hearing, hearing_lowered}
use Rattle.model.proofs.Chains.{kind_code, mark_at, Noted, Awake, To, WaitsFrom, RelayLive, AtIt, Live, no_swap, RelaySwaps, relay_carry, reader_carry}
use Rattle.model.proofs.Lives.{LiveIn, Lives, counts_not, live_relay, relay_live, same, owner_relay, frame, awake_after, turned, unturned}
use Rattle.std.proofs.lemmas.Nat.{div-mul-add, mod-mul-add, mul-add-lt}

-- A mark after one more relayed figure.
record Marked (k : RelayMark) (n c : ℕ) (y : RelayMark) : Type 0 where
  operation_is : y.operation ≡ n
  has : bits y.relayers c ≡ true
  keeps : k.operation ≡ n → (i : ℕ) → bits k.relayers i ≡ true → bits y.relayers i ≡ true
  was_replied : y.replied ≡ true → (k.operation ≡ n) × (k.replied ≡ true)

marks : (k : RelayMark) (n c : ℕ) → k.operation ≤ n → Marked k n c (marked k n c)
unfolding marked
marks k n c l =
    cond_both (ltb k.operation n) _ _ (Marked k n c)
    (λ e. record {
      operation_is = refl;
      has = joined_same 0 c;
      keeps = λ d. absurd (omega (arith, d, ltb-true k.operation n e));
      was_replied = λ r. absurd (both_ways false refl r);
    })
    (λ e. let d : k.operation ≡ n = omega (arith, ltb-false k.operation n e) in
    record {
      operation_is = d;
      has = joined_same k.relayers c;
      keeps = λ _. joined_old k.relayers c;
      was_replied = λ r. (d, r);
    })

module _ {F : Type 0} (q : Rule) (R : ℕ) (law : Lawful q) (start : F) (w : World F) (s : State F) (h : History F)
    (g : Good q R start w s h) (j : ℕ) (pos : 0 < j) (x : LiveIn q R j s)
    (m : Message F) (says : Says q R w m.kind m) (t₁ : List (Message F))
    (out : (y : Message F) → In y s.messages → In y t₁ ⊎ (y ≡ m)) where
  abbrev L : Effect F → Type 0
  L = Lives q R j

  abbrev rest : State F
  rest = with_messages s t₁

  -- A message of a relayed read is of no other exchange.
  relay_frame : 6 ≤ kind_code m.kind
      → (l : List (Replica F)) (u : List (Message F)) (a : (c : ℕ) → Awake s.start l c → Awake s.start s.replicas c) (ks : List RelayMark)
      → length ks ≡ length s.marks
      → ((r : ℕ) → (reader s r).operation ≡ j → (reader s r).halted ≡ false → in_relay (reader s r).phase ≡ true → RelayLive q s.start j R s.marks s.replicas s.messages r (reader s r).replies
      → RelaySwaps q s.start j l (t₁ ++ u) m R s.marks ks r (reader s r).replies)
      → Live q s.start j R l (t₁ ++ u) s.readers ks s.writer
  relay_frame n l u a ks sk f = frame q R law start w s h g j pos x m says t₁ out l u a
      (λ _ _. no_swap q s.start j _ _ m MessageKind.Put MessageKind.PutAck _ (λ z. omega arith) (λ z. omega arith))
      (λ r _ _ _. no_swap q s.start j _ _ m MessageKind.Query MessageKind.Have _ (λ z. omega arith)
      (λ z. omega arith))
      (λ r _ _ _. no_swap q s.start j _ _ m MessageKind.Back MessageKind.BackAck _ (λ z. omega arith)
      (λ z. omega arith))
      ks sk f

  -- Replica c takes what is relayed for reader r₀.
  module _ (e : m.kind ≡ MessageKind.Relay) (p : Relayed q R w m) (c r₀ : ℕ) (c_is : index m.receiver ≡ c)
      (r_is : index (w.ops m.operation).owner ≡ r₀) where
    code_is : kind_code m.kind ≡ 7
    code_is = ap kind_code e

    r_low : r₀ < R
    r_low = omega (arith, p.owner_low, r_is)

    c_low : c < q.size
    c_low = omega (arith, p.to_low, c_is)

    abbrev at : ℕ
    at = mark_place s c r₀

    abbrev old_mark : RelayMark
    old_mark = get_or s.marks at new_mark

    at_is : at ≡ c * R + r₀
    at_is = ap (λ n. c * n + r₀) g.readers_are

    inside : at < length s.marks
    inside = omega (arith, at_is, x.sized_marks, mul-add-lt c R r₀ q.size c_low r_low)

    -- The one mark that changes, seen from replica i and reader r.
    which : (r i : ℕ) → r < R → at ≡ i * R + r → (c ≡ i) × (r₀ ≡ r)
    which r i l a =
        let b = sym at_is ∙ a in (
          sym (div-mul-add c R r₀ r_low) ∙ ap (λ n. n / R) b ∙ div-mul-add i R r l,
          sym (mod-mul-add c R r₀ r_low) ∙ ap (λ n. n % R) b ∙ mod-mul-add i R r l,
        )

    reader_low : (r : ℕ) → (reader s r).operation ≡ j → r < R
    reader_low r o = elim (cases_lt r R) [
      | inl l ↦ l
      | inr l ↦ let z =
          ap (λ y. y.operation) (get_or_past s.readers r (new_reader s.start) (omega (arith, g.readers_are))) in
          absurd (omega arith)
    ]

    -- The operation is no newer than that of its reader.
    no_newer : (r : ℕ) → r₀ ≡ r → (reader s r).operation ≡ j → m.operation ≤ j
    no_newer r d o =
        let own : (w.ops m.operation).owner ≡ Party.Reader r = p.owner_reads ∙ ap (λ n. Party.Reader n)
        (r_is ∙ d) in
        let cu : current s.start s.writer.operation s.readers (w.ops m.operation).owner ≡ j = ap
        (current s.start s.writer.operation s.readers) own ∙ o in
        omega (arith, cu, (g.at_work m.operation).latest p.born (omega arith))

    -- A message of operation j is for its reader.
    for_reader : (r : ℕ) → (w.ops j).owner ≡ Party.Reader r → m.operation ≡ j → r₀ ≡ r
    for_reader r o i = sym r_is ∙ ap (λ n. index (w.ops n).owner) i ∙ ap index o

    to_c : {k : MessageKind} (i : ℕ) → To m k j i → c ≡ i
    to_c i t = sym c_is ∙ ap index t.receiver_is

    -- What holds of the old marks and of the new one holds of the new marks.
    seen : (P : ℕ → RelayMark → Type 0) (k : RelayMark) (r : ℕ) → r < R → (r₀ ≡ r → P c k)
        → ((i : ℕ) → P i (mark_at R s.marks i r)) → (i : ℕ) → P i (mark_at R (set s.marks at k) i r)
    seen P k r l n o i =
        each_set_all (λ z y. z ≡ i * R + r → P i y) s.marks at k new_mark
        (λ a. let v = which r i l a in subst (λ z. P z k) v.0 (n v.1))
        (λ z a. subst (λ z. P i (get_or s.marks z new_mark)) (sym a) (o i)) (i * R + r) refl

    module _ (k : RelayMark) (le : old_mark.operation ≤ m.operation)
        (mk : Marked old_mark m.operation (index m.sender) k)
        (l : List (Replica F)) (u : List (Message F)) (k' : RelayMark) (same_op : k'.operation ≡ k.operation)
        (same_set : k'.relayers ≡ k.relayers)
        (rounds' : q.round (bits k'.relayers) ≡ true → k'.replied ≡ true)
        (replied' : k'.replied ≡ true → (k.replied ≡ true) ⊎ WaitsFrom (t₁ ++ u) MessageKind.Reply m.operation c)
      where
        module _ (r : ℕ) (o : (reader s r).operation ≡ j) (own : (w.ops j).owner ≡ Party.Reader r) (got : ℕ)
            (y : RelayLive q s.start j R s.marks s.replicas s.messages r got) where
          old_at : r₀ ≡ r → old_mark ≡ mark_at R s.marks c r
          old_at d = ap (λ n. get_or s.marks n new_mark) (at_is ∙ ap (λ n. c * R + n) d)

          is_new : r₀ ≡ r → mark_at R (set s.marks at k') c r ≡ k'
          is_new d =
              ap (λ n. get_or (set s.marks at k') n new_mark) (sym (at_is ∙ ap (λ n. c * R + n) d)) ∙ get_or-set_same
              s.marks at k' new_mark inside

          new_noted : (n i : ℕ) → To m MessageKind.Relay j i → index m.sender ≡ n
              → Noted R (set s.marks at k') j r n i
          new_noted n i t f =
              let z = is_new (for_reader r own t.operation_is) in
              subst (λ i. Noted R (set s.marks at k') j r n i) (to_c i t)
              (record {
                operation_is = ap (λ y. y.operation) z ∙ same_op ∙ mk.operation_is ∙ t.operation_is;
                has =
                    subst (λ y. bits y.relayers n ≡ true) (sym z)
                    (subst (λ y. bits y n ≡ true) (sym same_set)
                    (subst (λ y. bits k.relayers y ≡ true) f mk.has));
              })

          kept_noted : (n i : ℕ) → Noted R s.marks j r n i → Noted R (set s.marks at k') j r n i
          kept_noted n i v =
              let z =
              seen
              (λ i y. (mark_at R s.marks i r).operation ≡ j → bits (mark_at R s.marks i r).relayers n ≡ true
              → (y.operation ≡ j) × (bits y.relayers n ≡ true))
              k' r (reader_low r o)
              (λ d a b.
              let oa : old_mark.operation ≡ j = ap (λ y. y.operation) (old_at d) ∙ a in
              let mo : m.operation ≡ j = omega (arith, no_newer r d o) in (
                same_op ∙ mk.operation_is ∙ mo,
                subst (λ y. bits y n ≡ true) (sym same_set)
                    (mk.keeps (oa ∙ sym mo) n (subst (λ y. bits y.relayers n ≡ true) (sym (old_at d)) b)),
              ))
              (λ i a b. (a, b)) i v.operation_is v.has in
              record { operation_is = z.0; has = z.1 }

          turn : RelaySwaps q s.start j l (t₁ ++ u) m R s.marks (set s.marks at k') r got
          turn = record {
            fan = λ n t. absurd (omega (arith, ap kind_code t.kind_is, code_is));
            relay = λ n i t f _. inr (new_noted n i t f);
            reply = λ i t. absurd (omega (arith, ap kind_code t.kind_is, code_is));
            noted = kept_noted;
            rounds =
                seen (λ i z. z.operation ≡ j → q.round (bits z.relayers) ≡ true → z.replied ≡ true) k' r
                (reader_low r o) (λ _ _. rounds') y.rounds;
            replied =
                seen
                (λ i z. z.operation ≡ j → z.replied ≡ true → Awake s.start l i →
                (((mark_at R s.marks i r).operation ≡ j) × ((mark_at R s.marks i r).replied ≡ true)) ⊎
                WaitsFrom (t₁ ++ u) MessageKind.Reply j i)
                k' r (reader_low r o)
                (λ d a b _.
                let mo : m.operation ≡ j = sym mk.operation_is ∙ sym same_op ∙ a in
                elim (replied' b) [
                  | inl v ↦ let z =
                      mk.was_replied v in inl (
                        ap (λ y. y.operation) (sym (old_at d)) ∙ z.0 ∙ mo,
                        ap (λ y. y.replied) (sym (old_at d)) ∙ z.1,
                      )
                  | inr v ↦ inr (record { what = v.what; there = v.there; is = record { kind_is = v.is.kind_is; operation_is = v.is.operation_is ∙ mo; sender_is = v.is.sender_is } })
                ])
                (λ i a b _. inl (a, b));
            low =
                seen (λ i z. z.operation ≤ j) k' r (reader_low r o)
                (λ d. omega (arith, same_op, mk.operation_is, no_newer r d o)) y.low;
          }

    relay_at : (y : Held F) → L (on_relay_at q (with_held rest c y) m c y r₀ old_mark)
    relay_at y =
        let aw = awake_after q R law start w s h g j pos x m says t₁ out c y in
        cond_both (ltb m.operation old_mark.operation) _ _ L
        (λ b. record {
          live = relay_frame (omega (arith, code_is)) _ [] aw s.marks refl
              (λ r o k f v. record {
                fan = λ n t. absurd (omega (arith, ap kind_code t.kind_is, code_is));
                relay = λ n i t _ _.
                    let a : at ≡ i * R + r = at_is ∙ ap (λ n. n * R + r₀) (to_c i t) ∙ ap (λ n. i * R + n)
                    (for_reader r (owner_relay q R law start w s h g j pos x m says t₁ out r o f) t.operation_is)
                    in
                    absurd
                    (omega
                    (arith, ltb-true m.operation old_mark.operation b, v.low i, ap (λ z. (get_or s.marks z new_mark).operation) a, t.operation_is));
                reply = λ i t. absurd (omega (arith, ap kind_code t.kind_is, code_is));
                noted = λ n i z. z;
                rounds = v.rounds;
                replied = λ i a b _. inl (a, b);
                low = v.low;
              });
        })
        (λ b.
        let le = ltb-false m.operation old_mark.operation b in
        let nk = marked old_mark m.operation (index m.sender) in
        let mk = marks old_mark m.operation (index m.sender) le in
        cond_both (q.round (bits nk.relayers) && not nk.replied) _ _ L
        (λ z.
        let u = answer (with_held rest c y) m MessageKind.Reply y ∷ [] in
        record {
          live = relay_frame (omega (arith, code_is)) _ u aw _ (length-set s.marks at _)
              (λ r o k f v. turn nk le mk _ u (mark_replied nk) refl refl (λ _. refl)
              (λ _. inr
              (record { what = _; there = in_right t₁ u _ (inl refl); is = record { kind_is = refl; operation_is = refl; sender_is = c_is } }))
              r o (owner_relay q R law start w s h g j pos x m says t₁ out r o f) _ v);
        })
        (λ z. record {
          live = relay_frame (omega (arith, code_is)) _ [] aw _ (length-set s.marks at _)
              (λ r o k f v. turn nk le mk _ [] nk refl refl
              (λ n. elim (and_cases (q.round (bits nk.relayers)) (not nk.replied) z)
              [ inl a ↦ absurd (both_ways _ a n) | inr a ↦ not-false _ a ])
              (λ n. inl n)
              r o (owner_relay q R law start w s h g j pos x m says t₁ out r o f) _ v);
        }))

  pub relay_lives : m.kind ≡ MessageKind.Relay → Relayed q R w m → L (on_relay q rest m)
  unfolding on_relay
  relay_lives e p =
      relay_at e p (index m.receiver) (index (line s m.operation).owner) refl
      (sym (ap index ((g.lines m.operation).owner_is p.born))) (took (held s (index m.receiver)) (carried m))

  module _ (e : m.kind ≡ MessageKind.Reply) (p : Settling q w m) where
    abbrev T : (r : ℕ) → r ≡ index m.receiver → (d : Reader F) (u : List (Message F))
        → AtIt q s.start j R s.marks s.replicas (t₁ ++ u) r d
        → Live q s.start j R s.replicas (t₁ ++ u) (set s.readers r d) s.marks s.writer
    T =
        turned q R law start w s h g j pos x m says t₁ out p.to_owner (λ z. omega (arith, ap kind_code e))
        (λ z. omega (arith, ap kind_code e)) (λ z. omega (arith, ap kind_code e)) (λ z. omega (arith, ap kind_code e))
        (λ z. omega (arith, ap kind_code e))

    heard_of : (r got got' : ℕ) → (m.operation ≡ j → bits got' (index m.sender) ≡ true)
        → RelayLive q s.start j R s.marks s.replicas s.messages r got
        → RelaySwaps q s.start j s.replicas (t₁ ++ []) m R s.marks s.marks r got'
    heard_of r got got' n y = record {
      fan = λ n t. absurd (omega (arith, ap kind_code t.kind_is, ap kind_code e));
      relay = λ n i t _ _. absurd (omega (arith, ap kind_code t.kind_is, ap kind_code e));
      reply = λ i t. inr (subst (λ z. bits got' z ≡ true) t.sender_is (n t.operation_is));
      noted = λ n i z. z;
      rounds = y.rounds;
      replied = λ i a b _. inl (a, b);
      low = y.low;
    }

    reply_after : (r : ℕ) → r ≡ index m.receiver → (d y : Reader F) → Hearing d (index m.sender) y
        → in_relay d.phase ≡ true → AtIt q s.start j R s.marks s.replicas s.messages r d
        → L (after_last q rest r y 3)
    reply_after r i d y v f live =
        cond_both (q.round (bits y.replies)) _ _ L
        (λ b. record { live = T r i (reader_freed y) [] (λ o. absurd (omega arith)) })
        (λ b. record {
          live = T r i y []
              (λ o k.
              let z = relay_live q s.start j R s.marks s.replicas s.messages r d.replies d.phase f
              (live (sym v.operation_is ∙ o) (sym v.halted_is ∙ k)) in
              live_relay q s.start j R s.marks s.replicas (t₁ ++ []) r y.replies y.phase
              (ap in_relay v.phase_is ∙ f)
              (relay_carry q s.start j _ _ _ _ m (same q R law start w s h g j pos x m says t₁ out []) R s.marks s.marks r d.replies y.replies
              (heard_of r d.replies y.replies
              (λ _. rw v.replies_is (joined_same d.replies (index m.sender))) z)
              b (λ n a. rw v.replies_is (joined_old d.replies (index m.sender) n a)) z));
        })

    reply_not : counts in_relay (reader s (index m.receiver)) m ≡ false
        → AtIt q s.start j R s.marks s.replicas (t₁ ++ []) (index m.receiver) (reader s (index m.receiver))
    reply_not n =
        let d = reader s (index m.receiver) in
        let c = ap kind_code e in
        reader_carry q s.start j _ _ _ _ m (same q R law start w s h g j pos x m says t₁ out []) R s.marks
        s.marks (index m.receiver) d
        (λ _ _ _. no_swap q s.start j _ _ m MessageKind.Query MessageKind.Have _ (λ z. omega arith)
        (λ z. omega arith))
        (λ _ _ _. no_swap q s.start j _ _ m MessageKind.Back MessageKind.BackAck _ (λ z. omega arith)
        (λ z. omega arith))
        (λ o _ f y. heard_of (index m.receiver) d.replies d.replies
        (λ i. counts_not in_relay d m n (o ∙ sym i) f) y)
        (x.reader_live (index m.receiver))

    pub reply_lives : L (on_reply q rest m)
    unfolding on_reply
    reply_lives =
        let r = index m.receiver in
        let d = reader s r in
        cond_both (counts in_relay d m) _ _ L
        (λ z. reply_after r refl d (lowered d (index m.sender) (carried m))
        (hearing_lowered d (index m.sender) (carried m)) (counts_parts in_relay d m z).phase_is
        (x.reader_live r))
        (λ z. unturned q R law start w s h g j pos x m says t₁ out p.to_owner (λ z. omega (arith, ap kind_code e))
        (λ z. omega (arith, ap kind_code e)) (λ z. omega (arith, ap kind_code e))
        (λ z. omega (arith, ap kind_code e)) (λ z. omega (arith, ap kind_code e)) (reply_not z))
