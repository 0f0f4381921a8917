-- Relayed reads keep what is known.
use Rattle.std.proofs.Common.{◌≡◌, ℕ, ◌+◌, ◌*◌, ◌/◌, ◌<◌, ◌≤◌, true, false, not, ◌&&◌, ◌||◌, eqb, ltb, ◌⊎◌, List, get_or, set, sym, refl, ap, ◌∙◌, subst, inl, inr, arith}
use Rattle.std.proofs.lemmas.Bool.{cond_both, cases_eq, both_ways, ltb-true, ltb-false, eqb-true, eqb-false, or_parts, or_cases, and_parts}
use Rattle.quorum.specs.Sets.{Rule, bits, joined}
use Rattle.quorum.specs.Laws.{Lawful}
use Rattle.model.specs.declared.reader.Phase.{Phase}
use Rattle.model.specs.declared.messages.MessageKind.{MessageKind}
use Rattle.model.specs.declared.reader.Reader.{Reader}
use Rattle.model.specs.declared.marks.RelayMark.{RelayMark}
use Rattle.model.specs.declared.messages.Message.{Message}
use Rattle.model.specs.Stamps.{rank}
use Rattle.model.specs.State.{State, Held, index, new_mark, reader, line, mark_place, held, with_held}
use Rattle.model.specs.Records.{took, best, lowered, reader_freed, marked, mark_replied}
use Rattle.model.specs.Deliveries.{Effect, carried, answer, in_relay, counts, read_finishing, after_last, on_reply_at, on_reply, on_relay_at, on_relay}
use Rattle.model.specs.History.{History}
use Rattle.model.proofs.Sets.{none, joined_cases}
use Rattle.model.proofs.Lists.{each_set_all}
use Rattle.model.proofs.World.{held_from, not_held, round_some, World}
use Rattle.model.proofs.Moves.{ticked, later_ticked, good_quick}
use Rattle.model.proofs.Good.{Relayed, Settling, Relaying, InPhase, MarkGood, Good, Kept, phase_later}
use Rattle.model.proofs.Steps.{delivery, kept_quiet}
use Rattle.model.proofs.Ends.{read_ends}
use Rattle.model.proofs.Waits.{to_relaying, of_relaying, counts_parts, hearing_lowered}
use Rattle.model.proofs.World as world
use Rattle.model.proofs.Acts.{Takes, takes, there, covers, v₂, took_true, old_marks₂, raises}
use Rattle.model.proofs.Hearing.{waits}
use Rattle.std.proofs.lemmas.Nat.{div-mul-add}

pub record Notes {F : Type 0} (v : World F) (c j : ℕ) (y : RelayMark) : Type 0 where
  pub good : MarkGood v c y
  pub operation_is : y.operation ≡ j

module _ {F : Type 0} (v : World F) (c : ℕ) (k : RelayMark) (j i : ℕ) (x : MarkGood v c k) (le : k.operation ≤ j)
    (born : 1 ≤ (v.ops j).stage) (low : j ≤ v.count) (fresh : (v.ops j).snap i ≤ v.at c) where
  notes : Notes v c j (marked k j i)
  unfolding marked
  notes =
      cond_both (ltb k.operation j) _ _ (Notes v c j)
      (λ e. record {
        operation_is = refl;
        good = record {
          low = low;
          born = λ _ _. born;
          fresh = λ n m. elim (joined_cases 0 i n m) [
            | inl d ↦ rw d fresh
            | inr o ↦ absurd (both_ways (bits 0 n) (none n) o)
          ];
        };
      })
      (λ e.
      let d : k.operation ≡ j = omega (arith, ltb-false k.operation j e) in
      record {
        operation_is = d;
        good = record {
          low = omega arith;
          born = λ _ _. rw d born;
          fresh = λ n m. elim (joined_cases k.relayers i n m) [ inl z ↦ rw (z, d) fresh | inr o ↦ x.fresh n o ];
        };
      })

module _ {F : Type 0} (q : Rule) (R : ℕ) (law : Lawful q) (start : F) (w : World F) (s : State F) (h : History F)
    (g : Good q R start w s h) (place : ℕ) (taken : List (Message F)) where
  abbrev K : Effect F → Type 0
  K = Kept q R start h (delivery place taken)

  -- Replica c takes what is relayed for reader r, and then holds y.
  module _ (m : Message F) (x : Relayed q R w m) (c : ℕ) (low : c < q.size) (y : Held F)
      (tk : Takes w (held s c) (carried m) y) (r : ℕ) (r_low : r < R)
      (owner_is : (line s m.operation).owner ≡ (w.ops m.operation).owner)
      (from_c : index m.receiver ≡ c) where
    abbrev v : World F
    v = v₂ q R law start w s h g c low (carried m) y tk

    abbrev here : ℕ
    here = mark_place s c r

    abbrev old : RelayMark
    old = get_or s.marks here new_mark

    place_is : here / R ≡ c
    place_is = ap (λ n. (c * n + r) / R) g.readers_are ∙ div-mul-add c R r r_low

    old_marks : (i : ℕ) → MarkGood v (i / R) (get_or s.marks i new_mark)
    old_marks = old_marks₂ q R law start w s h g c low (carried m) y tk

    marks_with : (k : RelayMark) → MarkGood v c k → (i : ℕ)
        → MarkGood v (i / R) (get_or (set s.marks here k) i new_mark)
    marks_with k z = each_set_all (λ i z. MarkGood v (i / R) z) s.marks here k new_mark (rw place_is z) old_marks

    abbrev new : RelayMark
    new = marked old m.operation (index m.sender)

    noted : old.operation ≤ m.operation → Notes v c m.operation new
    noted l =
        notes v c old m.operation (index m.sender) (rw place_is at (old_marks here)) l x.born
        ((g.core.op m.operation).counted x.born)
        (omega (arith, x.fresh, covers q R law start w s h g c low (carried m) y tk))

    -- Enough has been relayed for no higher stamp to have been held.
    replies : (n : Notes v c m.operation new) → q.round (bits new.relayers) ≡ true
        → Settling q v (answer (with_held s c y) m MessageKind.Reply y)
    replies n b = record {
      born = x.born;
      high = λ t l. not_held q law (bits new.relayers) (w.ops m.operation).snap t b
          (λ k z. omega
          (arith, there q R law start w s h g c low (carried m) y tk, n.good.fresh k z, ap (λ i. (w.ops i).snap k) n.operation_is));
      grown = rw from_c (omega (arith, there q R law start w s h g c low (carried m) y tk));
      true_figure = took_true q R law start w s h g c low (carried m) y tk;
      to_owner = owner_is;
    }

    relayed : K (on_relay_at q (with_held s c y) m c y r old)
    relayed =
        cond_both (ltb m.operation old.operation) _ _ K
        (λ _. record {
          world = v;
          good =
              raises q R law start w s h g c low (carried m) y tk s.marks _ old_marks
              (record { answers = tt; sent_says = tt });
        })
        (λ e.
        let n = noted (ltb-false m.operation old.operation e) in
        cond_both (q.round (bits new.relayers) && not new.replied) _ _ K
        (λ b. record {
          world = v;
          good = raises q R law start w s h g c low (carried m) y tk _ _
              (marks_with (mark_replied new)
              (record { low = n.good.low; born = n.good.born; fresh = n.good.fresh }))
              (record {
                answers = tt;
                sent_says = (replies n (and_parts (q.round (bits new.relayers)) _ b).0, tt);
              });
        })
        (λ _. record {
          world = v;
          good =
              raises q R law start w s h g c low (carried m) y tk _ _ (marks_with new n.good)
              (record { answers = tt; sent_says = tt });
        }))

  pub kept_relay : (m : Message F) → Relayed q R w m → K (on_relay q s m)
  unfolding on_relay
  kept_relay m x =
      let c = index m.receiver in
      let o = (g.lines m.operation).owner_is x.born in
      relayed m x c x.to_low (took (held s c) (carried m))
      (takes w (held s c) (carried m) (g.figures c) x.true_figure) (index (line s m.operation).owner)
      (subst (λ p. index p < R) (sym o) x.owner_low) o refl

  -- The reader.
  module _ (r : ℕ) (d : Reader F) (x : Relaying q w r d) (m : Message F) (y : Settling q w m)
      (same_op : d.operation ≡ m.operation) where
    high_new : (t : ℕ) → rank m.stamp < t → world.held q (w.ops d.operation).snap t ≡ false
    high_new t l = rw same_op (y.high t l)

    placed_more : (b : ℕ) → (d.replies ≡ 0 → ⊥) ⊎ (d.replies ≡ 0) → b ≤ rank m.stamp
        → ((d.replies ≡ 0 → ⊥) → b ≤ rank d.best_stamp) → (k : ℕ)
        → bits (joined d.replies (index m.sender)) k ≡ true → b ≤ w.at k
    placed_more b z l n k i = elim (joined_cases d.replies (index m.sender) k i) [
      | inl a ↦ rw a (omega (arith, y.grown))
      | inr o ↦ elim z [
        | inl p ↦ omega (arith, n p, x.placed k o)
        | inr p ↦ absurd (both_ways (bits 0 k) (none k) (rw p at o))
      ]
    ]

    lowers : Relaying q w r (lowered d (index m.sender) (carried m))
    unfolding lowered
    lowers =
        cond_both (eqb d.replies 0 || ltb (rank m.stamp) (rank d.best_stamp)) _ _ (Relaying q w r)
        (λ c. record {
          stage_is = x.stage_is;
          owner_is = x.owner_is;
          reads = x.reads;
          true_figure = y.true_figure;
          high = λ _. high_new;
          placed = elim (or_cases (eqb d.replies 0) (ltb (rank m.stamp) (rank d.best_stamp)) c) [
            | inl z ↦ placed_more (rank m.stamp) (inr (eqb-true d.replies 0 z)) (omega arith) (λ n. absurd (n (eqb-true d.replies 0 z)))
            | inr l ↦ placed_more (rank m.stamp) (elim (cases_eq d.replies 0) [ inl z ↦ inr z | inr z ↦ inl z ]) (omega arith) (λ n. omega (arith, ltb-true (rank m.stamp) (rank d.best_stamp) l))
          ];
        })
        (λ c.
        let p = or_parts (eqb d.replies 0) (ltb (rank m.stamp) (rank d.best_stamp)) c in
        let z = eqb-false d.replies 0 p.0 in
        record {
          stage_is = x.stage_is;
          owner_is = x.owner_is;
          reads = x.reads;
          true_figure = x.true_figure;
          high = λ _. x.high z;
          placed =
              placed_more (rank d.best_stamp) (inl z)
              (ltb-false (rank m.stamp) (rank d.best_stamp) p.1) (λ _. omega arith);
        })

  module _ (r : ℕ) (d : Reader F) (x : Relaying q w r d) (e : in_relay d.phase ≡ true)
      (same_op : d.operation ≡ (reader s r).operation) where
    relay_ends : q.round (bits d.replies) ≡ true → K (read_finishing s r d 3)
    relay_ends b =
        let st = x.stage_is in
        let i = round_some q law (bits d.replies) b in
        let n : d.replies ≡ 0 → ⊥ = λ z. both_ways (bits 0 i.0) (none i.0)
        (subst (λ a. bits a i.0 ≡ true) z i.1) in
        let hold = held_from q law (bits d.replies) w.at (rank d.best_stamp) (law.holds _ b) x.placed
        in
        let new = good_quick q law w g.core d.operation (rank d.best_stamp) st x.reads
        x.true_figure.written (x.high n) hold in
        read_ends q R law start w s h g d.operation r x.owner_is x.reads (reader_freed d) refl (rank d.best_stamp)
        (omega arith) (omega arith) (λ l. absurd (omega arith)) new (best d) refl x.true_figure.is refl place
        taken 3

    after_low : K (after_last q s r d 3)
    after_low =
        cond_both (q.round (bits d.replies)) _ _ K relay_ends
        (λ _. waits q R law start w s h g place taken r d same_op
        (of_relaying q (ticked w) r d.phase d e (phase_later q R start w (ticked w) (later_ticked q law w) r (λ i b c. refl) Phase.Relay d x)))

  reply_at : (m : Message F) (r : ℕ) (d : Reader F) → d.operation ≡ (reader s r).operation
      → InPhase q w r d.phase d → Settling q w m → K (on_reply_at q s m r d)
  reply_at m r d same_op x p =
      cond_both (counts in_relay d m) _ _ K
      (λ e.
      let c = counts_parts in_relay d m e in
      let y = hearing_lowered d (index m.sender) (carried m) in
      after_low r (lowered d (index m.sender) (carried m))
      (lowers r d (to_relaying q w r d.phase d c.phase_is x) m p c.operation_is)
      (ap in_relay y.phase_is ∙ c.phase_is) (y.operation_is ∙ same_op))
      (λ _. kept_quiet q R law start w s h g place taken)

  pub kept_reply : (m : Message F) → Settling q w m → K (on_reply q s m)
  unfolding on_reply
  kept_reply m p =
      reply_at m (index m.receiver) (reader s (index m.receiver)) refl (g.readers (index m.receiver)) p
