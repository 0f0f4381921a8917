-- A writer that hears an acknowledgement, and a reader that hears what a replica has, keep what is known.
use Rattle.std.proofs.Common.{◌≡◌, ℕ, ◌<◌, ◌≤◌, Bool, true, false, not, ◌&&◌, ◌||◌, eqb, ltb, List, sym, refl, ap, subst, inl, inr, arith}
use Rattle.std.proofs.lemmas.Bool.{cond_both, both_ways, ltb-true, ltb-false, eqb-true, not-true, not-false, and_parts}
use Rattle.quorum.specs.Sets.{Rule, bits, joined}
use Rattle.quorum.specs.Laws.{Lawful}
use Rattle.model.specs.declared.parties.Party.{Party}
use Rattle.model.specs.declared.reader.Phase.{Phase}
use Rattle.model.specs.declared.reader.Reader.{Reader}
use Rattle.model.specs.declared.messages.Message.{Message}
use Rattle.model.specs.Stamps.{rank}
use Rattle.model.specs.State.{State, Held, index, line, with_writer}
use Rattle.model.specs.Records.{acknowledged, writer_freed, replied_by, heard, lowered, one_more, ended}
use Rattle.model.specs.Deliveries.{Effect, quiet, finish_event, finishing, written, on_put_ack, in_first, in_second, in_relay, counts}
use Rattle.model.specs.History.{History}
use Rattle.model.proofs.Sets.{none, joined_cases}
use Rattle.model.proofs.World.{held_from, World}
use Rattle.model.proofs.Moves.{ticked, changed, later_changed, ended_op, onward_ended, good_ended}
use Rattle.model.proofs.Good.{code, apart_writer, current, True, Ack, First, Second, Relaying, InPhase, Writing, Good, Kept, phase_later}
use Rattle.model.proofs.Steps.{delivery, old_messages, old_reader, old_figures, ticks, kept_quiet}
use Rattle.model.proofs.Ends.{still_changed, ends}

module _ {F : Type 0} (q : Rule) (w : World F) (r : ℕ) where
  pub to_first : (p : Phase) (d : Reader F) → in_first p ≡ true → InPhase q w r p d → First w r d
  to_first Phase.Idle d e x = absurd (both_ways false refl e)
  to_first Phase.First d e x = x
  to_first Phase.Second d e x = absurd (both_ways false refl e)
  to_first Phase.Relay d e x = absurd (both_ways false refl e)

  pub of_first : (p : Phase) (d : Reader F) → in_first p ≡ true → First w r d → InPhase q w r p d
  of_first Phase.Idle d e x = tt
  of_first Phase.First d e x = x
  of_first Phase.Second d e x = absurd (both_ways false refl e)
  of_first Phase.Relay d e x = absurd (both_ways false refl e)

  pub to_second : (p : Phase) (d : Reader F) → in_second p ≡ true → InPhase q w r p d → Second w r d
  to_second Phase.Idle d e x = absurd (both_ways false refl e)
  to_second Phase.First d e x = absurd (both_ways false refl e)
  to_second Phase.Second d e x = x
  to_second Phase.Relay d e x = absurd (both_ways false refl e)

  pub of_second : (p : Phase) (d : Reader F) → in_second p ≡ true → Second w r d → InPhase q w r p d
  of_second Phase.Idle d e x = tt
  of_second Phase.First d e x = absurd (both_ways false refl e)
  of_second Phase.Second d e x = x
  of_second Phase.Relay d e x = absurd (both_ways false refl e)

  pub to_relaying : (p : Phase) (d : Reader F) → in_relay p ≡ true → InPhase q w r p d → Relaying q w r d
  to_relaying Phase.Idle d e x = absurd (both_ways false refl e)
  to_relaying Phase.First d e x = absurd (both_ways false refl e)
  to_relaying Phase.Second d e x = absurd (both_ways false refl e)
  to_relaying Phase.Relay d e x = x

  pub of_relaying : (p : Phase) (d : Reader F) → in_relay p ≡ true → Relaying q w r d → InPhase q w r p d
  of_relaying Phase.Idle d e x = tt
  of_relaying Phase.First d e x = absurd (both_ways false refl e)
  of_relaying Phase.Second d e x = absurd (both_ways false refl e)
  of_relaying Phase.Relay d e x = x

-- What it means that a message counts.
pub record Counts {F : Type 0} (meant : Phase → Bool) (d : Reader F) (m : Message F) : Type 0 where
  pub operation_is : d.operation ≡ m.operation
  pub phase_is : meant d.phase ≡ true
  pub new : bits d.replies (index m.sender) ≡ false

pub counts_parts : {F : Type 0} (meant : Phase → Bool) (d : Reader F) (m : Message F) → counts meant d m ≡ true
    → Counts meant d m
counts_parts meant d m e =
    let a = and_parts (eqb d.operation m.operation && meant d.phase)
    (not (bits d.replies (index m.sender))) e in
    let b = and_parts (eqb d.operation m.operation) (meant d.phase) a.0 in
    record { operation_is = eqb-true d.operation m.operation b.0; phase_is = b.1; new = not-true _ a.1 }

-- What a reader keeps as it hears, and whom it counts.
pub record Hearing {F : Type 0} (d : Reader F) (c : ℕ) (y : Reader F) : Type 0 where
  pub halted_is : y.halted ≡ d.halted
  pub operation_is : y.operation ≡ d.operation
  pub phase_is : y.phase ≡ d.phase
  pub replies_is : y.replies ≡ joined d.replies c

pub hearing_by : {F : Type 0} (d : Reader F) (c : ℕ) (x : Held F) (holders : ℕ)
    → Hearing d c (replied_by d c x holders)
hearing_by d c x holders = record { halted_is = refl; operation_is = refl; phase_is = refl; replies_is = refl }

pub hearing_heard : {F : Type 0} (d : Reader F) (c : ℕ) (x : Held F) → Hearing d c (heard d c x)
unfolding heard
hearing_heard d c x =
    cond_both (ltb (rank d.best_stamp) (rank x.stamp)) _ _ (Hearing d c) (λ _. hearing_by d c x _)
    (λ _. cond_both (eqb (rank d.best_stamp) (rank x.stamp)) _ _ (Hearing d c) (λ _. hearing_by d c _ _)
    (λ _. hearing_by d c _ _))

pub hearing_lowered : {F : Type 0} (d : Reader F) (c : ℕ) (x : Held F) → Hearing d c (lowered d c x)
unfolding lowered
hearing_lowered d c x =
    cond_both (eqb d.replies 0 || ltb (rank x.stamp) (rank d.best_stamp)) _ _ (Hearing d c)
    (λ _. hearing_by d c x _) (λ _. hearing_by d c _ _)

module _ {F : Type 0} (w : World F) (r : ℕ) (d : Reader F) (c : ℕ) (x : Held F) (p : First w r d)
    (fresh : (w.ops d.operation).snap c ≤ rank x.stamp) (grown : rank x.stamp ≤ w.at c)
    (told : True w x.stamp x.figure) where
  asked_more : (b : ℕ) → rank d.best_stamp ≤ b → rank x.stamp ≤ b → (k : ℕ)
      → bits (joined d.replies c) k ≡ true → (w.ops d.operation).snap k ≤ b
  asked_more b l n k m = elim (joined_cases d.replies c k m) [
    | inl i ↦ omega (arith, ap (w.ops d.operation).snap i)
    | inr o ↦ omega (arith, p.asked k o)
  ]

  -- A reader that has heard one more is still in its first round.
  pub hears : First w r (heard d c x)
  unfolding heard
  hears =
      cond_both (ltb (rank d.best_stamp) (rank x.stamp)) _ _ (First w r)
      (λ l. record {
        stage_is = p.stage_is;
        owner_is = p.owner_is;
        reads = p.reads;
        true_figure = told;
        asked =
            asked_more (rank x.stamp) (omega (arith, ltb-true (rank d.best_stamp) (rank x.stamp) l))
            (omega arith);
        holding = λ k m. elim (joined_cases 0 c k m) [
          | inl i ↦ rw i grown
          | inr o ↦ absurd (both_ways (bits 0 k) (none k) o)
        ];
      })
      (λ l. cond_both (eqb (rank d.best_stamp) (rank x.stamp)) _ _ (First w r)
      (λ b. record {
        stage_is = p.stage_is;
        owner_is = p.owner_is;
        reads = p.reads;
        true_figure = p.true_figure;
        asked =
            asked_more (rank d.best_stamp) (omega arith)
            (ltb-false (rank d.best_stamp) (rank x.stamp) l);
        holding = λ k m. elim (joined_cases d.holders c k m) [
          | inl i ↦ rw i (omega (arith, eqb-true (rank d.best_stamp) (rank x.stamp) b))
          | inr o ↦ p.holding k o
        ];
      })
      (λ b. record {
        stage_is = p.stage_is;
        owner_is = p.owner_is;
        reads = p.reads;
        true_figure = p.true_figure;
        asked =
            asked_more (rank d.best_stamp) (omega arith)
            (ltb-false (rank d.best_stamp) (rank x.stamp) l);
        holding = p.holding;
      }))

module _ {F : Type 0} (q : Rule) (R : ℕ) (law : Lawful q) (start : F) (w : World F) (s : State F) (h : History F)
    (g : Good q R start w s h) (place : ℕ) (taken : List (Message F)) where
  abbrev K : Effect F → Type 0
  K = Kept q R start h (delivery place taken)

  module _ (j c : ℕ) (x : Writing w j s.writer.acknowledgers) (same_op : s.writer.operation ≡ j) (pos : 0 < j)
      (reached : (w.ops j).aim ≤ w.at c) where
    acked : (k : ℕ) → bits (joined s.writer.acknowledgers c) k ≡ true → (w.ops j).aim ≤ w.at k
    acked k m =
        elim (joined_cases s.writer.acknowledgers c k m) [ inl i ↦ rw i reached | inr o ↦ x.acked pos k o ]

    others : (p : Party) → ((w.ops j).owner ≡ p → ⊥)
        → current s.start 0 s.readers p ≡ current s.start s.writer.operation s.readers p
    others Party.Writer n = absurd (n (x.owner_is pos))
    others (Party.Reader r) n = refl
    others (Party.Replica c) n = refl

    writer_ends : q.round (bits (joined s.writer.acknowledgers c)) ≡ true
        → K (finishing (with_writer s (writer_freed (acknowledged s.writer c))) j (written s j) 2)
    writer_ends e =
        let st = x.stage_is pos in
        let b : 1 ≤ (w.ops j).stage = omega arith in
        let hold = held_from q law (bits (joined s.writer.acknowledgers c)) w.at (w.ops j).aim
        (law.holds _ e) acked in
        let new = good_ended q law w g.core j (w.ops j).aim st refl hold in
        let on = onward_ended (w.ops j) (w.ops j).aim w.now (omega arith) (λ _. refl) in
        record {
          world = changed w j (ended_op (w.ops j) (w.ops j).aim w.now);
          good =
              ends q R law start w s h g j (w.ops j).aim b (omega arith) (λ _. refl) (λ _. omega arith) new
              (ended (line s j) (finish_event s) (written s j) 2) refl (written s j)
              ((g.lines j).write_rank (omega arith) (x.writes pos)) ((g.lines j).write_value (omega arith) (x.writes pos)) refl
              s.readers (writer_freed (acknowledged s.writer c)) refl
              (subst (λ p. current s.start 0 s.readers p ≡ 0) (sym (x.owner_is pos)) refl) others
              (λ p. rw (x.owner_is pos) (apart_writer p))
              (one_more s.finished) _ (line s j).sent 2 refl refl place refl g.readers_are
              (λ k. phase_later q R start w _ (later_changed q law w j _ on) k
              (still_changed q R law start w s h g j _ on (Party.Reader k) (λ n. omega (arith, ap code n, ap code (x.owner_is pos))))
              _ _ (g.readers k))
              (record {
                stage_is = λ l. absurd (omega arith);
                owner_is = λ l. absurd (omega arith);
                writes = λ l. absurd (omega arith);
                acked = λ l. absurd (omega arith);
              });
        }

    writer_waits : K (quiet (with_writer s (acknowledged s.writer c)))
    writer_waits = record {
      world = ticked w;
      good =
          ticks q R law start w s h g s.replicas s.readers s.messages (acknowledged s.writer c) _
          (record { answers = tt; sent_says = tt }) g.replicas_are g.readers_are refl refl (λ r. refl)
          g.at_is
          (old_figures q R law start w s h g) (old_messages q R law start w s h g) (old_reader q R law start w s h g)
          (rw same_op
          (record { stage_is = x.stage_is; owner_is = x.owner_is; writes = x.writes; acked = λ _. acked }));
    }

  pub kept_put_ack : (m : Message F) → Ack w m → K (on_put_ack q s m)
  unfolding on_put_ack
  kept_put_ack m x =
      cond_both (not (eqb s.writer.operation m.operation)) _ _ K
      (λ _. kept_quiet q R law start w s h g place taken)
      (λ e.
      let i = eqb-true s.writer.operation m.operation (not-false _ e) in
      let p = (g.core.op m.operation).named (omega (arith, x.settled)) in
      let y = subst (λ n. Writing w n s.writer.acknowledgers) i g.writer in
      cond_both (q.round (bits (joined s.writer.acknowledgers (index m.sender)))) _ _ K
      (λ r. writer_ends m.operation (index m.sender) y i p x.reached r)
      (λ _. writer_waits m.operation (index m.sender) y i p x.reached))
