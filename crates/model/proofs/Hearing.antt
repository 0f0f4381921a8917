-- A reader in its first or second round keeps what is known.
use Rattle.std.proofs.Common.{◌≡◌, ℕ, ◌/◌, ◌<◌, ◌≤◌, true, false, ◌&&◌, ◌⊎◌, List, length, get_or, set, sym, refl, ap, ◌∙◌, inl, inr, arith, length-set, Ok}
use Rattle.std.proofs.lemmas.Bool.{cond_both, both_ways, and_parts}
use Rattle.quorum.specs.Sets.{Rule, bits}
use Rattle.quorum.specs.Laws.{Lawful}
use Rattle.model.specs.declared.parties.Party.{Party}
use Rattle.model.specs.declared.reader.Phase.{Phase}
use Rattle.model.specs.declared.messages.MessageKind.{MessageKind}
use Rattle.model.specs.declared.reader.Reader.{Reader}
use Rattle.model.specs.declared.messages.Message.{Message}
use Rattle.model.specs.declared.answers.Reply.{Reply}
use Rattle.model.specs.Stamps.{rank}
use Rattle.model.specs.State.{State, index, new_mark, reader, line, with_reader}
use Rattle.model.specs.Records.{best, heard, confirmed, placing, reader_freed}
use Rattle.model.specs.Deliveries.{Effect, quiet, sending, to_all, carried, in_first, in_second, counts, read_finishing, is_quick, after_have, on_have_at, on_have, after_last, on_back_ack_at, on_back_ack}
use Rattle.model.specs.History.{History}
use Rattle.model.proofs.Sets.{none, joined_cases}
use Rattle.model.proofs.Lists.{each_set_all, all_to_all}
use Rattle.model.proofs.World.{put_same, put_each, held_from, not_held, Op, World, Onward, Later}
use Rattle.model.proofs.Moves.{ticked, later_ticked, changed, later_changed, core_changed, onward_settled, good_settled, good_quick, good_ended}
use Rattle.model.proofs.Good.{current, Ack, Report, Says, First, Second, InPhase, LineGood, AtWork, Closes, Puts, Good, Kept, true_later, mark_later, messages_later, phase_later, line_later, advance}
use Rattle.model.proofs.Steps.{delivery, same_current, work_later, old_messages, old_reader, old_writer, old_figures, ticks, kept_quiet}
use Rattle.model.proofs.World as world
use Rattle.model.proofs.Moves as moves
use Rattle.model.proofs.Ends.{readers_changed, writer_changed, read_ends}
use Rattle.model.proofs.Waits.{to_first, of_first, to_second, of_second, counts_parts, hearing_heard, hears}
use Rattle.model.specs.Answers.{Answer}

module _ {F : Type 0} (q : Rule) (R : ℕ) (law : Lawful q) (start : F) (w : World F) (s : State F) (h : History F)
    (g : Good q R start w s h) (place : ℕ) (taken : List (Message F)) where
  abbrev K : Effect F → Type 0
  K = Kept q R start h (delivery place taken)

  -- Reader r, now d, is one reply further and waits on.
  pub waits : (r : ℕ) (d : Reader F) → d.operation ≡ (reader s r).operation → InPhase q (ticked w) r d.phase d
      → K (quiet (with_reader s r d))
  waits r d same_op x = record {
    world = ticked w;
    good =
        ticks q R law start w s h g s.replicas (set s.readers r d) s.messages s.writer _
        (record { answers = tt; sent_says = tt }) g.replicas_are (length-set s.readers r d ∙ g.readers_are)
        refl refl
        (each_set_all (λ k y. y.operation ≡ (reader s k).operation) s.readers r d _ same_op (λ k. refl))
        g.at_is
        (old_figures q R law start w s h g) (old_messages q R law start w s h g)
        (each_set_all (λ k y. InPhase q (ticked w) k y.phase y) s.readers r d _ x
        (old_reader q R law start w s h g))
        (old_writer q R law start w s h g);
  }

  module _ (r : ℕ) (d : Reader F) (x : First w r d) (e : in_first d.phase ≡ true)
      (same_op : d.operation ≡ (reader s r).operation) where
    abbrev j : ℕ
    j = d.operation

    above_best : q.round (bits d.replies) ≡ true → (t : ℕ) → rank d.best_stamp < t
        → world.held q (w.ops j).snap t ≡ false
    above_best b t l = not_held q law (bits d.replies) (w.ops j).snap t b (λ c m. omega (arith, x.asked c m))

    first_ends : q.round (bits d.replies) ≡ true → q.hold (bits d.holders) ≡ true → K (read_finishing s r d 2)
    first_ends b k =
        let st = x.stage_is in
        let hold = held_from q law (bits d.holders) w.at (rank d.best_stamp) k x.holding in
        let new = good_quick q law w g.core j (rank d.best_stamp) st x.reads x.true_figure.written
        (above_best b) hold in
        read_ends q R law start w s h g j r x.owner_is x.reads (reader_freed d) refl (rank d.best_stamp) (omega arith)
        (omega arith) (λ l. absurd (omega arith)) new (best d) refl x.true_figure.is refl place taken 2

    module _ (b : q.round (bits d.replies) ≡ true) where
      abbrev o₄ : Op
      o₄ = moves.settled (w.ops j) (rank d.best_stamp)

      abbrev v₄ : World F
      v₄ = changed w j o₄

      on₄ : Onward (w.ops j) o₄
      on₄ = onward_settled (w.ops j) (rank d.best_stamp) x.stage_is

      up₄ : Later q w v₄
      up₄ = later_changed q law w j o₄ on₄

      here : v₄.ops j ≡ o₄
      here = put_same w.ops j o₄

      goes_on : Second v₄ r (placing d)
      goes_on = record {
        stage_is = ap (λ y. y.stage) here;
        owner_is = ap (λ y. y.owner) here ∙ x.owner_is;
        reads = ap (λ y. y.reading) here ∙ x.reads;
        true_figure = true_later q R start w v₄ up₄ x.true_figure;
        aims = sym (ap (λ y. y.aim) here);
        placed = λ c m. absurd (both_ways (bits 0 c) (none c) m);
      }

      abbrev ds : List (Reader F)
      ds = set s.readers r (placing d)

      same_ops : (p : Party)
          → current s.start s.writer.operation ds p ≡ current s.start s.writer.operation s.readers p
      same_ops =
          same_current s.start _ _ s.readers ds refl
          (each_set_all (λ k y. y.operation ≡ (reader s k).operation) s.readers r (placing d) _ same_op
          (λ k. refl))

      abbrev goes : Effect F
      goes = sending (with_reader s r (placing d)) (to_all q.size MessageKind.Back j (Party.Reader r) (best d))

      settles : K goes
      settles = record {
        world = v₄;
        good = advance q R start w v₄ up₄ s _ h _ g (record {
          core =
              core_changed q law w j o₄ on₄ (omega (arith, x.stage_is)) (λ _ f. absurd (both_ways _ f x.reads))
              (good_settled q law w g.core j (rank d.best_stamp) x.stage_is x.reads
              x.true_figure.written (above_best b))
              g.core;
          start_is = g.start_is;
          now_is = refl;
          count_is = g.count_is;
          last_is = g.last_is;
          at_is = g.at_is;
          figures = λ c. true_later q R start w v₄ up₄ (g.figures c);
          replicas_are = g.replicas_are;
          messages = messages_later q R start w v₄ up₄ s.messages g.messages;
          readers = readers_changed q R law start w s h g j o₄ on₄ r (placing d) x.owner_is goes_on;
          writer = writer_changed q R law start w s h g j o₄ on₄ r x.owner_is;
          readers_are = length-set s.readers r (placing d) ∙ g.readers_are;
          marks = λ i. mark_later q R start w v₄ up₄ (i / R) (get_or s.marks i new_mark) (g.marks i);
          lines = put_each (λ i o. LineGood v₄ o (line s i)) w.ops j o₄
              (let l = g.lines j in let st = x.stage_is in record {
                owner_is = λ _. l.owner_is (omega arith);
                write_rank = λ _ f. absurd (both_ways _ f x.reads);
                write_value = λ _ f. absurd (both_ways _ f x.reads);
              })
              (λ i _. line_later q R start w v₄ up₄ g.core i (line s i) (g.lines i));
          at_work = put_each (λ i o. AtWork s.start s.writer.operation ds i o) w.ops j o₄
              (let y = work_later s.start _ _ _ _ j (w.ops j) (same_ops (w.ops j).owner) (g.at_work j) in let st = x.stage_is in
              record { busy = λ _ _. y.busy (omega arith) (omega arith); latest = λ _. y.latest (omega arith) })
              (λ i _. work_later s.start _ _ _ _ i (w.ops i) (same_ops (w.ops i).owner) (g.at_work i));
          told = record {
            answers = tt;
            sent_says =
                all_to_all MessageKind.Back j (Party.Reader r) (best d) (λ m. Says q R v₄ m.kind m) q.size
                (λ c l. record {
                  settled = omega (arith, ap (λ y. y.stage) here);
                  aims = sym (ap (λ y. y.aim) here);
                  true_figure = true_later q R start w v₄ up₄ x.true_figure;
                  to_low = l;
                });
          };
          put =
              put_each (λ i o. 2 ≤ o.stage → o.reading ≡ false → (2 ≤ (w.ops i).stage) ⊎ Puts i goes.sent) w.ops j o₄
              (λ _ f. absurd (both_ways _ f x.reads)) (λ i _ l _. inl l);
          begun =
              put_each
              (λ i o. 1 ≤ o.stage → (1 ≤ (w.ops i).stage) ⊎
              ((o.begun ≡ length h) × (◌≡◌ {A = Answer F} (Ok Reply.Done) (Ok (Reply.Started i)))))
              w.ops j o₄ (λ _. inl (omega (arith, x.stage_is))) (λ i _ l. inl l);
          ended =
              put_each
              (λ i o. 3 ≤ o.stage → (3 ≤ (w.ops i).stage) ⊎
              ((o.ended ≡ length h) × Closes (delivery place taken goes) i (w.value o.aim)))
              w.ops j o₄ (λ l. absurd (omega arith)) (λ i _ l. inl l);
        });
      }

    after : K (after_have q s r d)
    after =
        cond_both (q.round (bits d.replies)) _ _ K
        (λ b. cond_both (is_quick (line s d.operation).kind && q.hold (bits d.holders)) _ _ K
        (λ k. first_ends b (and_parts (is_quick (line s d.operation).kind) (q.hold (bits d.holders)) k).1)
        (λ _. settles b))
        (λ _. waits r d same_op
        (of_first q (ticked w) r d.phase d e (phase_later q R start w (ticked w) (later_ticked q law w) r (λ i b c. refl) Phase.First d x)))

  have_at : (m : Message F) (r : ℕ) (d : Reader F) → d.operation ≡ (reader s r).operation
      → InPhase q w r d.phase d → Report w m → K (on_have_at q s m r d)
  have_at m r d same_op x p =
      cond_both (counts in_first d m) _ _ K
      (λ e.
      let c = counts_parts in_first d m e in
      let i = c.operation_is in
      let y = hearing_heard d (index m.sender) (carried m) in
      after r (heard d (index m.sender) (carried m))
      (hears w r d (index m.sender) (carried m) (to_first q w r d.phase d c.phase_is x) (rw i p.fresh)
      p.grown p.true_figure)
      (ap in_first y.phase_is ∙ c.phase_is) (y.operation_is ∙ same_op))
      (λ _. kept_quiet q R law start w s h g place taken)

  pub kept_have : (m : Message F) → Report w m → K (on_have q s m)
  unfolding on_have
  kept_have m p =
      have_at m (index m.receiver) (reader s (index m.receiver)) refl (g.readers (index m.receiver)) p

  module _ (r : ℕ) (d : Reader F) (x : Second w r d) (e : in_second d.phase ≡ true)
      (same_op : d.operation ≡ (reader s r).operation) where
    second_ends : q.round (bits d.replies) ≡ true → K (read_finishing s r d 4)
    second_ends b =
        let st = x.stage_is in
        let hold = held_from q law (bits d.replies) w.at (rank d.best_stamp) (law.holds _ b) x.placed
        in
        let new = good_ended q law w g.core d.operation (rank d.best_stamp) st x.aims hold in
        read_ends q R law start w s h g d.operation r x.owner_is x.reads (reader_freed d) refl (rank d.best_stamp)
        (omega arith) (omega arith) (λ _. x.aims) new (best d) refl x.true_figure.is refl place taken 4

    after_ack : K (after_last q s r d 4)
    after_ack =
        cond_both (q.round (bits d.replies)) _ _ K second_ends
        (λ _. waits r d same_op
        (of_second q (ticked w) r d.phase d e (phase_later q R start w (ticked w) (later_ticked q law w) r (λ i b c. refl) Phase.Second d x)))

  confirms : (r : ℕ) (d : Reader F) (c : ℕ) → Second w r d → (w.ops d.operation).aim ≤ w.at c
      → Second w r (confirmed d c)
  confirms r d c x reached = record {
    stage_is = x.stage_is;
    owner_is = x.owner_is;
    reads = x.reads;
    true_figure = x.true_figure;
    aims = x.aims;
    placed = λ k m. elim (joined_cases d.replies c k m) [
      | inl i ↦ rw i (omega (arith, x.aims))
      | inr o ↦ x.placed k o
    ];
  }

  ack_at : (m : Message F) (r : ℕ) (d : Reader F) → d.operation ≡ (reader s r).operation
      → InPhase q w r d.phase d → Ack w m → K (on_back_ack_at q s m r d)
  ack_at m r d same_op x p =
      cond_both (counts in_second d m) _ _ K
      (λ e.
      let c = counts_parts in_second d m e in
      let i = c.operation_is in
      after_ack r (confirmed d (index m.sender))
      (confirms r d (index m.sender) (to_second q w r d.phase d c.phase_is x) (rw i p.reached))
      c.phase_is same_op)
      (λ _. kept_quiet q R law start w s h g place taken)

  pub kept_back_ack : (m : Message F) → Ack w m → K (on_back_ack q s m)
  unfolding on_back_ack
  kept_back_ack m p =
      ack_at m (index m.receiver) (reader s (index m.receiver)) refl (g.readers (index m.receiver)) p
