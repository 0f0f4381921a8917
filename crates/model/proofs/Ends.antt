-- An operation that finishes keeps what is known.
use Rattle.std.proofs.Common.{◌≡◌, ℕ, pred, ◌/◌, ◌<◌, ◌≤◌, true, false, ◌⊎◌, List, [], ◌∷◌, ◌++◌, length, get_or, set, sym, refl, ap, ◌∙◌, subst, inl, inr, arith, length-set, Ok}
use Rattle.std.specs.List.{AllByRecursion as All}
use Rattle.std.proofs.lemmas.Bool.{cases_eq, both_ways}
use Rattle.quorum.specs.Sets.{Rule}
use Rattle.quorum.specs.Laws.{Lawful}
use Rattle.model.specs.declared.parties.Party.{Party}
use Rattle.model.specs.declared.reader.Phase.{Phase}
use Rattle.model.specs.declared.writer.Writer.{Writer}
use Rattle.model.specs.declared.reader.Reader.{Reader}
use Rattle.model.specs.declared.messages.Message.{Message}
use Rattle.model.specs.declared.journal.Operation.{Operation}
use Rattle.model.specs.declared.calls.Call.{Call}
use Rattle.model.specs.declared.answers.Reply.{Reply}
use Rattle.model.specs.Stamps.{rank}
use Rattle.model.specs.State.{State, Held, new_reader, new_mark, no_line, line, with_reader}
use Rattle.model.specs.Records.{one_more, ended}
use Rattle.model.specs.Deliveries.{finish_event, finishing}
use Rattle.model.specs.History.{Event, History}
use Rattle.std.proofs.lemmas.List.{get_or-set_same}
use Rattle.model.proofs.Lists.{each_set}
use Rattle.model.proofs.World.{put_same, put_other, put_each, Op, World, Onward, Later, OpGood}
use Rattle.model.proofs.Moves.{changed, later_changed, core_changed, ended_op, onward_ended}
use Rattle.model.proofs.Good.{code, apart_reader, current, Says, InPhase, Writing, LineGood, AtWork, Answers, Closes, Puts, Good, Kept, true_later, mark_later, messages_later, Still, phase_later, writing_later, line_later, advance}
use Rattle.model.proofs.Steps.{delivery, work_later}

pub line_none : {F : Type 0} (w : World F) (o : Op) (l : Operation F) → o.stage ≡ 0 → LineGood w o l
line_none w o l e = record {
  owner_is = λ a. absurd (omega arith);
  write_rank = λ a. absurd (omega arith);
  write_value = λ a. absurd (omega arith);
}

module _ {F : Type 0} (q : Rule) (R : ℕ) (law : Lawful q) (start : F) (w : World F) (s : State F) (h : History F)
    (g : Good q R start w s h) where
  -- Operation j is now o, and nothing else has changed in the world.
  module _ (j : ℕ) (o : Op) (on : Onward (w.ops j) o) where
    pub still_changed : (p : Party) → ((w.ops j).owner ≡ p → ⊥)
        → Still q R start w (changed w j o) (later_changed q law w j o on) p
    still_changed p n i b e =
        ap (λ y. y.stage) (put_other w.ops j o i (λ d. n (ap (λ k. (w.ops k).owner) (sym d) ∙ e)))

    pub readers_changed : (r : ℕ) (d : Reader F) → (w.ops j).owner ≡ Party.Reader r
        → InPhase q (changed w j o) r d.phase d
        → (k : ℕ)
        → InPhase q (changed w j o) k (get_or (set s.readers r d) k (new_reader s.start)).phase (get_or (set s.readers r d) k (new_reader s.start))
    readers_changed r d e x =
        each_set (λ k y. InPhase q (changed w j o) k y.phase y) s.readers r d _ x (λ _. tt)
        (λ k n. phase_later q R start w (changed w j o) (later_changed q law w j o on) k
        (still_changed (Party.Reader k) (λ c. n (omega (arith, ap code c, ap code e)))) _ _ (g.readers k))

    pub writer_changed : (r : ℕ) → (w.ops j).owner ≡ Party.Reader r
        → Writing (changed w j o) s.writer.operation s.writer.acknowledgers
    writer_changed r e =
        writing_later q R start w (changed w j o) (later_changed q law w j o on)
        (still_changed Party.Writer (λ c. omega (arith, ap code c, ap code e))) s.writer.operation
        s.writer.acknowledgers g.writer

  -- Operation j finishes with a.
  module _ (j a : ℕ) (born : 1 ≤ (w.ops j).stage) (unfinished : (w.ops j).stage ≤ 2)
      (aims : 2 ≤ (w.ops j).stage → a ≡ (w.ops j).aim)
      (put_out : (w.ops j).reading ≡ false → 2 ≤ (w.ops j).stage)
      (new : OpGood q (changed w j (ended_op (w.ops j) a w.now)) j (ended_op (w.ops j) a w.now)) where
    abbrev E : Op
    E = ended_op (w.ops j) a w.now

    abbrev v₃ : World F
    v₃ = changed w j E

    on₃ : Onward (w.ops j) E
    on₃ = onward_ended (w.ops j) a w.now unfinished aims

    up₃ : Later q w v₃
    up₃ = later_changed q law w j E on₃

    here : v₃.ops j ≡ E
    here = put_same w.ops j E

    module _ (nl : Operation F) (owner_is : nl.owner ≡ (line s j).owner) (x : Held F)
        (rank_is : rank x.stamp ≡ a) (value_is : x ≡ w.value a)
        (line_is : record { stamp = nl.stamp; figure = nl.figure } ≡ x) where
      line_new : LineGood v₃ E nl
      line_new = record {
        owner_is = λ _. owner_is ∙ (g.lines j).owner_is born;
        write_rank = λ _ _. ap (λ y. rank y.stamp) line_is ∙ rank_is;
        write_value = λ _ _. line_is ∙ value_is;
      }

      has_line : pred j < length s.journal
      has_line = omega (arith, (g.core.op j).counted born, (g.core.op j).named born, g.count_is)

      lines₃ : (i : ℕ) → LineGood v₃ (v₃.ops i) (get_or (set s.journal (pred j) nl) (pred i) (no_line s.start))
      lines₃ =
          put_each (λ i o. LineGood v₃ o (get_or (set s.journal (pred j) nl) (pred i) (no_line s.start))) w.ops
          j E
          (subst (LineGood v₃ E) (sym (get_or-set_same s.journal (pred j) nl (no_line s.start) has_line)) line_new)
          (λ i n. elim (cases_eq (w.ops i).stage 0) [
            | inl e ↦ line_none v₃ (w.ops i) _ e
            | inr p ↦
                let ni = (g.core.op i).named (omega arith) in
                let nj = (g.core.op j).named born in
                each_set (λ k y. k ≡ pred i → LineGood v₃ (w.ops i) y) s.journal (pred j) nl _
                (λ e. absurd (n (omega arith))) (λ u. absurd (omega (arith, has_line)))
                (λ k _ e. subst (λ k. LineGood v₃ (w.ops i) (get_or s.journal k (no_line s.start))) (sym e)
                (line_later q R start w v₃ up₃ g.core i (line s i) (g.lines i)))
                (pred i) refl
          ])

      module _ (d : List (Reader F)) (wr : Writer) (same_last : wr.last ≡ s.writer.last)
          (free : current s.start wr.operation d (w.ops j).owner ≡ 0)
          (others : (p : Party) → ((w.ops j).owner ≡ p → ⊥) → current s.start wr.operation d p ≡ current
          s.start s.writer.operation s.readers p)
          (apart : (p : Party) → ((w.ops j).owner ≡ p) ⊎ ((w.ops j).owner ≡ p → ⊥)) where
        work₃ : (i : ℕ) → AtWork s.start wr.operation d i (v₃.ops i)
        work₃ = put_each (λ i o. AtWork s.start wr.operation d i o) w.ops j E
            (record { busy = λ _ l. absurd (omega arith); latest = λ _ l. absurd (omega arith) })
            (λ i n. elim (apart (w.ops i).owner) [
              | inl e ↦
                  let z : current s.start wr.operation d (w.ops i).owner ≡ 0 = subst
                  (λ p. current s.start wr.operation d p ≡ 0) e free in
                  record {
                    busy = λ b l. absurd (n (sym ((g.at_work i).busy b l) ∙ ap (current s.start s.writer.operation s.readers) (sym e) ∙ (g.at_work j).busy born unfinished));
                    latest = λ b l. absurd (omega arith);
                  }
              | inr e ↦ work_later s.start _ _ _ _ i (w.ops i) (others (w.ops i).owner e) (g.at_work i)
            ])

        pub ends : (fin : ℕ) (ev : Event F) (sent exchanges : ℕ) → ev.sent ≡ []
            → ev.reply ≡ Ok (Reply.Finished j x.stamp x.figure sent exchanges) → (place : ℕ)
            → ev.call ≡ Call.Deliver place
            → length d ≡ R
            → ((k : ℕ) → InPhase q v₃ k (get_or d k (new_reader s.start)).phase (get_or d k (new_reader s.start)))
            → Writing v₃ wr.operation wr.acknowledgers
            → Good q R start v₃ (record {
              start = s.start;
              message_room = s.message_room;
              journal_room = s.journal_room;
              writer = wr;
              replicas = s.replicas;
              readers = d;
              marks = s.marks;
              messages = s.messages;
              journal = set s.journal (pred j) nl;
              finished = fin;
            }) (h ++ ev ∷ [])
        ends fin ev sent exchanges no_sent reply_is place call_is width readers writer =
            advance q R start w v₃ up₃ s _ h ev g (record {
              core = core_changed q law w j E on₃ born (λ _. put_out) new g.core;
              start_is = g.start_is;
              now_is = refl;
              count_is = omega (arith, g.count_is, length-set s.journal (pred j) nl);
              last_is = g.last_is ∙ ap rank (sym same_last);
              at_is = g.at_is;
              figures = λ c. true_later q R start w v₃ up₃ (g.figures c);
              replicas_are = g.replicas_are;
              messages = messages_later q R start w v₃ up₃ s.messages g.messages;
              readers = readers;
              writer = writer;
              readers_are = width;
              marks = λ i. mark_later q R start w v₃ up₃ (i / R) (get_or s.marks i new_mark) (g.marks i);
              lines = lines₃;
              at_work = work₃;
              told = record {
                answers = subst (Answers v₃ (length h) ev.call ev.sent) (sym reply_is)
                    (record {
                      stage_is = omega (arith, ap (λ y. y.stage) here);
                      ended_is = ap (λ y. y.ended) here ∙ g.now_is;
                      aim_is = ap (λ y. y.aim) here ∙ sym rank_is;
                      value_is = ap (λ y. w.value y.aim) here ∙ sym value_is;
                    });
                sent_says = subst (All (λ a. Says q R v₃ a.kind a)) (sym no_sent) tt;
              };
              put =
                  put_each (λ i o. 2 ≤ o.stage → o.reading ≡ false → (2 ≤ (w.ops i).stage) ⊎ Puts i ev.sent) w.ops j E
                  (λ _ r. inl (put_out r)) (λ i _ l _. inl l);
              begun =
                  put_each
                  (λ i o. 1 ≤ o.stage → (1 ≤ (w.ops i).stage) ⊎
                  ((o.begun ≡ length h) × (ev.reply ≡ Ok (Reply.Started i))))
                  w.ops j E (λ _. inl born) (λ i _ l. inl l);
              ended =
                  put_each
                  (λ i o. 3 ≤ o.stage → (3 ≤ (w.ops i).stage) ⊎
                  ((o.ended ≡ length h) × Closes ev i (w.value o.aim)))
                  w.ops j E
                  (λ _. inr
                  (g.now_is, (place, sent, exchanges, call_is, reply_is ∙ ap (λ y. Ok (Reply.Finished j y.stamp y.figure sent exchanges)) value_is)))
                  (λ i _ l. inl l);
            })

  -- Reader r finishes operation j.
  module _ (j r : ℕ) (owner_is : (w.ops j).owner ≡ Party.Reader r) (reads : (w.ops j).reading ≡ true) (d : Reader F) (freed : d.operation ≡ 0) where
    pub free_reader : current s.start s.writer.operation (set s.readers r d) (w.ops j).owner ≡ 0
    free_reader = subst (λ p. current s.start s.writer.operation (set s.readers r d) p ≡ 0) (sym owner_is)
        (each_set (λ k y. k ≡ r → y.operation ≡ 0) s.readers r d (new_reader s.start) (λ _. freed)
        (λ _ _. refl) (λ k n e. absurd (n e)) r refl)

    pub other_readers : (p : Party) → ((w.ops j).owner ≡ p → ⊥)
        → current s.start s.writer.operation (set s.readers r d) p ≡ current s.start s.writer.operation s.readers p
    other_readers Party.Writer n = refl
    other_readers (Party.Reader k) n =
        each_set (λ i y. (i ≡ r → ⊥) → y.operation ≡ (get_or s.readers i (new_reader s.start)).operation)
        s.readers r d (new_reader s.start)
        (λ z. absurd (z refl)) (λ _ z. absurd (z refl)) (λ i _ _. refl) k
        (λ e. n (owner_is ∙ ap (λ i. Party.Reader i) (sym e)))
    other_readers (Party.Replica c) n = refl

    pub apart_owner : (p : Party) → ((w.ops j).owner ≡ p) ⊎ ((w.ops j).owner ≡ p → ⊥)
    apart_owner p = rw owner_is (apart_reader r p)

    -- Read j, settled on a, finishes with what its reader shows.
    pub read_ends : (a : ℕ) (born : 1 ≤ (w.ops j).stage) (unfinished : (w.ops j).stage ≤ 2) (aims : 2 ≤ (w.ops j).stage → a ≡ (w.ops j).aim)
        (new : OpGood q (changed w j (ended_op (w.ops j) a w.now)) j (ended_op (w.ops j) a w.now))
        (x : Held F) → rank x.stamp ≡ a → x ≡ w.value a → d.phase ≡ Phase.Idle → (place : ℕ)
        (taken : List (Message F)) (exchanges : ℕ)
        → Kept q R start h (delivery place taken) (finishing (with_reader s r d) j x exchanges)
    read_ends a born unfinished aims new x rank_is value_is idle place taken exchanges = record {
      world = changed w j (ended_op (w.ops j) a w.now);
      good =
          let on = onward_ended (w.ops j) a w.now unfinished aims in
          ends j a born unfinished aims (λ f. absurd (both_ways _ f reads)) new (ended (line s j) (finish_event s) x exchanges) refl x rank_is value_is
          refl
          (set s.readers r d) s.writer refl free_reader other_readers apart_owner (one_more s.finished) _
          (line s j).sent exchanges refl refl place refl
          (length-set s.readers r d ∙ g.readers_are)
          (readers_changed j _ on r d owner_is (rw idle tt))
          (writer_changed j _ on r owner_is);
    }
