-- A replica that takes what it is offered keeps what is known.
use Rattle.std.proofs.Common.{◌≡◌, ℕ, ◌/◌, ◌<◌, ◌≤◌, ltb, List, [], ◌∷◌, ◌++◌, length, get_or, set, refl, ap, ◌∙◌, inl, arith, length-set}
use Rattle.std.proofs.lemmas.Bool.{cond_both, ltb-true, ltb-false}
use Rattle.quorum.specs.Sets.{Rule}
use Rattle.quorum.specs.Laws.{Lawful}
use Rattle.model.specs.declared.messages.MessageKind.{MessageKind}
use Rattle.model.specs.declared.replica.Replica.{Replica}
use Rattle.model.specs.declared.marks.RelayMark.{RelayMark}
use Rattle.model.specs.declared.messages.Message.{Message}
use Rattle.model.specs.Stamps.{rank}
use Rattle.model.specs.State.{State, Held, index, new_replica, new_mark, replica, line, held, with_marks, with_held}
use Rattle.model.specs.Records.{took}
use Rattle.model.specs.Deliveries.{Effect, carried, on_offer}
use Rattle.model.specs.History.{Event, History}
use Rattle.std.proofs.lemmas.List.{get_or-set_same}
use Rattle.model.proofs.Lists.{each_set_all}
use Rattle.model.proofs.World.{World, Later}
use Rattle.model.proofs.Moves.{raised, later_raised, core_raised}
use Rattle.model.proofs.Good.{True, Store, Ack, Says, MarkGood, Told, Good, Kept, true_later, mark_later, messages_later, phase_later, writing_later, line_later, advance}
use Rattle.model.proofs.Steps.{delivery}

pub record Takes {F : Type 0} (w : World F) (own offered x : Held F) : Type 0 where
  pub above_own : rank own.stamp ≤ rank x.stamp
  pub above_offered : rank offered.stamp ≤ rank x.stamp
  pub true_figure : True w x.stamp x.figure

pub takes : {F : Type 0} (w : World F) (own offered : Held F) → True w own.stamp own.figure
    → True w offered.stamp offered.figure → Takes w own offered (took own offered)
takes w own offered a b =
    cond_both (ltb (rank own.stamp) (rank offered.stamp)) offered own (Takes w own offered)
    (λ e. record {
      above_own = omega (arith, ltb-true (rank own.stamp) (rank offered.stamp) e);
      above_offered = omega arith;
      true_figure = b;
    })
    (λ e. record {
      above_own = omega arith;
      above_offered = ltb-false (rank own.stamp) (rank offered.stamp) e;
      true_figure = a;
    })

module _ {F : Type 0} (q : Rule) (R : ℕ) (law : Lawful q) (start : F) (w : World F) (s : State F) (h : History F)
    (g : Good q R start w s h) where
  -- Replica c now holds x.
  module _ (c : ℕ) (low : c < q.size) (offered x : Held F) (tk : Takes w (held s c) offered x) where
    abbrev taken_by : Replica F
    taken_by = record { stamp = x.stamp; figure = x.figure; halted = (replica s c).halted }

    abbrev reps : List (Replica F)
    reps = set s.replicas c taken_by

    abbrev bt : ℕ → ℕ
    bt k = rank (get_or reps k (new_replica s.start)).stamp

    rise : (k : ℕ) → w.at k ≤ bt k
    rise =
        each_set_all (λ k y. w.at k ≤ rank y.stamp) s.replicas c taken_by _
        (omega (arith, tk.above_own, g.at_is c)) (λ k. omega (arith, g.at_is k))

    truths : (k : ℕ)
        → True w (get_or reps k (new_replica s.start)).stamp (get_or reps k (new_replica s.start)).figure
    truths =
        each_set_all (λ k y. True w y.stamp y.figure) s.replicas c taken_by _ tk.true_figure g.figures

    -- Its stamp is now that of what it holds.
    pub there : bt c ≡ rank x.stamp
    there =
        ap (λ y. rank y.stamp)
        (get_or-set_same s.replicas c taken_by (new_replica s.start) (omega (arith, g.replicas_are)))

    pub covers : rank offered.stamp ≤ bt c
    covers = omega (arith, there, tk.above_offered)

    abbrev pub v₂ : World F
    v₂ = raised q w bt

    pub up₂ : Later q w v₂
    up₂ = later_raised q law w bt rise

    pub took_true : True v₂ x.stamp x.figure
    took_true = true_later q R start w v₂ up₂ tk.true_figure

    pub old_marks₂ : (i : ℕ) → MarkGood v₂ (i / R) (get_or s.marks i new_mark)
    old_marks₂ i = mark_later q R start w v₂ up₂ (i / R) (get_or s.marks i new_mark) (g.marks i)

    pub raises : (k : List RelayMark) (e : Event F) → ((i : ℕ) → MarkGood v₂ (i / R) (get_or k i new_mark))
        → Told q R v₂ (length h) e
        → Good q R start v₂ (with_marks (with_held s c x) k) (h ++ e ∷ [])
    raises k e marks told =
        advance q R start w v₂ up₂ s _ h e g (record {
          core = core_raised q law w bt rise (λ c. (truths c).written.low) g.core;
          start_is = g.start_is;
          now_is = refl;
          count_is = g.count_is;
          last_is = g.last_is;
          at_is = λ c. refl;
          figures = λ c. true_later q R start w v₂ up₂ (truths c);
          replicas_are = length-set s.replicas c taken_by ∙ g.replicas_are;
          messages = messages_later q R start w v₂ up₂ s.messages g.messages;
          marks = marks;
          readers_are = g.readers_are;
          readers = λ r. phase_later q R start w v₂ up₂ r (λ j b e. refl) _ _ (g.readers r);
          writer =
              writing_later q R start w v₂ up₂ (λ j b e. refl) s.writer.operation s.writer.acknowledgers
              g.writer;
          lines = λ j. line_later q R start w v₂ up₂ g.core j (line s j) (g.lines j);
          at_work = g.at_work;
          told = told;
          put = λ j l _. inl l;
          begun = λ j l. inl l;
          ended = λ j l. inl l;
        })

  module _ (place : ℕ) (taken : List (Message F)) where
    abbrev K : Effect F → Type 0
    K = Kept q R start h (delivery place taken)

    took_by : (m : Message F) → Store q w m
        → Takes w (held s (index m.receiver)) (carried m) (took (held s (index m.receiver)) (carried m))
    took_by m x =
        takes w (held s (index m.receiver)) (carried m) (g.figures (index m.receiver)) x.true_figure

    -- A replica takes what is offered and acknowledges it, a PUT and a BACK alike.
    kept_offer : (ack : MessageKind) → ((v : World F) (a : Message F) → Ack v a → Says q R v ack a)
        → (m : Message F) → Store q w m → K (on_offer s m ack)
    unfolding on_offer
    kept_offer ack says m x =
        let c = index m.receiver in
        let by = took_by m x in
        record {
          world = v₂ c x.to_low (carried m) _ by;
          good =
              raises c x.to_low (carried m) _ by s.marks _ (old_marks₂ c x.to_low (carried m) _ by)
              (record {
                answers = tt;
                sent_says = (
                  says _ _ (record {
                    settled = x.settled;
                    reached = omega (arith, covers c x.to_low (carried m) _ by, x.aims);
                    to_owner = (g.lines m.operation).owner_is (omega (arith, x.settled));
                  }),
                  tt,
                );
              });
        }

    pub kept_put : (m : Message F) → Store q w m → K (on_offer s m MessageKind.PutAck)
    kept_put = kept_offer MessageKind.PutAck (λ v a x. x)

    pub kept_back : (m : Message F) → Store q w m → K (on_offer s m MessageKind.BackAck)
    kept_back = kept_offer MessageKind.BackAck (λ v a x. x)
