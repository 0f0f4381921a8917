-- Steps that leave the operations and the replicas' stamps as they are keep what is known.
use Rattle.std.proofs.Common.{◌≡◌, ℕ, pred, ◌/◌, ◌<◌, List, [], ◌∷◌, ◌++◌, length, get_or, sym, refl, ap, ◌∙◌, subst, inl, arith, length-set, Ok}
use Rattle.std.specs.List.{AllByRecursion as All}
use Rattle.std.proofs.ByRecursion.{All-get_or, All-append, All-push}
use Rattle.quorum.specs.Sets.{Rule}
use Rattle.quorum.specs.Laws.{Lawful}
use Rattle.model.specs.declared.parties.Party.{Party}
use Rattle.model.specs.declared.reader.Phase.{Phase}
use Rattle.model.specs.declared.messages.MessageKind.{MessageKind}
use Rattle.model.specs.declared.writer.Writer.{Writer}
use Rattle.model.specs.declared.replica.Replica.{Replica}
use Rattle.model.specs.declared.reader.Reader.{Reader}
use Rattle.model.specs.declared.messages.Message.{Message}
use Rattle.model.specs.declared.journal.Operation.{Operation}
use Rattle.model.specs.declared.calls.Call.{Call}
use Rattle.model.specs.declared.answers.Refusal.{Refusal}
use Rattle.model.specs.Stamps.{rank}
use Rattle.model.specs.State.{State, index, new_replica, new_reader, new_mark, no_line, replica, reader, line, with_messages}
use Rattle.model.specs.Records.{writer_halted, reader_halted, one_sent}
use Rattle.model.specs.Deliveries.{Effect, quiet, on_query, on_fan}
use Rattle.model.specs.Steps.{declined, counted, posted, dropped, duplicated, halt}
use Rattle.model.specs.History.{Event, History}
use Rattle.model.proofs.Lists.{each_set_all, at_new, all_without, all_to_all}
use Rattle.model.proofs.World.{Op, World, Later}
use Rattle.model.proofs.Moves.{ticked, later_ticked, core_ticked}
use Rattle.model.proofs.Good.{current, True, Asks, Says, InPhase, Writing, LineGood, AtWork, Told, Good, Kept, Keeps, true_later, mark_later, messages_later, phase_later, writing_later, line_later, advance}

-- What is known does not go by the counts of messages in the journal.
module _ {F : Type 0} where
  pub counted_each : (P : ℕ → Operation F → Type 0) → ((k : ℕ) (o : Operation F) → P k o → P k (one_sent o))
      → (f : F) (l : List (Message F)) (journal : List (Operation F))
      → ((k : ℕ) → P k (get_or journal k (no_line f))) → (k : ℕ) → P k (get_or (counted f journal l) k (no_line f))
  unfolding counted
  counted_each P more f [] journal h = h
  counted_each P more f (m ∷ l) journal h =
      counted_each P more f l _
      (each_set_all P journal (pred m.operation) _ (no_line f) (more _ _ (h (pred m.operation))) h)

  pub length_counted : (f : F) (l : List (Message F)) (journal : List (Operation F))
      → length (counted f journal l) ≡ length journal
  unfolding counted
  length_counted f [] journal = refl
  length_counted f (m ∷ l) journal = length_counted f l _ ∙ length-set journal (pred m.operation) _

  one_more_line : (w : World F) (o : Op) (l : Operation F) → LineGood w o l → LineGood w o (one_sent l)
  one_more_line w o l x = record { owner_is = x.owner_is; write_rank = x.write_rank; write_value = x.write_value }

  -- What is sent joins the other messages.
  pub posts : (q : Rule) (R : ℕ) (start : F) (w : World F) (s : State F) (h : History F) (e : Event F)
      → Good q R start w s (h ++ e ∷ []) → Good q R start w (posted s e.sent) (h ++ e ∷ [])
  posts q R start w s h e g = record {
    core = g.core;
    first_value = g.first_value;
    start_is = g.start_is;
    now_is = g.now_is;
    count_is = g.count_is ∙ sym (length_counted s.start e.sent s.journal);
    last_is = g.last_is;
    at_is = g.at_is;
    figures = g.figures;
    replicas_are = g.replicas_are;
    messages =
        All-append (λ m. Says q R w m.kind m) s.messages e.sent g.messages
        (g.told (length h) e (at_new h e)).sent_says;
    readers = g.readers;
    writer = g.writer;
    readers_are = g.readers_are;
    marks = g.marks;
    lines = λ j. counted_each (λ k o. k ≡ pred j → LineGood w (w.ops j) o) (λ k o x z. one_more_line w (w.ops j) o (x z)) s.start e.sent s.journal
        (λ k z. subst (λ y. LineGood w (w.ops j) (get_or s.journal y (no_line s.start))) (sym z) (g.lines j))
        (pred j) refl;
    at_work = g.at_work;
    told = g.told;
    put = g.put;
    begun = g.begun;
    ended = g.ended;
  }

  abbrev pub delivery : ℕ → List (Message F) → Effect F → Event F
  delivery place taken e = record { call = Call.Deliver place; reply = Ok e.reply; taken = taken; sent = e.sent }

  pub same_current : (start : F) (n n' : ℕ) (d d' : List (Reader F)) → n' ≡ n
      → ((r : ℕ) → (get_or d' r (new_reader start)).operation ≡ (get_or d r (new_reader start)).operation)
      → (p : Party) → current start n' d' p ≡ current start n d p
  same_current start n n' d d' e h Party.Writer = e
  same_current start n n' d d' e h (Party.Reader r) = h r
  same_current start n n' d d' e h (Party.Replica c) = refl

  pub work_later : (start : F) (n n' : ℕ) (d d' : List (Reader F)) (j : ℕ) (o : Op)
      → current start n' d' o.owner ≡ current start n d o.owner → AtWork start n d j o → AtWork start n' d' j o
  work_later start n n' d d' j o e x = record {
    busy = λ a b. e ∙ x.busy a b;
    latest = λ a b. omega (arith, e, x.latest a (omega (arith, e)));
  }

module _ {F : Type 0} (q : Rule) (R : ℕ) (law : Lawful q) (start : F) (w : World F) (s : State F) (h : History F)
    (g : Good q R start w s h) where
  abbrev pub v₁ : World F
  v₁ = ticked w

  pub up₁ : Later q w v₁
  up₁ = later_ticked q law w

  pub old_messages : All (λ m. Says q R v₁ m.kind m) s.messages
  old_messages = messages_later q R start w v₁ up₁ s.messages g.messages

  pub old_reader : (r : ℕ) → InPhase q v₁ r (reader s r).phase (reader s r)
  old_reader r = phase_later q R start w v₁ up₁ r (λ j b e. refl) (reader s r).phase (reader s r) (g.readers r)

  pub old_writer : Writing v₁ s.writer.operation s.writer.acknowledgers
  old_writer =
      writing_later q R start w v₁ up₁ (λ j b e. refl) s.writer.operation s.writer.acknowledgers g.writer

  pub old_figures : (c : ℕ) → True v₁ (replica s c).stamp (replica s c).figure
  old_figures c = true_later q R start w v₁ up₁ (g.figures c)

  pub ticks : (l : List (Replica F)) (d : List (Reader F)) (t : List (Message F)) (wr : Writer) (e : Event F)
      → Told q R v₁ (length h) e
      → length l ≡ q.size
      → length d ≡ R
      → wr.last ≡ s.writer.last
      → wr.operation ≡ s.writer.operation
      → ((r : ℕ) → (get_or d r (new_reader s.start)).operation ≡ (reader s r).operation)
      → ((c : ℕ) → v₁.at c ≡ rank (get_or l c (new_replica s.start)).stamp)
      → ((c : ℕ) → True v₁ (get_or l c (new_replica s.start)).stamp (get_or l c (new_replica s.start)).figure)
      → All (λ m. Says q R v₁ m.kind m) t
      → ((r : ℕ) → InPhase q v₁ r (get_or d r (new_reader s.start)).phase (get_or d r (new_reader s.start)))
      → Writing v₁ wr.operation wr.acknowledgers
      → Good q R start v₁ (record { start = s.start; message_room = s.message_room; journal_room = s.journal_room; writer = wr; replicas = l; readers = d; marks = s.marks; messages = t; journal = s.journal; finished = s.finished }) (h ++ e ∷ [])
  ticks l d t wr e told sized width same_last same_op same_ops at_is figures messages readers writer =
      advance q R start w v₁ up₁ s _ h e g (record {
        core = core_ticked q law w g.core;
        start_is = g.start_is;
        now_is = refl;
        count_is = g.count_is;
        last_is = g.last_is ∙ ap rank (sym same_last);
        at_is = at_is;
        figures = figures;
        replicas_are = sized;
        messages = messages;
        readers = readers;
        writer = writer;
        readers_are = width;
        marks = λ i. mark_later q R start w v₁ up₁ (i / R) (get_or s.marks i new_mark) (g.marks i);
        lines = λ j. line_later q R start w v₁ up₁ g.core j (line s j) (g.lines j);
        at_work = λ j. work_later s.start _ _ _ _ j (w.ops j) (same_current s.start _ _ _ _ same_op same_ops (w.ops j).owner) (g.at_work j);
        told = told;
        put = λ j l _. inl l;
        begun = λ j l. inl l;
        ended = λ j l. inl l;
      })

  -- One that changes only which messages wait.
  pub waits_only : (t : List (Message F)) (e : Event F) → Told q R v₁ (length h) e
      → All (λ m. Says q R v₁ m.kind m) t → Good q R start v₁ (with_messages s t) (h ++ e ∷ [])
  waits_only t e told messages =
      ticks s.replicas s.readers t s.writer e told g.replicas_are g.readers_are refl refl (λ r. refl)
      g.at_is old_figures messages old_reader old_writer

  pub keeps_declined : (c : Call F) (x : Refusal) → Keeps q R start h c (declined s x)
  keeps_declined c x = record {
    world = v₁;
    good = waits_only s.messages _ (record { answers = tt; sent_says = tt }) old_messages;
  }

  pub keeps_dropped : (place : ℕ) → Keeps q R start h (Call.Drop place) (dropped s place)
  unfolding dropped
  keeps_dropped place = record {
    world = v₁;
    good =
        waits_only _ _ (record { answers = tt; sent_says = tt })
        (all_without (λ m. Says q R v₁ m.kind m) s.messages place old_messages);
  }

  pub keeps_duplicated : (place : ℕ) → place < length s.messages
      → Keeps q R start h (Call.Duplicate place) (duplicated s place)
  unfolding duplicated
  keeps_duplicated place l = record {
    world = v₁;
    good = waits_only _ _ (record { answers = tt; sent_says = tt })
        (All-push (λ m. Says q R v₁ m.kind m) s.messages _ old_messages
        (All-get_or (λ m. Says q R v₁ m.kind m) s.messages place _ l old_messages));
  }

  same_phase : (r : ℕ) (p : Phase) (d : Reader F) → InPhase q v₁ r p d → InPhase q v₁ r p (reader_halted d)
  same_phase r Phase.Idle d x = tt
  same_phase r Phase.First d x = record {
    stage_is = x.stage_is;
    owner_is = x.owner_is;
    reads = x.reads;
    true_figure = x.true_figure;
    asked = x.asked;
    holding = x.holding;
  }
  same_phase r Phase.Second d x = record {
    stage_is = x.stage_is;
    owner_is = x.owner_is;
    reads = x.reads;
    true_figure = x.true_figure;
    aims = x.aims;
    placed = x.placed;
  }
  same_phase r Phase.Relay d x = record {
    stage_is = x.stage_is;
    owner_is = x.owner_is;
    reads = x.reads;
    true_figure = x.true_figure;
    high = x.high;
    placed = x.placed;
  }

  pub keeps_halt : (p : Party) → Keeps q R start h (Call.Halt p) (halt s p)
  unfolding halt
  keeps_halt Party.Writer = record {
    world = v₁;
    good =
        ticks s.replicas s.readers s.messages (writer_halted s.writer) _
        (record { answers = tt; sent_says = tt }) g.replicas_are g.readers_are refl refl (λ r. refl) g.at_is
        old_figures old_messages old_reader old_writer;
  }
  keeps_halt (Party.Reader r) = record {
    world = v₁;
    good =
        ticks s.replicas _ s.messages s.writer _ (record { answers = tt; sent_says = tt }) g.replicas_are
        (length-set s.readers r _ ∙ g.readers_are) refl refl
        (each_set_all (λ k y. y.operation ≡ (reader s k).operation) s.readers r _ _ refl (λ k. refl)) g.at_is
        old_figures old_messages
        (each_set_all (λ k x. InPhase q v₁ k x.phase x) s.readers r _ _ (same_phase r _ _ (old_reader r))
        old_reader)
        old_writer;
  }
  keeps_halt (Party.Replica c) = record {
    world = v₁;
    good =
        ticks _ s.readers s.messages s.writer _ (record { answers = tt; sent_says = tt })
        (length-set s.replicas c _ ∙ g.replicas_are) g.readers_are refl refl (λ r. refl)
        (each_set_all (λ k x. v₁.at k ≡ rank x.stamp) s.replicas c _ _ (g.at_is c) g.at_is)
        (each_set_all (λ k x. True v₁ x.stamp x.figure) s.replicas c _ _ (old_figures c) old_figures)
        old_messages old_reader old_writer;
  }

  -- Deliveries.
  module _ (place : ℕ) (taken : List (Message F)) where
    abbrev K : Effect F → Type 0
    K = Kept q R start h (delivery place taken)

    pub kept_quiet : K (quiet s)
    kept_quiet = record {
      world = v₁;
      good = waits_only s.messages _ (record { answers = tt; sent_says = tt }) old_messages;
    }

    pub kept_query : (m : Message F) → Says q R w MessageKind.Query m → K (on_query s m)
    unfolding on_query
    kept_query m x = record {
      world = v₁;
      good = waits_only s.messages _ (record {
        answers = tt;
        sent_says = (
          record {
            born = x;
            fresh =
                omega
                (arith, g.at_is (index m.receiver), (g.core.op m.operation).grown x (index m.receiver));
            grown = omega (arith, g.at_is (index m.receiver));
            true_figure = old_figures (index m.receiver);
            to_owner = (g.lines m.operation).owner_is x;
          },
          tt,
        );
      }) old_messages;
    }

    pub kept_fan : (m : Message F) → Asks R w m → K (on_fan q s m)
    unfolding on_fan
    kept_fan m x = record {
      world = v₁;
      good = waits_only s.messages _ (record {
        answers = tt;
        sent_says =
            all_to_all MessageKind.Relay m.operation m.receiver _ (λ m. Says q R v₁ m.kind m) q.size
            (λ c l. record {
              born = x.born;
              owner_low = x.owner_low;
              owner_reads = x.owner_reads;
              fresh =
                  omega (
                    arith,
                    g.at_is (index m.receiver),
                    (g.core.op m.operation).grown x.born
                        (index m.receiver),
                  );
              true_figure = old_figures (index m.receiver);
              to_low = l;
            });
      }) old_messages;
    }
