-- A write or a read that starts keeps what is known.
use Rattle.std.proofs.Common.{◌≡◌, ℕ, suc, pred, ◌+◌, ◌/◌, ◌<◌, ◌≤◌, max, false, ◌⊎◌, List, [], ◌∷◌, ◌++◌, length, get_or, set, sym, refl, ap, ◌∙◌, subst, inl, inr, arith, length-set, Ok}
use Rattle.std.specs.List.{AllByRecursion as All}
use Rattle.std.proofs.lemmas.Bool.{cases_eq, cases_Bool, both_ways}
use Rattle.quorum.specs.Sets.{Rule, bits}
use Rattle.quorum.specs.Laws.{Lawful}
use Rattle.model.specs.declared.parties.Party.{Party}
use Rattle.model.specs.declared.messages.MessageKind.{MessageKind}
use Rattle.model.specs.declared.journal.OperationKind.{OperationKind}
use Rattle.model.specs.declared.journal.ReadKind.{ReadKind}
use Rattle.model.specs.declared.writer.Writer.{Writer}
use Rattle.model.specs.declared.reader.Reader.{Reader}
use Rattle.model.specs.declared.messages.Message.{Message}
use Rattle.model.specs.declared.journal.Operation.{Operation}
use Rattle.model.specs.declared.calls.Call.{Call}
use Rattle.model.specs.declared.answers.Reply.{Reply}
use Rattle.model.specs.Stamps.{rank, no_stamp}
use Rattle.model.specs.State.{State, Held, index, unused, new_reader, new_mark, no_line, reader, line}
use Rattle.model.specs.Records.{writing, best, reading}
use Rattle.model.specs.Deliveries.{Effect}
use Rattle.model.specs.Steps.{next_number, to_write, write, opening_phase, opening_message, read}
use Rattle.model.specs.History.{Event, History}
use Rattle.model.proofs.Sets.{none}
use Rattle.std.proofs.lemmas.List.{get_or-set_same, get_or_append_left}
use Rattle.std.proofs.Math.Seq.{get_or-append_seam}
use Rattle.model.proofs.Lists.{each_set, length_push, one, all_to_all, in_to_all}
use Rattle.model.proofs.Ranks.{rank_start, rank_next}
use Rattle.model.proofs.World.{put_at, put_same, put_other, put_each, held, held_low, Op, World, Later, Core}
use Rattle.model.proofs.Moves.{read_op, write_op, read_begun, write_begun, later_read, core_read, later_write, core_write}
use Rattle.model.proofs.Good.{apart_writer, apart_reader, current, start_true, Says, InPhase, Writing, LineGood, AtWork, Opens, Closes, Puts, Good, Kept, true_later, mark_later, messages_later, Still, phase_later, writing_later, line_later, advance}
use Rattle.model.proofs.Steps.{work_later}
use Rattle.model.proofs.Ends.{line_none}
use Rattle.model.specs.Answers.{Answer}

abbrev pub opening : {F : Type 0} → Call F → Effect F → Event F
opening c e = record { call = c; reply = Ok e.reply; taken = []; sent = e.sent }

module _ {F : Type 0} (q : Rule) (R : ℕ) (law : Lawful q) (start : F) (w : World F) (s : State F) (h : History F)
    (g : Good q R start w s h) where
  module _ (o : Op) (last : ℕ) (value : ℕ → Held F) (wrote : ℕ → ℕ) (given : ℕ → F) where
    abbrev v₅ : World F
    v₅ = record {
      now = suc w.now;
      last = last;
      count = suc w.count;
      at = w.at;
      ops = put_at w.ops (suc w.count) o;
      value = value;
      wrote = wrote;
      given = given;
      since = w.since;
    }

    module _ (up : Later q w v₅) (core : Core q v₅) (born : 1 ≤ o.stage) (unfinished : o.stage ≤ 2)
        (begun_is : o.begun ≡ w.now) where
      number_is : suc w.count ≡ next_number s
      number_is = ap suc g.count_is

      pub here : v₅.ops (next_number s) ≡ o
      here = ap (put_at w.ops (suc w.count) o) (sym number_is) ∙ put_same w.ops (suc w.count) o

      pub still : (p : Party) → Still q R start w v₅ up p
      still p i b c =
          ap (λ y. y.stage) (put_other w.ops (suc w.count) o i (λ d. omega (arith, (g.core.op i).counted b)))

      module _ (nl : Operation F) (good_line : LineGood v₅ o nl) (d : List (Reader F)) (wr : Writer)
          (free : current s.start s.writer.operation s.readers o.owner ≡ 0)
          (at_new_one : current s.start wr.operation d o.owner ≡ next_number s)
          (others : (p : Party) → (o.owner ≡ p → ⊥) → current s.start wr.operation d p ≡ current s.start
          s.writer.operation s.readers p)
          (apart : (p : Party) → (o.owner ≡ p) ⊎ (o.owner ≡ p → ⊥)) where
        work₅ : (i : ℕ) → AtWork s.start wr.operation d i (v₅.ops i)
        work₅ = put_each (λ i o. AtWork s.start wr.operation d i o) w.ops (suc w.count) o
            (record {
              busy = λ _ _. at_new_one ∙ sym number_is;
              latest = λ _ _. omega (arith, at_new_one, number_is);
            })
            (λ i n. elim (apart (w.ops i).owner) [
              | inl e ↦
                  let z : current s.start s.writer.operation s.readers (w.ops i).owner ≡ 0 = subst
                  (λ p. current s.start s.writer.operation s.readers p ≡ 0) e free in
                  let y : current s.start wr.operation d (w.ops i).owner ≡ next_number s = subst
                  (λ p. current s.start wr.operation d p ≡ next_number s) e at_new_one in
                  record {
                    busy = λ b l. absurd (omega (arith, z, (g.at_work i).busy b l, (g.core.op i).named b));
                    latest = λ b _. omega (arith, y, (g.core.op i).counted b, g.count_is);
                  }
              | inr e ↦ work_later s.start _ _ _ _ i (w.ops i) (others (w.ops i).owner e) (g.at_work i)
            ])

        pub begins : (c : Call F) (sent : List (Message F)) → last ≡ rank wr.last
            → All (λ m. Says q R v₅ m.kind m) sent
            → Opens v₅ (next_number s) c sent
            → (2 ≤ o.stage → o.reading ≡ false → Puts (next_number s) sent)
            → length d ≡ R
            → ((k : ℕ) → InPhase q v₅ k (get_or d k (new_reader s.start)).phase (get_or d k (new_reader s.start)))
            → Writing v₅ wr.operation wr.acknowledgers
            → Good q R start v₅ (record {
              start = s.start;
              message_room = s.message_room;
              journal_room = s.journal_room;
              writer = wr;
              replicas = s.replicas;
              readers = d;
              marks = s.marks;
              messages = s.messages;
              journal = s.journal ++ nl ∷ [];
              finished = s.finished;
            })
            (h ++ record { call = c; reply = Ok (Reply.Started (next_number s)); taken = []; sent = sent } ∷ [])
        begins c sent last_is says opens puts width readers writer =
            advance q R start w v₅ up s _ h _ g (record {
              core = core;
              start_is = g.start_is;
              now_is = refl;
              count_is = omega (arith, g.count_is, length_push s.journal nl);
              last_is = last_is;
              at_is = g.at_is;
              figures = λ c. true_later q R start w v₅ up (g.figures c);
              replicas_are = g.replicas_are;
              messages = messages_later q R start w v₅ up s.messages g.messages;
              readers = readers;
              writer = writer;
              readers_are = width;
              marks = λ i. mark_later q R start w v₅ up (i / R) (get_or s.marks i new_mark) (g.marks i);
              lines =
                  put_each (λ i p. LineGood v₅ p (get_or (s.journal ++ nl ∷ []) (pred i) (no_line s.start)))
                  w.ops (suc w.count) o
                  (let c : pred (suc w.count) ≡ length s.journal = omega (arith, g.count_is) in
                  subst (LineGood v₅ o)
                  (sym
                  (ap (λ k. get_or (s.journal ++ nl ∷ []) k (no_line s.start)) c ∙ get_or-append_seam s.journal nl [] (no_line s.start)))
                  good_line)
                  (λ i n. elim (cases_eq (w.ops i).stage 0) [
                    | inl z ↦ line_none v₅ (w.ops i) _ z
                    | inr z ↦ subst (LineGood v₅ (w.ops i)) (sym (get_or_append_left s.journal (nl ∷ []) (no_line s.start) (pred i) (omega (arith, (g.core.op i).counted (omega arith), (g.core.op i).named (omega arith), g.count_is))))
                        (line_later q R start w v₅ up g.core i (line s i) (g.lines i))
                  ]);
              at_work = work₅;
              told = record {
                answers = record {
                  stage_is = omega (arith, ap (λ y. y.stage) here);
                  begun_is = ap (λ y. y.begun) here ∙ begun_is ∙ g.now_is;
                  opens = opens;
                };
                sent_says = says;
              };
              put =
                  put_each (λ i p. 2 ≤ p.stage → p.reading ≡ false → (2 ≤ (w.ops i).stage) ⊎ Puts i sent) w.ops (suc w.count) o
                  (λ l r. inr (rw number_is (puts l r))) (λ i _ l _. inl l);
              begun =
                  put_each
                  (λ i p. 1 ≤ p.stage → (1 ≤ (w.ops i).stage) ⊎
                  ((p.begun ≡ length h) × (◌≡◌ {A = Answer F} (Ok (Reply.Started (next_number s))) (Ok (Reply.Started i)))))
                  w.ops (suc w.count) o
                  (λ _. inr (begun_is ∙ g.now_is, λ i. Ok (Reply.Started (sym number_is i))))
                  (λ i _ l. inl l);
              ended =
                  put_each
                  (λ i p. 3 ≤ p.stage → (3 ≤ (w.ops i).stage) ⊎
                  ((p.ended ≡ length h) × Closes (record { call = c; reply = Ok (Reply.Started (next_number s)); taken = []; sent = sent }) i (value p.aim)))
                  w.ops (suc w.count) o
                  (λ l. absurd (omega arith)) (λ i _ l. inl l);
            })

  module _ (r : ℕ) (low : r < R) where
    abbrev v₆ : World F
    v₆ = read_begun w (Party.Reader r)

    asked : (kind : ReadKind) (m : Message F) → v₆.ops m.operation ≡ read_op w (Party.Reader r)
        → Says q R v₆ (opening_message kind) m
    asked ReadKind.Quick m e = omega (arith, ap (λ y. y.stage) e)
    asked ReadKind.Settled m e = omega (arith, ap (λ y. y.stage) e)
    asked ReadKind.Relay m e = record {
      born = omega (arith, ap (λ y. y.stage) e);
      owner_low = subst (λ p. index p < R) (sym (ap (λ y. y.owner) e)) low;
      owner_reads = subst (λ p. p ≡ Party.Reader (index p)) (sym (ap (λ y. y.owner) e)) refl;
    }

    opened : (kind : ReadKind) (d : Reader F) → best d ≡ unused start → d.replies ≡ 0
        → v₆.ops d.operation ≡ read_op w (Party.Reader r) → InPhase q v₆ r (opening_phase kind) d
    opened ReadKind.Quick d b z e = record {
      stage_is = ap (λ y. y.stage) e;
      owner_is = ap (λ y. y.owner) e;
      reads = ap (λ y. y.reading) e;
      true_figure = start_true v₆ start g.first_value (best d) b;
      asked = λ c m. absurd (both_ways (bits 0 c) (none c) (rw z at m));
      holding = λ c m. omega (arith, ap (λ y. rank y.stamp) b, rank_start);
    }
    opened ReadKind.Settled d b z e = record {
      stage_is = ap (λ y. y.stage) e;
      owner_is = ap (λ y. y.owner) e;
      reads = ap (λ y. y.reading) e;
      true_figure = start_true v₆ start g.first_value (best d) b;
      asked = λ c m. absurd (both_ways (bits 0 c) (none c) (rw z at m));
      holding = λ c m. omega (arith, ap (λ y. rank y.stamp) b, rank_start);
    }
    opened ReadKind.Relay d b z e = record {
      stage_is = ap (λ y. y.stage) e;
      owner_is = ap (λ y. y.owner) e;
      reads = ap (λ y. y.reading) e;
      true_figure = start_true v₆ start g.first_value (best d) b;
      high = λ n. absurd (n z);
      placed = λ c m. omega (arith, ap (λ y. rank y.stamp) b, rank_start);
    }

  module _ (r : ℕ) (low : r < R) (free : (reader s r).operation ≡ 0) (d : Reader F)
      (op_is : d.operation ≡ next_number s) where
    others_read : (p : Party) → (Party.Reader r ≡ p → ⊥)
        → current s.start s.writer.operation (set s.readers r d) p ≡ current s.start s.writer.operation s.readers p
    others_read Party.Writer n = refl
    others_read (Party.Reader k) n =
        each_set (λ i y. (i ≡ r → ⊥) → y.operation ≡ (get_or s.readers i (new_reader s.start)).operation)
        s.readers r d (new_reader s.start)
        (λ z. absurd (z refl)) (λ _ z. absurd (z refl)) (λ i _ _. refl) k (λ e. n (ap (λ i. Party.Reader i) (sym e)))
    others_read (Party.Replica c) n = refl

    now_read : current s.start s.writer.operation (set s.readers r d) (Party.Reader r) ≡ next_number s
    now_read =
        ap (λ y. y.operation) (get_or-set_same s.readers r d (new_reader s.start) (omega (arith, g.readers_are))) ∙
        op_is

  pub kept_read : (r : ℕ) (kind : ReadKind) → r < R → (reader s r).operation ≡ 0
      → Kept q R start h (opening (Call.Read r kind)) (read q s r kind)
  unfolding read
  kept_read r kind low free =
      let p : Party = Party.Reader r in
      let o = read_op w p in
      let up = later_read q law w g.core p in
      let v = read_begun w p in
      let core = core_read q law w g.core p in
      let hr = here o w.last w.value w.wrote w.given up core (omega arith) (omega arith) refl in
      let st = still o w.last w.value w.wrote w.given up core (omega arith) (omega arith) refl in
      let d = reading s.start (reader s r) (next_number s) (opening_phase kind) in
      record {
        world = v;
        good =
            begins o w.last w.value w.wrote w.given up core (omega arith) (omega arith) refl
            (record {
              kind = OperationKind.Read kind;
              owner = p;
              started = next_number s + s.finished;
              finished = 0;
              exchanges = 0;
              stamp = no_stamp;
              figure = s.start;
              sent = 0;
            })
            (record {
              owner_is = λ _. refl;
              write_rank = λ _ f. absurd (both_ways _ f refl);
              write_value = λ _ f. absurd (both_ways _ f refl);
            })
            (set s.readers r d) s.writer free (now_read r low free d refl) (others_read r low free d refl)
            (apart_reader r)
            (Call.Read r kind) _ g.last_is
            (all_to_all (opening_message kind) (next_number s) p (unused s.start) (λ m. Says q R v m.kind m)
            q.size (λ c _. asked r low kind _ hr))
            (record { reads = ap (λ y. y.reading) hr; owner_is = ap (λ y. y.owner) hr })
            (λ l. absurd (omega arith))
            (length-set s.readers r d ∙ g.readers_are)
            (each_set (λ k y. InPhase q v k y.phase y) s.readers r d _
            (opened r low kind d (ap unused g.start_is) refl hr)
            (λ _. tt)
            (λ k n. phase_later q R start w v up k (st (Party.Reader k)) _ _ (g.readers k)))
            (writing_later q R start w v up (st Party.Writer) s.writer.operation s.writer.acknowledgers
            g.writer);
      }

  others_write : (n : ℕ) (p : Party) → (Party.Writer ≡ p → ⊥)
      → current s.start n s.readers p ≡ current s.start s.writer.operation s.readers p
  others_write n Party.Writer z = absurd (z refl)
  others_write n (Party.Reader k) z = refl
  others_write n (Party.Replica c) z = refl

  pub kept_write : (f : F) → s.writer.operation ≡ 0 → Kept q R start h (opening (Call.Write f)) (write q s f)
  unfolding write
  kept_write f free =
      let x : Held F = to_write s f in
      let a : ℕ = rank x.stamp in
      let above : w.last < a = omega (arith, g.last_is, rank_next s.writer.last) in
      let fresh : w.wrote a ≡ 0 = elim (cases_eq (w.wrote a) 0) [
        | inl e ↦ e
        | inr n ↦ let z = (g.core.source a (omega arith)).low in absurd (omega arith)
      ] in
      let unheld : (t : ℕ) → a ≤ t → held q w.at t ≡ false = λ t l. elim (cases_Bool (held q w.at t)) [
        | inl e ↦ let m = held_low q law w.at t w.last g.core.low e in absurd (omega arith)
        | inr e ↦ e
      ] in
      let o = write_op w Party.Writer a in
      let value = put_at w.value a x in
      let wrote = put_at w.wrote a (suc w.count) in
      let given = put_at w.given (suc w.count) f in
      let up = later_write q law w g.core Party.Writer a (omega arith) fresh unheld x in
      let v = write_begun w Party.Writer a x in
      let core = core_write q law w g.core Party.Writer a (omega arith) fresh unheld x in
      let hr = here o (max w.last a) value wrote given up core (omega arith) (omega arith) refl in
      let st = still o (max w.last a) value wrote given up core (omega arith) (omega arith) refl in
      let value_is : x ≡ value a = sym (put_same w.value a x) in
      record {
        world = v;
        good =
            begins o (max w.last a) value wrote given up core (omega arith) (omega arith) refl
            (record {
              kind = OperationKind.Write;
              owner = Party.Writer;
              started = next_number s + s.finished;
              finished = 0;
              exchanges = 0;
              stamp = x.stamp;
              figure = f;
              sent = 0;
            })
            (record { owner_is = λ _. refl; write_rank = λ _ _. refl; write_value = λ _ _. value_is })
            s.readers (writing s.writer (next_number s) x.stamp) free refl (others_write (next_number s))
            apart_writer
            (Call.Write f) _ (omega arith)
            (all_to_all MessageKind.Put (next_number s) Party.Writer x (λ m. Says q R v m.kind m) q.size
            (λ c k. record {
              settled = omega (arith, ap (λ y. y.stage) hr);
              aims = sym (ap (λ y. y.aim) hr);
              true_figure = record {
                written = record {
                  low = omega arith;
                  by_one = λ _. omega (arith, put_same w.wrote a (suc w.count));
                };
                is = value_is;
              };
              to_low = k;
            }))
            (record {
              writes = ap (λ y. y.reading) hr;
              given_is = ap given (sym (ap suc g.count_is)) ∙ put_same w.given (suc w.count) f;
              owner_is = ap (λ y. y.owner) hr;
            })
            (λ _ _. (one MessageKind.Put (next_number s) Party.Writer x 0, in_to_all MessageKind.Put (next_number s) Party.Writer x q.size 0 law.least, refl, refl))
            g.readers_are
            (λ k. phase_later q R start w v up k (st (Party.Reader k)) _ _ (g.readers k))
            (record {
              stage_is = λ _. ap (λ y. y.stage) hr;
              owner_is = λ _. ap (λ y. y.owner) hr;
              writes = λ _. ap (λ y. y.reading) hr;
              acked = λ _ c m. absurd (both_ways (bits 0 c) (none c) m);
            });
      }
