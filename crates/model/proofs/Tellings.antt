-- What a history tells of its operations is what is known of them.
use Rattle.std.proofs.Common.{◌≡◌, ℕ, ◌<◌, ◌≤◌, Bool, true, false, List, length, Some, None, Option, sym, refl, ap, ap₂, ◌∙◌, subst, inl, inr, arith, Ok, Err}
use Rattle.std.proofs.lemmas.Bool.{cases_eq, cases_lt, both_ways}
use Rattle.quorum.specs.Sets.{Rule}
use Rattle.quorum.specs.Laws.{Lawful}
use Rattle.model.specs.declared.parties.Party.{Party}
use Rattle.model.specs.declared.journal.ReadKind.{ReadKind}
use Rattle.model.specs.declared.journal.OperationKind.{OperationKind}
use Rattle.model.specs.declared.messages.Message.{Message}
use Rattle.model.specs.declared.calls.Call.{Call}
use Rattle.model.specs.declared.answers.Reply.{Reply}
use Rattle.model.specs.Stamps.{rank}
use Rattle.model.specs.State.{State, Held, line}
use Rattle.model.specs.Sound.{is_read}
use Rattle.model.specs.History.{Event, History}
use Rattle.model.specs.Claims.{At, asked, Starts, Finishes, Finished, Put, Writes, Shows, Numbered, AsWritten}
use Rattle.model.proofs.Lists.{all_in, at_same}
use Rattle.model.proofs.World.{Op, World}
use Rattle.model.proofs.Good.{Says, Ends, Opens, Begins, Answers, current, shown, Good}
use Rattle.model.specs.Answers.{Answer}

-- The parts of what is asked for.

abbrev owner_asked : Option (Party × OperationKind) → Party
owner_asked (Some x) = x.0
owner_asked None = Party.Writer

abbrev read_asked : Option (Party × OperationKind) → Bool
read_asked (Some x) = is_read x.1
read_asked None = false

abbrev is_start : {F : Type 0} → Answer F → Bool
is_start (Ok (Reply.Started n)) = true
is_start (Ok (Reply.Finished n t f sent exchanges)) = false
is_start (Ok Reply.Done) = false
is_start (Err e) = false

module _ {F : Type 0} (q : Rule) (R : ℕ) (law : Lawful q) (start : F) (w : World F) (s : State F) (h : History F)
    (g : Good q R start w s h) where
  abbrev op : ℕ → Op
  op = w.ops

  answers_at : (m : ℕ) (e : Event F) (r : Answer F) → At h m e → e.reply ≡ r → Answers w m e.call e.sent r
  answers_at m e r a d = subst (Answers w m e.call e.sent) d (g.told m e a).answers

  pub ends_at : (m n : ℕ) (x : Held F) → Finishes h m n x → Ends w m n x
  ends_at m n x f = answers_at m f.0 (Ok (Reply.Finished n x.stamp x.figure f.2 f.3)) f.4 f.6

  pub begins_at : (m : ℕ) (e : Event F) (n : ℕ) → At h m e → e.reply ≡ Ok (Reply.Started n)
      → Begins w m n e.call e.sent
  begins_at m e n a d = answers_at m e (Ok (Reply.Started n)) a d

  -- A write that has begun, a read that has begun, and a read that has finished are in the history.

  put_settled : (n : ℕ) (a : Message F) → Put h n a → 2 ≤ (op n).stage
  put_settled n a p =
      let says = all_in (λ y. Says q R w y.kind y) p.1.sent a (g.told p.0 p.1 p.2).sent_says p.3
      in
      let store = subst (λ k. Says q R w k a) p.4 says in
      omega (arith, store.settled, ap (λ i. (op i).stage) p.5)

  puts_aim : (n : ℕ) (a : Message F) → Put h n a → (rank a.stamp ≡ (op n).aim) × (a.stamp ≡ (shown w n).stamp)
  puts_aim n a p =
      let says = all_in (λ y. Says q R w y.kind y) p.1.sent a (g.told p.0 p.1 p.2).sent_says p.3
      in
      let store = subst (λ k. Says q R w k a) p.4 says in
      let aims = store.aims ∙ ap (λ i. (op i).aim) p.5 in
      (aims, ap (λ y. y.stamp) (store.true_figure.is ∙ ap w.value aims))

  write_shown : (n m : ℕ) (e : Event F) → At h m e → e.reply ≡ Ok (Reply.Started n) → 2 ≤ (op n).stage → (op n).reading ≡ false
      → (c : Call F) → e.call ≡ c → Opens w n c e.sent → Writes h n (shown w n)
  write_shown n m e a d b r (Call.Write f) i o =
      let p = g.put n b r in (
        m,
        e,
        a,
        i ∙ ap (λ y. Call.Write y) (sym (g.core.figures n b r ∙ o.given_is)),
        d,
        (p, λ b z. (puts_aim n b z).1),
      )
  write_shown n m e a d b r (Call.Read k kind) i o = absurd (both_ways (op n).reading r o.reads)
  write_shown n m e a d b r (Call.Deliver p) i o = absurd o
  write_shown n m e a d b r (Call.Drop p) i o = absurd o
  write_shown n m e a d b r (Call.Duplicate p) i o = absurd o
  write_shown n m e a d b r (Call.Halt p) i o = absurd o

  pub writes : (n : ℕ) → 2 ≤ (op n).stage → (op n).reading ≡ false → Writes h n (shown w n)
  writes n b r =
      let s = g.begun n (omega arith) in
      write_shown n (op n).begun s.0 s.1 s.2 b r s.0.call refl
      (begins_at _ s.0 n s.1 s.2).opens

  -- The owner and the kind that a start names are those of the operation.
  opens_asked : (n : ℕ) (c : Call F) (sent : List (Message F)) (p : Party) (k : OperationKind) → asked c ≡ Some (p, k)
      → Opens w n c sent
      → ((op n).owner ≡ p) × ((op n).reading ≡ is_read k)
  opens_asked n (Call.Write f) sent p k e o = (o.owner_is ∙ ap owner_asked e, o.writes ∙ ap read_asked e)
  opens_asked n (Call.Read r kind) sent p k e o = (o.owner_is ∙ ap owner_asked e, o.reads ∙ ap read_asked e)
  opens_asked n (Call.Deliver place) sent p k e o = absurd o
  opens_asked n (Call.Drop place) sent p k e o = absurd o
  opens_asked n (Call.Duplicate place) sent p k e o = absurd o
  opens_asked n (Call.Halt party) sent p k e o = absurd o

  pub record Begun (m n : ℕ) (p : Party) (k : OperationKind) : Type 0 where
    pub stage_is : 1 ≤ (op n).stage
    pub begun_is : (op n).begun ≡ m
    pub owner_is : (op n).owner ≡ p
    pub reading_is : (op n).reading ≡ is_read k

  pub starts_at : (m n : ℕ) (p : Party) (k : OperationKind) → Starts h m n p k → Begun m n p k
  starts_at m n p k st =
      let b = begins_at m st.0 n st.1 st.3 in
      let o = opens_asked n st.0.call st.0.sent p k st.2 b.opens in
      record { stage_is = b.stage_is; begun_is = b.begun_is; owner_is = o.0; reading_is = o.1 }

  abbrev StartsAt : ℕ → ℕ → Type 0
  StartsAt m n = (p : Party) × (k : OperationKind) × Starts h m n p k

  start_shown : (n m : ℕ) (e : Event F) → At h m e → e.reply ≡ Ok (Reply.Started n) → (c : Call F) → e.call ≡ c
      → Opens w n c e.sent → StartsAt m n
  start_shown n m e a d (Call.Write f) i o = (Party.Writer, OperationKind.Write, (e, a, ap asked i, d))
  start_shown n m e a d (Call.Read r kind) i o = (Party.Reader r, OperationKind.Read kind, (e, a, ap asked i, d))
  start_shown n m e a d (Call.Deliver p) i o = absurd o
  start_shown n m e a d (Call.Drop p) i o = absurd o
  start_shown n m e a d (Call.Duplicate p) i o = absurd o
  start_shown n m e a d (Call.Halt p) i o = absurd o

  starts : (n : ℕ) → 1 ≤ (op n).stage → StartsAt (op n).begun n
  starts n b =
      let s = g.begun n b in
      start_shown n (op n).begun s.0 s.1 s.2 s.0.call refl (begins_at _ s.0 n s.1 s.2).opens

  read_starts : (m n : ℕ) (p : Party) (k : OperationKind) → is_read k ≡ true → Starts h m n p k
      → (i : ℕ) × (owner : Party) × (kind : ReadKind) × Starts h i n owner (OperationKind.Read kind)
  read_starts m n p OperationKind.Write e st = absurd (both_ways false refl e)
  read_starts m n p (OperationKind.Read kind) e st = (m, p, kind, st)

  pub shows : (n : ℕ) → 3 ≤ (op n).stage → (op n).reading ≡ true → Shows h n (shown w n)
  shows n l r =
      let b = starts n (omega arith) in
      let k = (starts_at (op n).begun n b.0 b.1 b.2).reading_is in
      (read_starts (op n).begun n b.0 b.1 (sym k ∙ r) b.2, ((op n).ended, g.ended n l))

  -- And conversely.

  pub write_is : (n : ℕ) (x : Held F) → Writes h n x
      → (2 ≤ (op n).stage) × ((op n).reading ≡ false) × (rank x.stamp ≡ (op n).aim)
  write_is n x v =
      let b = begins_at v.0 v.1 n v.2 v.4 in
      let o = subst (λ c. Opens w n c v.1.sent) v.3 b.opens in
      let p = v.5.0 in
      (put_settled n p.0 p.1, o.writes, ap rank (sym (v.5.1 p.0 p.1)) ∙ (puts_aim n p.0 p.1).0)

  pub as_written : AsWritten h
  as_written m n x y v f =
      let b = begins_at v.0 v.1 n v.2 v.4 in
      let o = subst (λ c. Opens w n c v.1.sent) v.3 b.opens in
      let p = v.5.0 in
      let stamp : (shown w n).stamp ≡ x.stamp = sym (puts_aim n p.0 p.1).1 ∙ v.5.1 p.0 p.1 in
      sym (ends_at m n y f).value_is
      ∙ ap₂ (λ t z. record { stamp = t; figure = z }) stamp (g.core.figures n (put_settled n p.0 p.1) o.writes ∙ o.given_is)

  pub read_is : (n : ℕ) (x : Held F) → Shows h n x → (op n).reading ≡ true
  read_is n x v = let b = v.0 in (starts_at b.0 n b.1 (OperationKind.Read b.2) b.3).reading_is

  -- The numbers tell the operations apart.

  before_end : (n : ℕ) (x : Held F) (m : ℕ) → Finishes h m n x → (op n).begun < m
  before_end n x m f =
      let y = ends_at m n x f in
      let b = g.begun n (omega (arith, y.stage_is)) in
      elim (cases_eq (op n).begun m) [
        | inr d ↦ omega (arith, (g.core.op n).ended_after y.stage_is, y.ended_is)
        | inl d ↦
            let e = at_same h m f.0 b.0 f.4 (subst (λ k. At h k b.0) d b.1) in
            absurd
            (both_ways false refl
            (sym (ap is_start f.6) ∙ ap (λ (v : Event F). is_start v.reply) e ∙ ap is_start b.2))
      ]

  -- An owner is at work on what it started and has not finished.
  at_work_on : (m n : ℕ) (p : Party) (k : OperationKind) → Starts h m n p k → (Finished h n → ⊥)
      → current s.start s.writer.operation s.readers p ≡ n
  at_work_on m n p k a u =
      let x = starts_at m n p k a in
      elim (cases_lt (op n).stage 3) [
        | inl l ↦ ap (current s.start s.writer.operation s.readers) (sym x.owner_is) ∙ (g.at_work n).busy x.stage_is (omega arith)
        | inr l ↦ absurd (u ((op n).ended, shown w n, g.ended n l))
      ]

  pub numbered : ((m n : ℕ) (p : Party) (k : OperationKind) → Starts h m n p k
      → (1 ≤ n) × (n ≤ length s.journal) × ((line s n).kind ≡ k))
      → Numbered h s
  numbered known = record {
    in_journal = λ m n p k st. let a = known m n p k st in (a.0, a.1);
    its_line = λ m n p k st.
        let b = starts_at m n p k st in
        ((known m n p k st).2, (g.lines n).owner_is b.stage_is ∙ b.owner_is);
    given_once = λ l m n p r j k a b. sym (starts_at l n p j a).begun_is ∙ (starts_at m n r k b).begun_is;
    finished_once = λ l m n x y a b.
        let c = ends_at l n x a in
        let d = ends_at m n y b in
        (sym c.ended_is ∙ d.ended_is, sym c.value_is ∙ d.value_is);
    started_first = λ m n x f.
        let y = ends_at m n x f in
        let b = starts n (omega (arith, y.stage_is)) in
        ((op n).begun, b.0, b.1, b.2, before_end n x m f);
    one_unfinished = λ l m i j p a b x y u v. sym (at_work_on l i p a x u) ∙ at_work_on m j p b y v;
  }
