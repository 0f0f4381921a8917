-- What is known of the tables and of the history, by the world; and that it stays known.
use Rattle.std.proofs.Common.{◌≡◌, ℕ, suc, ◌+◌, ◌/◌, ◌<◌, ◌≤◌, true, false, ◌⊎◌, List, [], ◌∷◌, ◌++◌, length, get_or, sym, refl, ap, ◌∙◌, subst, inl, inr, arith, Ok, Err}
use Rattle.std.specs.List.{AllByRecursion as All}
use Rattle.std.proofs.ByRecursion.{All-weaker}
use Rattle.std.proofs.lemmas.Bool.{cases_eq}
use Rattle.quorum.specs.Sets.{Rule, bits}
use Rattle.model.specs.declared.parties.Party.{Party}
use Rattle.model.specs.declared.reader.Phase.{Phase}
use Rattle.model.specs.declared.messages.MessageKind.{MessageKind}
use Rattle.model.specs.declared.reader.Reader.{Reader}
use Rattle.model.specs.declared.marks.RelayMark.{RelayMark}
use Rattle.model.specs.declared.messages.Message.{Message}
use Rattle.model.specs.declared.journal.Operation.{Operation}
use Rattle.model.specs.declared.calls.Call.{Call}
use Rattle.model.specs.declared.answers.Reply.{Reply}
use Rattle.model.specs.Stamps.{Stamp, rank}
use Rattle.model.specs.State.{State, Held, index, unused, new_reader, new_mark, replica, reader, line}
use Rattle.model.specs.Deliveries.{Effect}
use Rattle.model.specs.Steps.{Outcome}
use Rattle.model.specs.History.{Event, History, event}
use Rattle.model.specs.Claims.{At, In, Finishes, Put}
use Rattle.model.proofs.Lists.{length_push, at_old, at_new, at_cases}
use Rattle.model.proofs.Ranks.{rank_start}
use Rattle.model.proofs.World.{held, Op, World, Later, Written, written_later, Core}
use Rattle.model.specs.Answers.{Answer}

-- A number for each party.
abbrev pub code : Party → ℕ
code Party.Writer = 0
code (Party.Reader r) = suc (r + r)
code (Party.Replica c) = suc (suc (c + c))

pub apart_writer : (p : Party) → (Party.Writer ≡ p) ⊎ (Party.Writer ≡ p → ⊥)
apart_writer Party.Writer = inl refl
apart_writer (Party.Reader r) = inr (λ e. omega (arith, ap code e))
apart_writer (Party.Replica c) = inr (λ e. omega (arith, ap code e))

pub apart_reader : (r : ℕ) (p : Party) → (Party.Reader r ≡ p) ⊎ (Party.Reader r ≡ p → ⊥)
apart_reader r Party.Writer = inr (λ e. omega (arith, ap code e))
apart_reader r (Party.Reader k) =
    elim (cases_eq r k) [ inl e ↦ inl (ap (λ i. Party.Reader i) e) | inr n ↦ inr (λ e. n (omega (arith, ap code e))) ]
apart_reader r (Party.Replica c) = inr (λ e. omega (arith, ap code e))

-- The operation that a party is at.
abbrev pub current : {F : Type 0} → F → ℕ → List (Reader F) → Party → ℕ
current start writing readers Party.Writer = writing
current start writing readers (Party.Reader r) = (get_or readers r (new_reader start)).operation
current start writing readers (Party.Replica c) = 0

module _ {F : Type 0} where
  -- The figure is what was written under the stamp.
  pub record True (w : World F) (s : Stamp) (f : F) : Type 0 where
    pub written : Written w (rank s)
    pub is : record { stamp = s; figure = f } ≡ w.value (rank s)

  -- What the register starts with is true.
  pub start_true : (w : World F) (start : F) → w.value 0 ≡ unused start → (x : Held F) → x ≡ unused start
      → True w x.stamp x.figure
  start_true w start v x e =
      let z : rank x.stamp ≡ 0 = ap (λ y. rank y.stamp) e ∙ rank_start in
      record {
        written = record { low = omega arith; by_one = λ p. absurd (omega arith) };
        is = e ∙ sym v ∙ ap w.value (sym z);
      }

  pub record Store (q : Rule) (w : World F) (m : Message F) : Type 0 where
    pub settled : 2 ≤ (w.ops m.operation).stage
    pub aims : rank m.stamp ≡ (w.ops m.operation).aim
    pub true_figure : True w m.stamp m.figure
    pub to_low : index m.receiver < q.size

  pub record Ack (w : World F) (m : Message F) : Type 0 where
    pub settled : 2 ≤ (w.ops m.operation).stage
    pub reached : (w.ops m.operation).aim ≤ w.at (index m.sender)
    pub to_owner : m.receiver ≡ (w.ops m.operation).owner

  pub record Report (w : World F) (m : Message F) : Type 0 where
    pub born : 1 ≤ (w.ops m.operation).stage
    pub fresh : (w.ops m.operation).snap (index m.sender) ≤ rank m.stamp
    pub grown : rank m.stamp ≤ w.at (index m.sender)
    pub true_figure : True w m.stamp m.figure
    pub to_owner : m.receiver ≡ (w.ops m.operation).owner

  -- The owner is one of R readers.
  pub record Asks (R : ℕ) (w : World F) (m : Message F) : Type 0 where
    pub born : 1 ≤ (w.ops m.operation).stage
    pub owner_low : index (w.ops m.operation).owner < R
    pub owner_reads : (w.ops m.operation).owner ≡ Party.Reader (index (w.ops m.operation).owner)

  pub record Relayed (q : Rule) (R : ℕ) (w : World F) (m : Message F) : Type 0 where
    pub born : 1 ≤ (w.ops m.operation).stage
    pub owner_low : index (w.ops m.operation).owner < R
    pub owner_reads : (w.ops m.operation).owner ≡ Party.Reader (index (w.ops m.operation).owner)
    pub fresh : (w.ops m.operation).snap (index m.sender) ≤ rank m.stamp
    pub true_figure : True w m.stamp m.figure
    pub to_low : index m.receiver < q.size

  -- No stamp above the reply's was held when the operation began.
  pub record Settling (q : Rule) (w : World F) (m : Message F) : Type 0 where
    pub born : 1 ≤ (w.ops m.operation).stage
    pub high : (t : ℕ) → rank m.stamp < t → held q (w.ops m.operation).snap t ≡ false
    pub grown : rank m.stamp ≤ w.at (index m.sender)
    pub true_figure : True w m.stamp m.figure
    pub to_owner : m.receiver ≡ (w.ops m.operation).owner

  abbrev pub Says : Rule → ℕ → World F → MessageKind → Message F → Type 0
  Says q R w MessageKind.Put m = Store q w m
  Says q R w MessageKind.PutAck m = Ack w m
  Says q R w MessageKind.Query m = 1 ≤ (w.ops m.operation).stage
  Says q R w MessageKind.Have m = Report w m
  Says q R w MessageKind.Back m = Store q w m
  Says q R w MessageKind.BackAck m = Ack w m
  Says q R w MessageKind.Fan m = Asks R w m
  Says q R w MessageKind.Relay m = Relayed q R w m
  Says q R w MessageKind.Reply m = Settling q w m

  pub record First (w : World F) (r : ℕ) (d : Reader F) : Type 0 where
    pub stage_is : (w.ops d.operation).stage ≡ 1
    pub owner_is : (w.ops d.operation).owner ≡ Party.Reader r
    pub reads : (w.ops d.operation).reading ≡ true
    pub true_figure : True w d.best_stamp d.best_figure
    pub asked : (c : ℕ) → bits d.replies c ≡ true → (w.ops d.operation).snap c ≤ rank d.best_stamp
    pub holding : (c : ℕ) → bits d.holders c ≡ true → rank d.best_stamp ≤ w.at c

  pub record Second (w : World F) (r : ℕ) (d : Reader F) : Type 0 where
    pub stage_is : (w.ops d.operation).stage ≡ 2
    pub owner_is : (w.ops d.operation).owner ≡ Party.Reader r
    pub reads : (w.ops d.operation).reading ≡ true
    pub true_figure : True w d.best_stamp d.best_figure
    pub aims : rank d.best_stamp ≡ (w.ops d.operation).aim
    pub placed : (c : ℕ) → bits d.replies c ≡ true → rank d.best_stamp ≤ w.at c

  pub record Relaying (q : Rule) (w : World F) (r : ℕ) (d : Reader F) : Type 0 where
    pub stage_is : (w.ops d.operation).stage ≡ 1
    pub owner_is : (w.ops d.operation).owner ≡ Party.Reader r
    pub reads : (w.ops d.operation).reading ≡ true
    pub true_figure : True w d.best_stamp d.best_figure
    pub high : (d.replies ≡ 0 → ⊥) → (t : ℕ) → rank d.best_stamp < t
        → held q (w.ops d.operation).snap t ≡ false
    pub placed : (c : ℕ) → bits d.replies c ≡ true → rank d.best_stamp ≤ w.at c

  abbrev pub InPhase : Rule → World F → ℕ → Phase → Reader F → Type 0
  InPhase q w r Phase.Idle d = Unit {0}
  InPhase q w r Phase.First d = First w r d
  InPhase q w r Phase.Second d = Second w r d
  InPhase q w r Phase.Relay d = Relaying q w r d

  -- What has been relayed to replica c.
  pub record MarkGood (w : World F) (c : ℕ) (k : RelayMark) : Type 0 where
    pub low : k.operation ≤ w.count
    pub born : (i : ℕ) → bits k.relayers i ≡ true → 1 ≤ (w.ops k.operation).stage
    pub fresh : (i : ℕ) → bits k.relayers i ≡ true → (w.ops k.operation).snap i ≤ w.at c

  pub record Writing (w : World F) (n acks : ℕ) : Type 0 where
    pub stage_is : 0 < n → (w.ops n).stage ≡ 2
    pub owner_is : 0 < n → (w.ops n).owner ≡ Party.Writer
    pub writes : 0 < n → (w.ops n).reading ≡ false
    pub acked : 0 < n → (c : ℕ) → bits acks c ≡ true → (w.ops n).aim ≤ w.at c

  pub record LineGood (w : World F) (o : Op) (l : Operation F) : Type 0 where
    pub owner_is : 1 ≤ o.stage → l.owner ≡ o.owner
    pub write_rank : 2 ≤ o.stage → o.reading ≡ false → rank l.stamp ≡ o.aim
    pub write_value : 2 ≤ o.stage → o.reading ≡ false
        → record { stamp = l.stamp; figure = l.figure } ≡ w.value o.aim

  -- What the party of operation j, which is o, is at: j, if it is not finished, and no older one.
  pub record AtWork (start : F) (writing : ℕ) (readers : List (Reader F)) (j : ℕ) (o : Op) : Type 0 where
    pub busy : 1 ≤ o.stage → o.stage ≤ 2 → current start writing readers o.owner ≡ j
    pub latest : 1 ≤ o.stage → 0 < current start writing readers o.owner
        → j ≤ current start writing readers o.owner

  -- What the event at place m says by its answer.

  pub record Ends (w : World F) (m j : ℕ) (x : Held F) : Type 0 where
    pub stage_is : 3 ≤ (w.ops j).stage
    pub ended_is : (w.ops j).ended ≡ m
    pub aim_is : (w.ops j).aim ≡ rank x.stamp
    pub value_is : w.value (w.ops j).aim ≡ x

  -- Some PUT of operation j was sent.
  abbrev pub Puts : ℕ → List (Message F) → Type 0
  Puts j sent = (a : Message F) × In a sent × (a.kind ≡ MessageKind.Put) × (a.operation ≡ j)

  pub record OpensWrite (w : World F) (j : ℕ) (f : F) : Type 0 where
    pub writes : (w.ops j).reading ≡ false
    pub given_is : w.given j ≡ f
    pub owner_is : (w.ops j).owner ≡ Party.Writer

  pub record OpensRead (w : World F) (j r : ℕ) : Type 0 where
    pub reads : (w.ops j).reading ≡ true
    pub owner_is : (w.ops j).owner ≡ Party.Reader r

  abbrev pub Opens : World F → ℕ → Call F → List (Message F) → Type 0
  Opens w j (Call.Write f) sent = OpensWrite w j f
  Opens w j (Call.Read r kind) sent = OpensRead w j r
  Opens w j (Call.Deliver place) sent = ⊥
  Opens w j (Call.Drop place) sent = ⊥
  Opens w j (Call.Duplicate place) sent = ⊥
  Opens w j (Call.Halt p) sent = ⊥

  pub record Begins (w : World F) (m j : ℕ) (c : Call F) (sent : List (Message F)) : Type 0 where
    pub stage_is : 1 ≤ (w.ops j).stage
    pub begun_is : (w.ops j).begun ≡ m
    pub opens : Opens w j c sent

  abbrev pub Answers : World F → ℕ → Call F → List (Message F) → Answer F → Type 0
  Answers w m c sent (Ok (Reply.Started j)) = Begins w m j c sent
  Answers w m c sent (Ok (Reply.Finished j s f n x)) = Ends w m j (record { stamp = s; figure = f })
  Answers w m c sent (Ok Reply.Done) = Unit {0}
  Answers w m c sent (Err e) = Unit {0}

  pub record Told (q : Rule) (R : ℕ) (w : World F) (m : ℕ) (e : Event F) : Type 0 where
    pub answers : Answers w m e.call e.sent e.reply
    pub sent_says : All (λ a. Says q R w a.kind a) e.sent

  abbrev pub shown : World F → ℕ → Held F
  shown w j = w.value (w.ops j).aim

  abbrev pub BegunAt : History F → ℕ → ℕ → Type 0
  BegunAt h m j = (e : Event F) × At h m e × (e.reply ≡ Ok (Reply.Started j))

  -- The event finishes operation j with x.
  abbrev pub Closes : Event F → ℕ → Held F → Type 0
  Closes e j x =
      (place : ℕ) × (sent : ℕ) × (exchanges : ℕ) × (e.call ≡ Call.Deliver place)
      × (e.reply ≡ Ok (Reply.Finished j x.stamp x.figure sent exchanges))

  pub closed_at : (h : History F) (m : ℕ) (e : Event F) (j : ℕ) (x : Held F) → At h m e → Closes e j x
      → Finishes h m j x
  closed_at h m e j x a c = (e, c.0, c.1, c.2, a, c.3, c.4)

  module _ (q : Rule) (R : ℕ) (start : F) where
    pub record Good (w : World F) (s : State F) (h : History F) : Type 0 where
      pub core : Core q w
      pub first_value : w.value 0 ≡ unused start
      pub start_is : s.start ≡ start
      pub now_is : w.now ≡ length h
      pub count_is : w.count ≡ length s.journal
      pub last_is : w.last ≡ rank s.writer.last
      pub at_is : (c : ℕ) → w.at c ≡ rank (replica s c).stamp
      pub figures : (c : ℕ) → True w (replica s c).stamp (replica s c).figure
      pub replicas_are : length s.replicas ≡ q.size
      pub messages : All (λ m. Says q R w m.kind m) s.messages
      pub readers : (r : ℕ) → InPhase q w r (reader s r).phase (reader s r)
      pub writer : Writing w s.writer.operation s.writer.acknowledgers
      pub readers_are : length s.readers ≡ R
      pub marks : (i : ℕ) → MarkGood w (i / R) (get_or s.marks i new_mark)
      pub lines : (j : ℕ) → LineGood w (w.ops j) (line s j)
      pub at_work : (j : ℕ) → AtWork s.start s.writer.operation s.readers j (w.ops j)
      pub told : (m : ℕ) (e : Event F) → At h m e → Told q R w m e
      pub begun : (j : ℕ) → 1 ≤ (w.ops j).stage → BegunAt h (w.ops j).begun j
      -- the messages of a write whose stamp is settled went out
      pub put : (j : ℕ) → 2 ≤ (w.ops j).stage → (w.ops j).reading ≡ false → (a : Message F) × Put h j a
      pub ended : (j : ℕ) → 3 ≤ (w.ops j).stage → Finishes h (w.ops j).ended j (shown w j)

    -- After an effect, before what it sends joins the other messages.
    pub record Kept (h : History F) (of : Effect F → Event F) (e : Effect F) : Type 0 where
      pub world : World F
      pub good : Good world e.next (h ++ of e ∷ [])

    pub record Keeps (h : History F) (c : Call F) (o : Outcome F) : Type 0 where
      pub world : World F
      pub good : Good world o.next (h ++ event c o ∷ [])

    module _ (w v : World F) (up : Later q w v) where
      pub true_later : {s : Stamp} {f : F} → True w s f → True v s f
      true_later {s} t = record {
        written = written_later q w v up t.written;
        is = t.is ∙ sym (up.same_value (rank s) t.written);
      }

      store_later : (m : Message F) → Store q w m → Store q v m
      store_later m x = let u = up.ops_up m.operation in record {
        settled = omega (arith, x.settled, u.stage_up);
        aims = x.aims ∙ sym (u.same_aim x.settled);
        true_figure = true_later x.true_figure;
        to_low = x.to_low;
      }

      ack_later : (m : Message F) → Ack w m → Ack v m
      ack_later m x = let u = up.ops_up m.operation in record {
        settled = omega (arith, x.settled, u.stage_up);
        reached = omega (arith, x.reached, u.same_aim x.settled, up.at_up (index m.sender));
        to_owner = x.to_owner ∙ sym (u.same_owner (omega (arith, x.settled)));
      }

      pub says_later : (k : MessageKind) (m : Message F) → Says q R w k m → Says q R v k m
      says_later MessageKind.Put m x = store_later m x
      says_later MessageKind.PutAck m x = ack_later m x
      says_later MessageKind.Query m x = omega (arith, x, (up.ops_up m.operation).stage_up)
      says_later MessageKind.Have m x = let u = up.ops_up m.operation in record {
        born = omega (arith, x.born, u.stage_up);
        fresh = omega (arith, x.fresh, ap (λ f. f (index m.sender)) (u.same_snap x.born));
        grown = omega (arith, x.grown, up.at_up (index m.sender));
        true_figure = true_later x.true_figure;
        to_owner = x.to_owner ∙ sym (u.same_owner x.born);
      }
      says_later MessageKind.Back m x = store_later m x
      says_later MessageKind.BackAck m x = ack_later m x
      says_later MessageKind.Fan m x = let u = up.ops_up m.operation in record {
        born = omega (arith, x.born, u.stage_up);
        owner_low = subst (λ p. index p < R) (sym (u.same_owner x.born)) x.owner_low;
        owner_reads = subst (λ p. p ≡ Party.Reader (index p)) (sym (u.same_owner x.born)) x.owner_reads;
      }
      says_later MessageKind.Relay m x = let u = up.ops_up m.operation in record {
        born = omega (arith, x.born, u.stage_up);
        owner_low = subst (λ p. index p < R) (sym (u.same_owner x.born)) x.owner_low;
        owner_reads = subst (λ p. p ≡ Party.Reader (index p)) (sym (u.same_owner x.born)) x.owner_reads;
        fresh = omega (arith, x.fresh, ap (λ f. f (index m.sender)) (u.same_snap x.born));
        true_figure = true_later x.true_figure;
        to_low = x.to_low;
      }
      says_later MessageKind.Reply m x = let u = up.ops_up m.operation in record {
        born = omega (arith, x.born, u.stage_up);
        high = λ t l. ap (λ f. held q f t) (u.same_snap x.born) ∙ x.high t l;
        grown = omega (arith, x.grown, up.at_up (index m.sender));
        true_figure = true_later x.true_figure;
        to_owner = x.to_owner ∙ sym (u.same_owner x.born);
      }

      pub mark_later : (c : ℕ) (k : RelayMark) → MarkGood w c k → MarkGood v c k
      mark_later c k x = let u = up.ops_up k.operation in record {
        low = omega (arith, x.low, up.count_up);
        born = λ i m. omega (arith, x.born i m, u.stage_up);
        fresh = λ i m. omega (arith, x.fresh i m, up.at_up c, ap (λ f. f i) (u.same_snap (x.born i m)));
      }

      pub messages_later : (t : List (Message F)) → All (λ m. Says q R w m.kind m) t
          → All (λ m. Says q R v m.kind m) t
      messages_later t h =
          All-weaker (λ m. Says q R w m.kind m) (λ m. Says q R v m.kind m) (λ m. says_later m.kind m) t h

      -- The operations of party p are at the stages where they were.
      abbrev pub Still : Party → Type 0
      Still p = (j : ℕ) → 1 ≤ (w.ops j).stage → (w.ops j).owner ≡ p → (v.ops j).stage ≡ (w.ops j).stage

      pub phase_later : (r : ℕ) → Still (Party.Reader r) → (p : Phase) (d : Reader F) → InPhase q w r p d
          → InPhase q v r p d
      phase_later r st Phase.Idle d x = tt
      phase_later r st Phase.First d x =
          let u = up.ops_up d.operation in
          let b : 1 ≤ (w.ops d.operation).stage = omega (arith, x.stage_is) in
          record {
            stage_is = st d.operation b x.owner_is ∙ x.stage_is;
            owner_is = u.same_owner b ∙ x.owner_is;
            reads = u.same_reading b ∙ x.reads;
            true_figure = true_later x.true_figure;
            asked = λ c m. omega (arith, x.asked c m, ap (λ f. f c) (u.same_snap b));
            holding = λ c m. omega (arith, x.holding c m, up.at_up c);
          }
      phase_later r st Phase.Second d x =
          let u = up.ops_up d.operation in
          let b : 1 ≤ (w.ops d.operation).stage = omega (arith, x.stage_is) in
          record {
            stage_is = st d.operation b x.owner_is ∙ x.stage_is;
            owner_is = u.same_owner b ∙ x.owner_is;
            reads = u.same_reading b ∙ x.reads;
            true_figure = true_later x.true_figure;
            aims = omega (arith, x.aims, u.same_aim (omega (arith, x.stage_is)));
            placed = λ c m. omega (arith, x.placed c m, up.at_up c);
          }
      phase_later r st Phase.Relay d x =
          let u = up.ops_up d.operation in
          let b : 1 ≤ (w.ops d.operation).stage = omega (arith, x.stage_is) in
          record {
            stage_is = st d.operation b x.owner_is ∙ x.stage_is;
            owner_is = u.same_owner b ∙ x.owner_is;
            reads = u.same_reading b ∙ x.reads;
            true_figure = true_later x.true_figure;
            high = λ n t l. ap (λ f. held q f t) (u.same_snap b) ∙ x.high n t l;
            placed = λ c m. omega (arith, x.placed c m, up.at_up c);
          }

      pub writing_later : Still Party.Writer → (n acks : ℕ) → Writing w n acks → Writing v n acks
      writing_later st n acks x =
          let u = up.ops_up n in
          record {
            stage_is = λ p. st n (omega (arith, x.stage_is p)) (x.owner_is p) ∙ x.stage_is p;
            owner_is = λ p. u.same_owner (omega (arith, x.stage_is p)) ∙ x.owner_is p;
            writes = λ p. u.same_reading (omega (arith, x.stage_is p)) ∙ x.writes p;
            acked = λ p c m. omega (arith, x.acked p c m, up.at_up c, u.same_aim (omega (arith, x.stage_is p)));
          }

      -- A line whose operation stays as it is.
      pub line_later : Core q w → (j : ℕ) (l : Operation F) → LineGood w (w.ops j) l → LineGood v (w.ops j) l
      line_later g j l x =
          let o = g.op j in
          record {
            owner_is = x.owner_is;
            write_rank = x.write_rank;
            write_value = λ s e. x.write_value s e ∙ sym (up.same_value (w.ops j).aim (o.aim_written s));
          }

      opens_later : (j : ℕ) → 1 ≤ (w.ops j).stage → (c : Call F) (sent : List (Message F)) → Opens w j c sent
          → Opens v j c sent
      opens_later j b (Call.Write f) sent x = let u = up.ops_up j in record {
        writes = u.same_reading b ∙ x.writes;
        given_is = up.same_given j b ∙ x.given_is;
        owner_is = u.same_owner b ∙ x.owner_is;
      }
      opens_later j b (Call.Read r kind) sent x = let u = up.ops_up j in record { reads = u.same_reading b ∙ x.reads; owner_is = u.same_owner b ∙ x.owner_is }
      opens_later j b (Call.Deliver place) sent x = x
      opens_later j b (Call.Drop place) sent x = x
      opens_later j b (Call.Duplicate place) sent x = x
      opens_later j b (Call.Halt p) sent x = x

      answers_later : Core q w → (m : ℕ) (c : Call F) (sent : List (Message F)) (r : Answer F) → Answers w m c sent r
          → Answers v m c sent r
      answers_later g m c sent (Ok (Reply.Started j)) x = let u = up.ops_up j in record {
        stage_is = omega (arith, x.stage_is, u.stage_up);
        begun_is = u.same_begun x.stage_is ∙ x.begun_is;
        opens = opens_later j x.stage_is c sent x.opens;
      }
      answers_later g m c sent (Ok (Reply.Finished j s f n y)) x =
          let u = up.ops_up j in
          let a = u.same_aim (omega (arith, x.stage_is)) in
          record {
            stage_is = omega (arith, x.stage_is, u.stage_up);
            ended_is = u.same_ended x.stage_is ∙ x.ended_is;
            aim_is = a ∙ x.aim_is;
            value_is =
                ap v.value a ∙ up.same_value (w.ops j).aim
                ((g.op j).aim_written (omega (arith, x.stage_is))) ∙ x.value_is;
          }
      answers_later g m c sent (Ok Reply.Done) x = tt
      answers_later g m c sent (Err e) x = tt

      pub told_later : Core q w → (m : ℕ) (e : Event F) → Told q R w m e → Told q R v m e
      told_later g m e x = record {
        answers = answers_later g m e.call e.sent e.reply x.answers;
        sent_says = messages_later e.sent x.sent_says;
      }

      -- What a step has to give.
      pub record Gives (s : State F) (h : History F) (e : Event F) : Type 0 where
        pub core : Core q v
        pub start_is : s.start ≡ start
        pub now_is : v.now ≡ suc w.now
        pub count_is : v.count ≡ length s.journal
        pub last_is : v.last ≡ rank s.writer.last
        pub at_is : (c : ℕ) → v.at c ≡ rank (replica s c).stamp
        pub figures : (c : ℕ) → True v (replica s c).stamp (replica s c).figure
        pub replicas_are : length s.replicas ≡ q.size
        pub messages : All (λ m. Says q R v m.kind m) s.messages
        pub readers : (r : ℕ) → InPhase q v r (reader s r).phase (reader s r)
        pub writer : Writing v s.writer.operation s.writer.acknowledgers
        pub readers_are : length s.readers ≡ R
        pub marks : (i : ℕ) → MarkGood v (i / R) (get_or s.marks i new_mark)
        pub lines : (j : ℕ) → LineGood v (v.ops j) (line s j)
        pub at_work : (j : ℕ) → AtWork s.start s.writer.operation s.readers j (v.ops j)
        pub told : Told q R v (length h) e
        pub put : (j : ℕ) → 2 ≤ (v.ops j).stage → (v.ops j).reading ≡ false → (2 ≤ (w.ops j).stage) ⊎ Puts j e.sent
        pub begun : (j : ℕ) → 1 ≤ (v.ops j).stage
            → (1 ≤ (w.ops j).stage) ⊎ (((v.ops j).begun ≡ length h) × (e.reply ≡ Ok (Reply.Started j)))
        pub ended : (j : ℕ) → 3 ≤ (v.ops j).stage
            → (3 ≤ (w.ops j).stage) ⊎ (((v.ops j).ended ≡ length h) × Closes e j (shown v j))

      pub advance : (s s' : State F) (h : History F) (e : Event F) → Good w s h → Gives s' h e
          → Good v s' (h ++ e ∷ [])
      advance s s' h e g n = record {
        core = n.core;
        first_value = up.same_value 0 (record { low = omega arith; by_one = λ p. absurd (omega arith) }) ∙ g.first_value;
        start_is = n.start_is;
        now_is = omega (arith, n.now_is, g.now_is, length_push h e);
        count_is = n.count_is;
        last_is = n.last_is;
        at_is = n.at_is;
        figures = n.figures;
        replicas_are = n.replicas_are;
        messages = n.messages;
        readers = n.readers;
        writer = n.writer;
        readers_are = n.readers_are;
        marks = n.marks;
        lines = n.lines;
        at_work = n.at_work;
        told = λ m x a. elim (at_cases h e m x a) [
          | inl o ↦ told_later g.core m x (g.told m x o)
          | inr d ↦ subst (λ y. Told q R v m y) d.1 (subst (λ y. Told q R v y e) (sym d.0) n.told)
        ];
        put = λ j l r. elim (n.put j l r) [
          | inl o ↦ let p = g.put j o (sym ((up.ops_up j).same_reading (omega arith)) ∙ r) in
              let t = p.1 in (p.0, (t.0, t.1, at_old h e t.0 t.1 t.2, t.3, t.4, t.5))
          | inr p ↦ (p.0, (length h, e, at_new h e, p.1, p.2, p.3))
        ];
        begun = λ j l. elim (n.begun j l) [
          | inl o ↦ let b =
              g.begun j o in rw ((up.ops_up j).same_begun o)
              (b.0, at_old h e (w.ops j).begun b.0 b.1, b.2)
          | inr d ↦ rw d.0 (e, at_new h e, d.1)
        ];
        ended = λ j l. elim (n.ended j l) [
          | inl o ↦
              let b = g.ended j o in
              let a = (up.ops_up j).same_aim (omega arith) in
              let k : shown v j ≡ shown w j = ap v.value a ∙ up.same_value (w.ops j).aim
              ((g.core.op j).aim_written (omega arith)) in
              rw ((up.ops_up j).same_ended o)
              (subst (Finishes (h ++ e ∷ []) (w.ops j).ended j) (sym k)
              (b.0, b.1, b.2, b.3, at_old h e (w.ops j).ended b.0 b.4, b.5, b.6))
          | inr d ↦ rw d.0 (closed_at (h ++ e ∷ []) (length h) e j (shown v j) (at_new h e) d.1)
        ];
      }
