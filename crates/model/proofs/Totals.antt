-- Sums over messages, and the counts that they add to the journal.
use Rattle.std.proofs.Common.{◌≡◌, ℕ, zero, suc, pred, ◌+◌, ◌*◌, ◌<◌, ◌≤◌, min, Bool, true, false, cond, eqb, List, [], ◌∷◌, ◌++◌, length, get_or, set, sym, refl, ap, ◌∙◌, inl, inr, arith, length-set}
use Rattle.std.specs.List.{AllByRecursion as All}
use Rattle.std.proofs.lemmas.List.{get_or_default, get_or-set_same, get_or-set_other}
use Rattle.std.proofs.lemmas.Bool.{eq-eqb, ne_eqb, cases_eq, cond-true, cond-false}
use Rattle.model.specs.declared.parties.Party.{Party}
use Rattle.model.specs.declared.messages.MessageKind.{MessageKind}
use Rattle.model.specs.declared.messages.Message.{Message}
use Rattle.model.specs.declared.journal.Operation.{Operation}
use Rattle.model.specs.State.{Held, no_line, without}
use Rattle.model.specs.Records.{one_sent, ended}
use Rattle.model.specs.Deliveries.{to_all}
use Rattle.model.specs.Steps.{counted}
use Rattle.model.specs.Claims.{of_operation}
use Rattle.model.proofs.Lists.{all_to_all}

-- Tables

module _ {A : Type 0} where
  -- What is alike before and after at the place that is set is alike everywhere.
  pub set_keeps : {B : Type 0} (g : A → B) (l : List A) (i : ℕ) (x e d : A) → g x ≡ g (get_or l i e) → (k : ℕ)
      → g (get_or (set l i x) k d) ≡ g (get_or l k d)
  set_keeps g [] zero x e d h k = refl
  set_keeps g [] (suc i) x e d h k = refl
  set_keeps g (y ∷ l) zero x e d h zero = h
  set_keeps g (y ∷ l) zero x e d h (suc k) = refl
  set_keeps g (y ∷ l) (suc i) x e d h zero = refl
  set_keeps g (y ∷ l) (suc i) x e d h (suc k) = set_keeps g l i x e d h k

  -- What has not grown at the place that is set has grown nowhere.
  pub set_below : (g : A → ℕ) (l : List A) (i : ℕ) (x d : A) → g x ≤ g (get_or l i d) → (k : ℕ)
      → g (get_or (set l i x) k d) ≤ g (get_or l k d)
  set_below g [] zero x d h k = omega arith
  set_below g [] (suc i) x d h k = omega arith
  set_below g (y ∷ l) zero x d h zero = h
  set_below g (y ∷ l) zero x d h (suc k) = omega arith
  set_below g (y ∷ l) (suc i) x d h zero = omega arith
  set_below g (y ∷ l) (suc i) x d h (suc k) = set_below g l i x d h k

-- What messages can cause

-- How many messages one of this kind can cause by its own delivery, with so many replicas.
abbrev pub weight : ℕ → MessageKind → ℕ
weight size MessageKind.Put = 1
weight size MessageKind.PutAck = 0
weight size MessageKind.Query = 1
weight size MessageKind.Have = 0
weight size MessageKind.Back = 1
weight size MessageKind.BackAck = 0
weight size MessageKind.Fan = size
weight size MessageKind.Relay = 0
weight size MessageKind.Reply = 0

-- A number that counts for operation n only.
abbrev pub only_for : ℕ → ℕ → ℕ → ℕ
only_for n k w = cond (eqb k n) w 0

pub only_same : (n k w : ℕ) → k ≡ n → only_for n k w ≡ w
only_same n k w e = cond-true (eqb k n) w 0 (eq-eqb k n e)

pub only_other : (n k w : ℕ) → (k ≡ n → ⊥) → only_for n k w ≡ 0
only_other n k w e = cond-false (eqb k n) w 0 (ne_eqb k n e)

abbrev pub load_of : {F : Type 0} → ℕ → ℕ → Message F → ℕ
load_of size n a = only_for n a.operation (weight size a.kind)

unfoldable pub load : {F : Type 0} → ℕ → ℕ → List (Message F) → ℕ
load size n [] = 0
load size n (a ∷ l) = load_of size n a + load size n l

pub more_same : (b : Bool) (c w : ℕ) → cond b (c * w) 0 + (cond b w 0 + 0) ≡ cond b (suc c * w) 0
more_same true c w = omega arith
more_same false c w = omega arith

module _ {F : Type 0} where
  pub of_operation_append : (n : ℕ) (l k : List (Message F))
      → of_operation n (l ++ k) ≡ of_operation n l + of_operation n k
  unfolding of_operation
  of_operation_append n [] k = omega arith
  of_operation_append n (a ∷ l) k = omega (arith, of_operation_append n l k)

  pub load_append : (size n : ℕ) (l k : List (Message F)) → load size n (l ++ k) ≡ load size n l + load size n k
  unfolding load
  load_append size n [] k = omega arith
  load_append size n (a ∷ l) k = omega (arith, load_append size n l k)

  pub load_without : (size n : ℕ) (l : List (Message F)) (place : ℕ) (d : Message F) → place < length l
      → load size n (without l place) + load_of size n (get_or l place d) ≡ load size n l
  unfolding load without
  load_without size n [] place d h = absurd (omega arith)
  load_without size n (a ∷ l) zero d h = omega arith
  load_without size n (a ∷ l) (suc place) d h = omega (arith, load_without size n l place d (omega arith))

  pub of_operation_to_all : (n c : ℕ) (kind : MessageKind) (k : ℕ) (from : Party) (x : Held F)
      → of_operation n (to_all c kind k from x) ≡ only_for n k c
  unfolding of_operation to_all
  of_operation_to_all n zero kind k from x = zero_either (eqb k n)
    where
      zero_either : (b : Bool) → ◌≡◌ {A = ℕ} 0 (cond b 0 0)
      zero_either true = refl
      zero_either false = refl
  of_operation_to_all n (suc c) kind k from x =
      let a : Message F = record {
        kind = kind;
        operation = k;
        sender = from;
        receiver = Party.Replica c;
        stamp = x.stamp;
        figure = x.figure;
      }
      in
      of_operation_append n (to_all c kind k from x) (a ∷ []) ∙ ap (λ z. z + (only_for n k 1 + 0))
      (of_operation_to_all n c kind k from x) ∙ one_more_same (eqb k n)
    where
      one_more_same : (b : Bool) → cond b c 0 + (cond b 1 0 + 0) ≡ cond b (suc c) 0
      one_more_same true = omega arith
      one_more_same false = omega arith

  pub load_to_all : (size n c : ℕ) (kind : MessageKind) (k : ℕ) (from : Party) (x : Held F)
      → load size n (to_all c kind k from x) ≡ only_for n k (c * weight size kind)
  unfolding load to_all
  load_to_all size n zero kind k from x = zero_either (eqb k n)
    where
      zero_either : (b : Bool) → ◌≡◌ {A = ℕ} 0 (cond b (0 * weight size kind) 0)
      zero_either true = omega arith
      zero_either false = refl
  load_to_all size n (suc c) kind k from x =
      let a : Message F = record {
        kind = kind;
        operation = k;
        sender = from;
        receiver = Party.Replica c;
        stamp = x.stamp;
        figure = x.figure;
      }
      in
      load_append size n (to_all c kind k from x) (a ∷ []) ∙ ap (λ z. z + (only_for n k (weight size kind) + 0))
      (load_to_all size n c kind k from x) ∙ more_same (eqb k n) c (weight size kind)

  abbrev pub Of : ℕ → Message F → Type 0
  Of k a = a.operation ≡ k

  pub to_all_of : (k n : ℕ) → n ≡ k → (c : ℕ) (kind : MessageKind) (from : Party) (x : Held F)
      → All (Of k) (to_all c kind n from x)
  to_all_of k n e c kind from x = all_to_all kind n from x (Of k) c (λ _ _. e)

  pub of_operation_none : (n k : ℕ) (l : List (Message F)) → All (Of k) l → (k ≡ n → ⊥) → of_operation n l ≡ 0
  unfolding of_operation
  of_operation_none n k [] h u = refl
  of_operation_none n k (a ∷ l) h u =
      omega (arith, only_other n a.operation 1 (λ e. u (omega (arith, h.0))), of_operation_none n k l h.1 u)

  pub load_none : (size n k : ℕ) (l : List (Message F)) → All (Of k) l → (k ≡ n → ⊥) → load size n l ≡ 0
  unfolding load
  load_none size n k [] h u = refl
  load_none size n k (a ∷ l) h u =
      omega (
        arith,
        only_other n a.operation (weight size a.kind) (λ e. u (omega (arith, h.0))),
        load_none size n k l
            h.1 u,
      )

  -- no operation so far has a message that waits
  pub load_past : (size n lines : ℕ) (l : List (Message F)) → All (λ a. a.operation ≤ lines) l → lines < n
      → load size n l ≡ 0
  unfolding load
  load_past size n lines [] h u = refl
  load_past size n lines (a ∷ l) h u =
      omega (
        arith,
        only_other n a.operation (weight size a.kind) (λ e. omega (arith, h.0)),
        load_past size n lines l
            h.1 u,
      )

  -- The journal: what a finish and more messages leave of each line

  -- The lines are of the same operations, with the same counts.
  pub record LinesKept (old new : List (Operation F)) : Type 0 where
    pub as_many : length new ≡ length old
    pub kind_kept : (k : ℕ) (d : Operation F) → (get_or new k d).kind ≡ (get_or old k d).kind
    pub owner_kept : (k : ℕ) (d : Operation F) → (get_or new k d).owner ≡ (get_or old k d).owner
    pub sent_kept : (k : ℕ) (d : Operation F) → (get_or new k d).sent ≡ (get_or old k d).sent

  pub lines_same : (l : List (Operation F)) → LinesKept l l
  lines_same l = record { as_many = refl; kind_kept = λ k d. refl; owner_kept = λ k d. refl; sent_kept = λ k d. refl }

  pub lines_ended : (l : List (Operation F)) (i : ℕ) (e : Operation F) (event : ℕ) (x : Held F) (exchanges : ℕ)
      → LinesKept l (set l i (ended (get_or l i e) event x exchanges))
  lines_ended l i e event x exchanges = record {
    as_many = length-set l i _;
    kind_kept = λ k d. set_keeps (λ (o : Operation F). o.kind) l i (ended (get_or l i e) event x exchanges) e d refl k;
    owner_kept =
        λ k d. set_keeps (λ (o : Operation F). o.owner) l i (ended (get_or l i e) event x exchanges) e d refl k;
    sent_kept = λ k d. set_keeps (λ (o : Operation F). o.sent) l i (ended (get_or l i e) event x exchanges) e d refl k;
  }

  -- the journal with one more message of operation m
  abbrev bumped : F → List (Operation F) → ℕ → List (Operation F)
  bumped f j m = set j (pred m) (one_sent (get_or j (pred m) (no_line f)))

  pub counted_length : (f : F) (j : List (Operation F)) (l : List (Message F)) → length (counted f j l) ≡ length j
  unfolding counted
  counted_length f j [] = refl
  counted_length f j (a ∷ l) = counted_length f (bumped f j a.operation) l ∙ length-set j (pred a.operation) _

  pub counted_keeps : {B : Type 0} (g : Operation F → B) → ((o : Operation F) → g (one_sent o) ≡ g o)
      → (f : F) (j : List (Operation F)) (l : List (Message F)) (k : ℕ) (d : Operation F)
      → g (get_or (counted f j l) k d) ≡ g (get_or j k d)
  unfolding counted
  counted_keeps g u f j [] k d = refl
  counted_keeps g u f j (a ∷ l) k d =
      counted_keeps g u f (bumped f j a.operation) l k d ∙ set_keeps g j (pred a.operation)
      (one_sent (get_or j (pred a.operation) (no_line f))) (no_line f) d
      (u (get_or j (pred a.operation) (no_line f))) k

  -- one message more
  pub counted_one : (f : F) (j : List (Operation F)) (m n : ℕ) (d : Operation F) → 1 ≤ m → 1 ≤ n → n ≤ length j
      → (get_or j (pred n) d).sent ≤ 65535
      → (get_or (bumped f j m) (pred n) d).sent ≡ min ((get_or j (pred n) d).sent + only_for n m 1) 65535
  counted_one f j m n d b1 b2 b3 b4 = elim (cases_eq m n) [
    | inl e ↦
        let p : pred m < length j = omega arith in
        let same : pred n ≡ pred m = omega arith in
        ap (λ k. (get_or (bumped f j m) k d).sent) same
        ∙ ap (λ (o : Operation F). o.sent) (get_or-set_same j (pred m) (one_sent (get_or j (pred m) (no_line f))) d p)
        ∙ ap (λ (o : Operation F). min (o.sent + 1) 65535) (get_or_default j (pred m) (no_line f) d p)
        ∙ ap (λ k. min ((get_or j k d).sent + 1) 65535) (sym same)
        ∙ ap (λ w. min ((get_or j (pred n) d).sent + w) 65535) (sym (only_same n m 1 e))
    | inr u ↦
        let other : (pred n ≡ pred m → ⊥) = λ (e : pred n ≡ pred m). u (omega arith) in
        ap (λ (o : Operation F). o.sent)
        (get_or-set_other j (pred m) (pred n) (one_sent (get_or j (pred m) (no_line f))) d other)
        ∙ omega (arith, only_other n m 1 u)
  ]

  pub counted_sent : (f : F) (j : List (Operation F)) (l : List (Message F)) (n : ℕ) (d : Operation F)
      → All (λ a. 1 ≤ a.operation) l → 1 ≤ n → n ≤ length j → (get_or j (pred n) d).sent ≤ 65535
      → (get_or (counted f j l) (pred n) d).sent ≡ min ((get_or j (pred n) d).sent + of_operation n l) 65535
  unfolding counted of_operation
  counted_sent f j [] n d h b1 b2 b3 = omega arith
  counted_sent f j (a ∷ l) n d h b1 b2 b3 =
      let one = counted_one f j a.operation n d h.0 b1 b2 b3 in
      let i = counted_sent f (bumped f j a.operation) l n d h.1 b1
      (omega (arith, length-set j (pred a.operation) (one_sent (get_or j (pred a.operation) (no_line f)))))
      (omega arith) in
      omega arith
