-- What the parties can still send for an operation without a request of its own: the second round of a reader, and the replicas' replies to a relayed read.
use Rattle.std.proofs.Common.{◌≡◌, ℕ, zero, suc, ◌+◌, ◌*◌, ◌<◌, ◌≤◌, Bool, true, false, cond, not, ◌&&◌, ◌||◌, eqb, ltb, List, length, get_or, set, ap, inl, inr, arith}
use Rattle.std.proofs.lemmas.List.{get_or-set_same}
use Rattle.std.proofs.lemmas.Bool.{cases_eq}
use Rattle.std.proofs.lemmas.Bool.Decides.{nat_tests}
use Rattle.model.specs.declared.journal.OperationKind.{OperationKind}
use Rattle.model.specs.declared.reader.Reader.{Reader}
use Rattle.model.specs.declared.marks.RelayMark.{RelayMark}
use Rattle.model.specs.State.{new_reader, new_mark}
use Rattle.model.specs.Records.{marked, mark_replied}
use Rattle.model.specs.Sound.{is_round_read, is_relay_read}
use Rattle.model.specs.Deliveries.{in_first}
use Rattle.model.proofs.Totals.{set_below}

-- A reader in its first round can still send one request to each replica in the second, and each can acknowledge it.
abbrev pub pending : {F : Type 0} → ℕ → ℕ → Reader F → ℕ
pending size n d = cond (eqb d.operation n && in_first d.phase) (2 * size) 0

-- A replica can still reply once to read n by a mark for an earlier read, or for this one if it has not replied.
abbrev pub unanswered : ℕ → RelayMark → ℕ
unanswered n k = cond (ltb k.operation n || (eqb k.operation n && not k.replied)) 1 0

-- How many of the first c replicas can, where reader r has column r of the marks.
unfoldable pub unreplied : ℕ → ℕ → ℕ → ℕ → List RelayMark → ℕ
unreplied n width r zero l = 0
unreplied n width r (suc c) l = unanswered n (get_or l (c * width + r) new_mark) + unreplied n width r c l

abbrev pub reserve : {F : Type 0} → ℕ → F → OperationKind → ℕ → ℕ → List (Reader F) → List RelayMark → ℕ
reserve size f kind r n readers marks =
    cond (is_round_read kind) (pending size n (get_or readers r (new_reader f))) 0
    + cond (is_relay_read kind) (unreplied n (length readers) r size marks) 0

pub unanswered_most : (n : ℕ) (k : RelayMark) → unanswered n k ≤ 1
unanswered_most n k = grind (arith, nat_tests)

pub unreplied_most : (n width r c : ℕ) (l : List RelayMark) → unreplied n width r c l ≤ c
unfolding unreplied
unreplied_most n width r zero l = omega arith
unreplied_most n width r (suc c) l =
    omega (arith, unreplied_most n width r c l, unanswered_most n (get_or l (c * width + r) new_mark))

pub unreplied_below : (n width r c : ℕ) (l : List RelayMark) (i : ℕ) (x : RelayMark)
    → unanswered n x ≤ unanswered n (get_or l i new_mark) → unreplied n width r c (set l i x) ≤ unreplied n width r c l
unfolding unreplied
unreplied_below n width r zero l i x h = omega arith
unreplied_below n width r (suc c) l i x h =
    omega (arith, unreplied_below n width r c l i x h, set_below (unanswered n) l i x new_mark h (c * width + r))

-- replica b, which could reply, no longer can
pub unreplied_less : (n width r c : ℕ) (l : List RelayMark) (b : ℕ) (x : RelayMark) → b < c → b * width + r < length l
    → unanswered n (get_or l (b * width + r) new_mark) ≡ 1 → unanswered n x ≡ 0
    → unreplied n width r c (set l (b * width + r) x) + 1 ≤ unreplied n width r c l
unfolding unreplied
unreplied_less n width r zero l b x h i u v = absurd (omega arith)
unreplied_less n width r (suc c) l b x h i u v = elim (cases_eq c b) [
  | inl e ↦
      let same = ap (unanswered n) (get_or-set_same l (b * width + r) x new_mark i) in
      let here = ap (λ k. unanswered n (get_or (set l (b * width + r) x) (k * width + r) new_mark)) e in
      let there = ap (λ k. unanswered n (get_or l (k * width + r) new_mark)) e in
      omega (arith, unreplied_below n width r c l (b * width + r) x (omega arith))
  | inr o ↦ omega (arith, unreplied_less n width r c l b x (omega arith) i u v, set_below (unanswered n) l (b * width + r) x new_mark (omega arith) (c * width + r))
]

-- Marks

pub marked_below : (n m c : ℕ) (k : RelayMark) → ltb m k.operation ≡ false
    → unanswered n (marked k m c) ≤ unanswered n k
unfolding marked
marked_below n m c k h = grind (arith, nat_tests)

pub replied_below : (n : ℕ) (k : RelayMark) → unanswered n (mark_replied k) ≤ unanswered n k
replied_below n k = grind (arith, nat_tests)

pub marked_operation : (m c : ℕ) (k : RelayMark) → ltb m k.operation ≡ false → (marked k m c).operation ≡ m
unfolding marked
marked_operation m c k h = grind (arith, nat_tests)

pub could_reply : (m c : ℕ) (k : RelayMark) → ltb m k.operation ≡ false → (marked k m c).replied ≡ false
    → unanswered m k ≡ 1
unfolding marked
could_reply m c k h u = grind (arith, nat_tests)

pub has_replied : (m : ℕ) (k : RelayMark) → k.operation ≡ m → unanswered m (mark_replied k) ≡ 0
has_replied m k h = grind (arith, nat_tests)

-- What is left to send is no more, if neither part is.
pub reserve_below : (a b : Bool) (p q u v : ℕ) → p ≤ q → u ≤ v → cond a p 0 + cond b u 0 ≤ cond a q 0 + cond b v 0
reserve_below true true p q u v h k = omega arith
reserve_below true false p q u v h k = omega arith
reserve_below false true p q u v h k = omega arith
reserve_below false false p q u v h k = omega arith
