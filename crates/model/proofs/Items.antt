-- What holds of every item of a list.
use Rattle.std.proofs.Common.{◌≡◌, ℕ, zero, suc, ◌+◌, ◌<◌, Bool, true, List, [], ◌∷◌, length, get_or, replicate, refl, subst, inl, inr, arith}
use Rattle.std.specs.List.{AllByRecursion as All, list_all}
use Rattle.std.proofs.lemmas.List.{get_or_past}
use Rattle.std.proofs.ByRecursion.{All-get_or, Decides-by_and}
use Rattle.std.proofs.lemmas.Bool.{and_parts, and_from, cases_lt}
use Rattle.model.specs.Sound.{each_from}

pub all_alike : {A : Type 0} (P : A → Type 0) (n : ℕ) (x : A) → P x → All P (replicate n x)
all_alike P zero x h = tt
all_alike P (suc n) x h = (h, all_alike P n x h)

-- At every place, where it holds too of what a place past the end counts as holding.
pub all_read : {A : Type 0} (P : A → Type 0) (l : List A) (k : ℕ) (d : A) → P d → All P l → P (get_or l k d)
all_read P l k d past h = elim (cases_lt k (length l)) [
  | inl i ↦ All-get_or P l k d i h
  | inr o ↦ rw (get_or_past l k d o) past
]

-- A test of every item, place by place

abbrev pub Passes : {A : Type 0} → (A → Bool) → A → Type 0
Passes test x = test x ≡ true

pub each_tells : {A : Type 0} (test : A → Bool) (l : List A) → list_all test l ≡ true → All (Passes test) l
each_tells test l = (Decides-by_and test (Passes test) (list_all test) (λ x. (λ e. e, λ e. e)) refl (λ x xs. refl) l).0

pub each_from_all : {A : Type 0} (test : A → Bool) (l : List A) → All (Passes test) l → list_all test l ≡ true
each_from_all test l = (Decides-by_and test (Passes test) (list_all test) (λ x. (λ e. e, λ e. e)) refl (λ x xs. refl) l).1

module _ {A : Type 0} (test : ℕ → A → Bool) (d : A) where
  pub places_tell : (n : ℕ) (l : List A) → each_from n test l ≡ true → (i : ℕ) → i < length l
      → test (n + i) (get_or l i d) ≡ true
  unfolding each_from
  places_tell n [] e i h = absurd (omega arith)
  places_tell n (x ∷ l) e zero h =
      subst (λ (k : ℕ). test k x ≡ true) (omega arith) (and_parts (test n x) (each_from (suc n) test l) e).0
  places_tell n (x ∷ l) e (suc i) h =
      subst (λ (k : ℕ). test k (get_or l i d) ≡ true) (omega arith)
      (places_tell (suc n) l (and_parts (test n x) (each_from (suc n) test l) e).1 i (omega arith))

  pub from_places : (n : ℕ) (l : List A) → ((i : ℕ) → i < length l → test (n + i) (get_or l i d) ≡ true)
      → each_from n test l ≡ true
  unfolding each_from
  from_places n [] h = refl
  from_places n (x ∷ l) h = and_from (test n x) (each_from (suc n) test l)
      (subst (λ (k : ℕ). test k x ≡ true) (omega arith) (h 0 (omega arith)))
      (from_places (suc n) l
      (λ i b. subst (λ (k : ℕ). test k (get_or l i d) ≡ true) (omega arith) (h (suc i) (omega arith))))
