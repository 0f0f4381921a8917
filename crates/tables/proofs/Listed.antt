-- The tests of all items of a table, in the library's words.
use Rattle.std.proofs.Common.{◌≡◌, ℕ, suc, ◌+◌, Bool, ◌&&◌, List, [], ◌∷◌, sym, refl, ap, ◌∙◌, add-one}
use Rattle.std.specs.List.{list_all, enumerate_from}
use Rattle.model.specs.Sound.{each_from}

pub each_from_listed : {A : Type 0} (test : ℕ → A → Bool) (n : ℕ) (xs : List A)
    → each_from n test xs ≡ list_all (λ p. test p.0 p.1) (enumerate_from n xs)
unfolding each_from
each_from_listed test n [] = refl
each_from_listed test n (x ∷ xs) =
    ap (λ k. test n x && each_from k test xs) (sym (add-one n)) ∙ ap (λ b. test n x && b) (each_from_listed test (n + 1) xs)

-- A test that does not look at the place is one that may.
pub all_placed : {A : Type 0} (test : A → Bool) (n : ℕ) (xs : List A) → list_all test xs ≡ each_from n (λ k. test) xs
unfolding each_from
all_placed test n [] = refl
all_placed test n (x ∷ xs) = ap (λ b. test x && b) (all_placed test (suc n) xs)
