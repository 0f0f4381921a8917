-- Tables of which a front part is in use.
use Rattle.std.proofs.Common.{◌≡◌, ℕ, zero, suc, ◌+◌, ◌-◌, ◌<◌, ◌≤◌, List, [], ◌∷◌, ◌++◌, length, take, drop, set, sym, refl, ap, ◌∙◌, arith, length-append, length-drop, length-take, length-set, take-take}
use lib.Seq.{paste}
use Rattle.std.proofs.lemmas.List.{drop-take, drop_more, length_push, append_assoc, length-take-le, take-append-drop, set-append_left, set-append_right}
use Rattle.model.specs.State.{stored, without}

-- what is left without a place is what stands before it and behind it
pub without_is : {A : Type 0} (xs : List A) (at : ℕ) → at < length xs → without xs at ≡ take at xs ++ drop (suc at) xs
unfolding without
without_is [] at h = absurd (omega arith)
without_is (x ∷ xs) zero h = refl
without_is (x ∷ xs) (suc at) h = ap (λ ys. x ∷ ys) (without_is xs at (omega arith))

pub length_without : {A : Type 0} (xs : List A) (at : ℕ) → at < length xs → length (without xs at) ≡ length xs - 1
unfolding without
length_without [] at h = absurd (omega arith)
length_without (x ∷ xs) zero h = omega arith
length_without (x ∷ xs) (suc at) h = omega (arith, length_without xs at (omega arith))

module _ {A : Type 0} (xs : List A) (at m : ℕ) (fits : suc at + m ≤ length xs) where
  front_is : without (take (suc at + m) xs) at ≡ take at xs ++ take m (drop (suc at) xs)
  front_is =
      let le : at ≤ suc at + m = omega arith in
      let e = drop-take (suc at) m xs in
      let l = length-take-le (suc at + m) xs fits in
      without_is (take (suc at + m) xs) at (omega arith) ∙ rw (take-take at (suc at + m) xs le, e)

  front_length : length (take at xs ++ take m (drop (suc at) xs)) ≡ at + m
  front_length = simp (length-append, length-take, length-drop) (omega arith)

  shifted : paste xs at (drop (suc at) xs) m ≡ stored (without (take (suc at + m) xs) at) xs
  shifted = rw (front_is, front_length)

-- the places behind a gap moved up
pub removed_is : {A : Type 0} (xs : List A) (at used : ℕ) → at < used → used ≤ length xs
    → paste xs at (drop (at + 1) xs) (used - (at + 1)) ≡ stored (without (take used xs) at) xs
removed_is xs at used lt le =
    let m : ℕ = used - (at + 1) in
    let f : used ≡ suc at + m = omega arith in
    let e : at + 1 ≡ suc at = omega arith in
    let fits : suc at + m ≤ length xs = omega arith in
    ap (λ (u : ℕ). paste xs at (drop u xs) m) e ∙ shifted xs at m fits
    ∙ ap (λ (u : ℕ). stored (without (take u xs) at) xs) (sym f)

-- a write at the end of the front
pub stored_more : {A : Type 0} (front t : List A) (n : ℕ) (y : A) → length front ≡ n → n < length t
    → set (stored front t) n y ≡ stored (front ++ y ∷ []) t
stored_more front t n y e lt =
    let z : n - n ≡ 0 = omega arith in
    let s : set (front ++ drop n t) n y ≡ front ++ set (drop n t) 0 y = set-append_right front (drop n t) n n y e (omega arith) ∙ ap (λ (k : ℕ). front ++ set (drop n t) k y) z in
    let d : set (drop n t) 0 y ≡ y ∷ drop (n + 1) t = ap (λ (ys : List _). set ys 0 y) (drop_more t n y lt) in
    let p : length (front ++ y ∷ []) ≡ n + 1 = length_push front y ∙ ap (λ (k : ℕ). k + 1) e in
    rw (e, p) (s ∙ ap (λ (ys : List _). front ++ ys) d ∙ sym (append_assoc front (y ∷ []) (drop (n + 1) t)))

-- a front that is the table's own, whether or not the table is that long
pub stored_own : {A : Type 0} (used : ℕ) (t : List A) → stored (take used t) t ≡ t
stored_own zero t = refl
stored_own (suc n) [] = refl
stored_own (suc n) (x ∷ t) = ap (λ (l : List _). x ∷ l) (stored_own n t)

pub stored_push : {A : Type 0} (t : List A) (used : ℕ) (y : A) → used < length t
    → set t used y ≡ stored (take used t ++ y ∷ []) t
stored_push t used y lt =
    ap (λ (l : List _). set l used y) (sym (stored_own used t))
    ∙ stored_more (take used t) t used y (length-take-le used t (omega arith)) lt

-- a place in use is changed in the front
pub line_changed : {A : Type 0} (t : List A) (used : ℕ) → used ≤ length t → (at : ℕ) (y : A) → at < used
    → set t at y ≡ stored (set (take used t) at y) t
line_changed t used fits at y lt =
    let l = length-take-le used t fits in
    let n = length-set (take used t) at y in
    ap (λ (xs : List _). set xs at y) (sym (take-append-drop used t))
    ∙ set-append_left (take used t) (drop used t) at y (omega arith)
    ∙ ap (λ (k : ℕ). set (take used t) at y ++ drop k t) (sym (n ∙ l))
