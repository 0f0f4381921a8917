-- A table that calls of one closure fill.
use Rattle.std.proofs.Common.{◌≡◌, List, [], ◌∷◌, length, replicate, refl, subst, ap₂}
use Rattle.std.specs.List.{FoldsTo}

pub filled_with : {C X : Type 0} (R : C → X → C → Type 0) (f : C) (x : X)
    → ((y : X) (h : C) → R f y h → (h ≡ f) × (y ≡ x)) → (xs : List X) (last : C) → FoldsTo R f xs last
    → xs ≡ replicate (length xs) x
filled_with R f x same [] last ran = refl
filled_with {C} {X} R f x same (y ∷ ys) last ran =
    let s = same y ran.0 ran.1 in
    ap₂ (λ (z : X) (zs : List X). z ∷ zs) s.1
    (filled_with R f x same ys last (subst (λ (h : C). FoldsTo R h ys last) s.0 ran.2))
