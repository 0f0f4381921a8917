-- Where things stand in a list.
use Rattle.std.specs.Prelude.{◌≡◌, ℕ, zero, suc, ◌⊎◌, List, [], ◌∷◌}

-- x stands at place m, counted from 0.
abbrev pub At : {A : Type 0} → List A → ℕ → A → Type 0
At [] m x = ⊥
At (y ∷ ys) zero x = y ≡ x
At (y ∷ ys) (suc m) x = At ys m x

abbrev pub In : {A : Type 0} → A → List A → Type 0
In x [] = ⊥
In x (y ∷ ys) = (y ≡ x) ⊎ In x ys

-- Nothing stands in it twice.
abbrev pub Once : {A : Type 0} → List A → Type 0
Once [] = Unit {0}
Once (x ∷ xs) = (In x xs → ⊥) × Once xs

-- x stands before y.
abbrev pub Before : {A : Type 0} → A → A → List A → Type 0
Before x y [] = ⊥
Before x y (z ∷ zs) = ((z ≡ x) × In y zs) ⊎ Before x y zs
