-- Values whose type has a limit as its invariant. Lemmas under the laws, and no definition that a reader must believe.
use Rattle.std.specs.Prelude.{◌≡◌, ℕ, ◌<◌, ◌≤◌, Bool, true, false, leb, Some, None, nat_le, refl}
use Rattle.std.proofs.Common.{ap, leb-true, leb-false, arith}
use Rattle.std.proofs.Math.Bridge.{le_prop}
use Rattle.text.specs.Partial.{if_within, within_by}

within_is : {A : Type 0} (n limit : ℕ) (make : n ≤ limit → A) (p : n ≤ limit)
    (t : Bool) (e : leb n limit ≡ t) → Some (make p) ≡ within_by n limit make t e
within_is n limit make p true e = ap (λ q. Some (make q)) (le_prop p (leb-true n limit e))
within_is n limit make p false e = let l : limit < n = leb-false n limit e in absurd (omega arith)

-- within the limit, any proof of it makes the value
pub within : {A : Type 0} (n limit : ℕ) (make : n ≤ limit → A) (p : n ≤ limit) → Some (make p) ≡ if_within n limit make
unfolding if_within
within n limit make p = within_is n limit make p (nat_le n limit) refl

beyond_is : {A : Type 0} (n limit : ℕ) (make : n ≤ limit → A) → limit < n
    → (t : Bool) (e : leb n limit ≡ t) → None ≡ within_by n limit make t e
beyond_is n limit make p true e = let l : n ≤ limit = leb-true n limit e in absurd (omega arith)
beyond_is n limit make p false e = refl

-- beyond the limit there is none
pub beyond : {A : Type 0} (n limit : ℕ) (make : n ≤ limit → A) → limit < n → None ≡ if_within n limit make
unfolding if_within
beyond n limit make p = beyond_is n limit make p (nat_le n limit) refl
