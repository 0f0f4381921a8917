-- Values that may be missing, beside those of the library.
use Rattle.std.specs.Prelude.{◌≡◌, ℕ, ◌≤◌, Bool, true, false, Some, None, Ok, Err, Option, Result, nat_le, refl}
use Rattle.std.proofs.Common.{leb-true}

-- what is made of a result, if it is no error
abbrev pub ok_then : {A B E : Type 0} → Result A E → (A → Result B E) → Result B E
ok_then (Ok a) f = f a
ok_then (Err e) f = Err e

-- the same as below, by how the test comes out
abbrev pub within_by : {A : Type 0} (n limit : ℕ) → (n ≤ limit → A) → (t : Bool) → nat_le n limit ≡ t → Option A
within_by n limit make true test = Some (make (leb-true n limit test))
within_by n limit make false test = None

-- what is made of the proof that a number is within a limit, if it is
unfoldable pub if_within : {A : Type 0} (n limit : ℕ) → (n ≤ limit → A) → Option A
if_within n limit make = within_by n limit make (nat_le n limit) refl
