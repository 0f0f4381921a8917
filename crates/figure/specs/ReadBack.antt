-- What is printed of a limited number is read back as it is. Lemmas under the laws, and no definition that a reader must believe.
use Rattle.std.specs.Prelude.{◌≡◌, ℕ, ◌<◌, nat_abs, Some, decimal}
use Rattle.std.proofs.Common.{sym, arith}
use Rattle.std.specs.Fmt.{signed_decimal}
use Rattle.text.proofs.RoundTrip.{spelled_decimal, spelled_shown}
use Rattle.figure.specs.Limits.{up_to_read, level_read}
use Rattle.figure.specs.declared.limits.Level.{Level}
use Rattle.figure.specs.declared.limits.UpTo.{UpTo}
use Rattle.figure.specs.Limited.{within}

-- a number within its limit is read back as it is
pub read_up_to : (max : ℕ) → max < 1000000 → (v : UpTo max) → up_to_read max (decimal v.value) ≡ Some v
read_up_to max few v =
    let n = v.value in
    rw (spelled_decimal n (omega (arith, v.ok))) (sym (within n max (λ p. record { value = n; ok = p }) v.ok))

-- and so is a level
pub read_level : (v : Level) → level_read (signed_decimal v.mm) ≡ Some v
read_level v =
    let z = v.mm in
    rw (spelled_shown z (omega (arith, v.ok))) (sym (within (nat_abs z) 20000 (λ p. record { mm = z; ok = p }) v.ok))
