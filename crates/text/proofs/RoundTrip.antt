-- What is printed reads back.
use Rattle.std.proofs.Common.{◌≡◌, ℕ, suc, ◌+◌, ◌*◌, ◌/◌, ◌%◌, ◌^◌, ◌<◌, ◌≤◌, false, List, [], ◌∷◌, ◌++◌, length, ℤ, pos, negsuc, neg_ℤ, nat_abs, Some, None, decimal, Option, sym, refl, ap, ◌∙◌, arith, ne_eqb, le-leb}
use Rattle.std.proofs.lemmas.Fmt.{decimal_by_steps, decimal_nonempty, length-decimal-le}
use Rattle.std.specs.Option.{option_map, option_and_then}
use Rattle.std.specs.Fmt.{signed_decimal}
use Rattle.text.specs.Numbers.{digit_of, spelled_on, spelled, minus_first, spelled_signed}
use Rattle.text.proofs.Parting.{Tabless}
use Rattle.text.proofs.Spelling.{spelled_is}

never : {m : ℕ} → None ≡ Some m → ⊥
never e = let z : ◌≡◌ {A = ℕ} 0 1 = cc in omega arith

-- digits behind digits
spelled_append : (n m : ℕ) (a b : List ℕ) → spelled_on n a ≡ Some m → spelled_on n (a ++ b) ≡ spelled_on m b
spelled_append n m [] b e = let k : n ≡ m = cc in ap (λ x. spelled_on x b) k
spelled_append n m (c ∷ cs) b e =
    elim (digit_of c) as (λ (o : Option ℕ). option_and_then (λ d. spelled_on (n * 10 + d) cs) o ≡ Some m
    → option_and_then (λ d. spelled_on (n * 10 + d) (cs ++ b)) o ≡ spelled_on m b) [
      | None ↦ λ h. absurd (never h)
      | Some d ↦ λ h. spelled_append (n * 10 + d) m cs b h
    ] e

digit_is : (d : ℕ) → d < 10 → digit_of (48 + d) ≡ Some d
digit_is d h =
    let lo : 48 ≤ 48 + d = omega arith in
    let hi : 48 + d ≤ 57 = omega arith in
    rw (le-leb 48 (48 + d) lo, le-leb (48 + d) 57 hi) (ap Some (omega arith))

one_digit : (n d : ℕ) → d < 10 → spelled_on n ((48 + d) ∷ []) ≡ Some (n * 10 + d)
one_digit n d h = ap (option_and_then (λ x. Some (n * 10 + x))) (digit_is d h)

-- the digits of a number spell it
decimal_spells : (n : ℕ) → n < 2 ^ 64 → spelled_on 0 (decimal n) ≡ Some n
decimal_spells =
    decimal_by_steps (λ n ds. spelled_on 0 ds ≡ Some n)
    (λ n h. one_digit 0 n h ∙ ap Some (omega arith))
    (λ n ds h e. spelled_append 0 (n / 10) ds ((48 + n % 10) ∷ []) e
    ∙ one_digit (n / 10) (n % 10) (omega arith)
    ∙ ap Some (omega arith))

-- and as a field, if they are at most six
pub spelled_decimal : (n : ℕ) → n < 1000000 → spelled (decimal n) ≡ Some n
spelled_decimal n h =
    sym (spelled_is (decimal n) (decimal_nonempty n (omega arith)) (length-decimal-le 6 n (omega arith) h (omega arith)))
    ∙ decimal_spells n (omega arith)

not_digit : (c n m : ℕ) (cs : List ℕ) → digit_of c ≡ None → spelled_on n (c ∷ cs) ≡ Some m → ⊥
not_digit c n m cs e h = never (sym (ap (option_and_then (λ d. spelled_on (n * 10 + d) cs)) e) ∙ h)

-- what spells a number has no tab
tabless_spelled : (n m : ℕ) (ds : List ℕ) → spelled_on n ds ≡ Some m → Tabless ds
tabless_spelled n m [] h = tt
tabless_spelled n m (c ∷ cs) h = (
  λ e. not_digit c n m cs (ap digit_of e) h,
  elim (digit_of c) as (λ (o : Option ℕ). option_and_then (λ d. spelled_on (n * 10 + d) cs) o ≡ Some m → Tabless cs) [
    | None ↦ λ k. absurd (never k)
    | Some d ↦ λ k. tabless_spelled (n * 10 + d) m cs k
  ] h,
)

pub tabless_decimal : (n : ℕ) → n < 2 ^ 64 → Tabless (decimal n)
tabless_decimal n h = tabless_spelled 0 n (decimal n) (decimal_spells n h)

no_minus : (n m : ℕ) (ds : List ℕ) → spelled_on n ds ≡ Some m → minus_first ds ≡ false
no_minus n m [] h = refl
no_minus n m (c ∷ cs) h =
    let some : 1 ≤ length (c ∷ cs) = omega arith in
    rw (le-leb 1 (length (c ∷ cs)) some, ne_eqb c 45 (λ e. not_digit c n m cs (ap digit_of e) h))

-- a signed number as it is printed spells it
pub spelled_shown : (z : ℤ) → nat_abs z < 1000000 → spelled_signed (signed_decimal z) ≡ Some z
spelled_shown (pos n) h =
    rw (no_minus 0 n (decimal n) (decimal_spells n (omega arith))) (ap (option_map pos) (spelled_decimal n h))
spelled_shown (negsuc n) h =
    let ds = decimal (suc n) in
    let some : 1 ≤ length (45 ∷ ds) = omega arith in
    rw (le-leb 1 (length (45 ∷ ds)) some) (ap (option_map (λ k. neg_ℤ (pos k))) (spelled_decimal (suc n) h))

pub tabless_signed : (z : ℤ) → nat_abs z < 1000000 → Tabless (signed_decimal z)
tabless_signed (pos n) h = tabless_decimal n (omega arith)
tabless_signed (negsuc n) h = (λ e. omega arith, tabless_decimal (suc n) (omega arith))
