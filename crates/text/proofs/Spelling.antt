-- Digits and the numbers that they spell.
use Rattle.std.proofs.Common.{◌≡◌, ℕ, ◌+◌, ◌*◌, ◌^◌, ◌<◌, ◌≤◌, List, length, get_or, drop, Some, Option, sym, ap, ◌∙◌, pow-suc, add-one, arith, drop-cons, le-leb}
use Rattle.std.proofs.lemmas.List.{drop_all}
use Rattle.std.specs.Option.{option_and_then}
use Rattle.text.specs.Numbers.{digit_of, spelled_on, spelled}

-- the byte at a place, and what the digits from there on spell
pub spelled_more : (n : ℕ) (xs : List ℕ) (i : ℕ) → i < length xs → (o : Option ℕ) → o ≡ digit_of (get_or xs i 0)
    → option_and_then (λ d. spelled_on (n * 10 + d) (drop (i + 1) xs)) o ≡ spelled_on n (drop i xs)
spelled_more n xs i h o e =
    ap (option_and_then (λ d. spelled_on (n * 10 + d) (drop (i + 1) xs))) e
    ∙ sym (ap (spelled_on n) (drop-cons xs i 0 h) ∙ rw add-one)

pub spelled_end : (n : ℕ) (xs : List ℕ) (i : ℕ) → length xs ≤ i → spelled_on n (drop i xs) ≡ Some n
spelled_end n xs i h = ap (spelled_on n) (drop_all i xs h)

-- one digit more
pub grows : (n d i : ℕ) → n < 10 ^ i → d < 10 → n * 10 + d < 10 ^ (i + 1)
grows n d i h k = rw (add-one, pow-suc) (omega arith)

-- one to six bytes spell what their digits spell
pub spelled_is : (field : List ℕ) → 1 ≤ length field → length field ≤ 6 → spelled_on 0 field ≡ spelled field
unfolding spelled
spelled_is field some few = rw (le-leb 1 (length field) some, le-leb (length field) 6 few)
