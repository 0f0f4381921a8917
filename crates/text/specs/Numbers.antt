-- The number that a field spells. Every reader of numbers goes by these definitions.
use Rattle.std.specs.Prelude.{ℕ, ◌+◌, ◌-◌, ◌*◌, Bool, cond, ◌&&◌, List, [], ◌∷◌, length, drop, ℤ, pos, neg_ℤ, Some, None, Option, ◌==◌, nat_le, slice_index}
use Rattle.std.specs.Option.{option_map, option_and_then}

-- the digit that a byte shows: '0' is 48, and '9' is 57
abbrev pub digit_of : ℕ → Option ℕ
digit_of c = cond (nat_le 48 c && nat_le c 57) (Some (c - 48)) None

-- the number that digits spell behind those of n
abbrev pub spelled_on : ℕ → List ℕ → Option ℕ
spelled_on n [] = Some n
spelled_on n (c ∷ cs) = option_and_then (λ d. spelled_on (n * 10 + d) cs) (digit_of c)

-- the number that a field spells: one to six digits, with leading zeros or without
unfoldable pub spelled : List ℕ → Option ℕ
spelled field = cond (nat_le 1 (length field) && nat_le (length field) 6) (spelled_on 0 field) None

-- a minus (45) stands first
abbrev pub minus_first : List ℕ → Bool
minus_first field = nat_le 1 (length field) && slice_index field 0 == 45

-- the number that a field spells where a minus may stand before the digits; -0 is 0
abbrev pub spelled_signed : List ℕ → Option ℤ
spelled_signed field =
    cond (minus_first field) (option_map (λ n. neg_ℤ (pos n)) (spelled (drop 1 field))) (option_map pos (spelled field))
