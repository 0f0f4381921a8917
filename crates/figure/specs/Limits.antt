-- Numbers within their limits: plain numbers as values of the types that have the limits as their invariants.
use Rattle.std.specs.Prelude.{ℕ, List, ℤ, pos, Option, unsigned_abs}
use Rattle.std.proofs.Common.{zero-le}
use Rattle.std.specs.Option.{option_and_then}
use Rattle.text.specs.Numbers.{spelled, spelled_signed}
use Rattle.text.specs.Partial.{if_within}
use Rattle.figure.specs.declared.limits.UpTo.{UpTo}
use Rattle.figure.specs.declared.limits.Level.{Level}

-- a minute of the day
abbrev pub Minute : Type 0
Minute = UpTo 1439

-- a digging depth in mm
abbrev pub Depth : Type 0
Depth = UpTo 60000

-- the number of a section
abbrev pub Section : Type 0
Section = UpTo 9999

-- 0, which is within every limit
abbrev pub up_to_zero : (max : ℕ) → UpTo max
up_to_zero max = record { value = 0; ok = zero-le }

-- a number as one from 0 to a limit, if it is
abbrev pub up_to : (max n : ℕ) → Option (UpTo max)
up_to max n = if_within n max (λ within. record { value = n; ok = within })

-- the number from 0 to a limit that a field spells
abbrev pub up_to_read : (max : ℕ) → List ℕ → Option (UpTo max)
up_to_read max field = option_and_then (up_to max) (spelled field)

-- the level 0
abbrev pub level_zero : Level
level_zero = record { mm = pos 0; ok = zero-le }

-- a number of mm as a level, if it is from -20,000 to 20,000
abbrev pub level_of : ℤ → Option Level
level_of z = if_within (unsigned_abs z) 20000 (λ within. record { mm = z; ok = within })

-- the level that a field spells
abbrev pub level_read : List ℕ → Option Level
level_read field = option_and_then level_of (spelled_signed field)
