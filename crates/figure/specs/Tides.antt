-- The tides: what their fields say, and how they are printed.
use Rattle.std.specs.Prelude.{ℕ, List, [], ◌∷◌, ◌++◌, ℤ, Some, None, Ok, Err, decimal, Option, Result}
use Rattle.std.specs.Fmt.{signed_decimal}
use Rattle.text.specs.Fields.{field_at}
use Rattle.figure.specs.Limits.{Minute, up_to, up_to_zero, up_to_read, level_zero, level_of, level_read}
use Rattle.figure.specs.declared.fault.FigureFault.{FigureFault}
use Rattle.figure.specs.declared.fault.FigureFault.TheVariants.{BadNumber}
use Rattle.figure.specs.declared.limits.Level.{Level}
use Rattle.figure.specs.declared.tide.Tide.{Tide}

-- a tide of a level and a minute, of which the first that is missing is the fault
abbrev pub tide_from : Option Level → Option Minute → Result Tide FigureFault
tide_from None minute = Err (BadNumber 0)
tide_from (Some level) None = Err (BadNumber 1)
tide_from (Some level) (Some minute) = Ok (record { level = level; minute = minute })

-- the tide of two plain numbers
abbrev pub tide_of : ℤ → ℕ → Result Tide FigureFault
tide_of level minute = tide_from (level_of level) (up_to 1439 minute)

-- level 0 at minute 0
abbrev pub tide_start : Tide
tide_start = record { level = level_zero; minute = up_to_zero 1439 }

-- a tide always has two fields
abbrev pub tide_wanted : List (List ℕ) → Result ℕ FigureFault
tide_wanted fs = Ok 2

-- the tide that two fields say
abbrev pub tide_reading : List (List ℕ) → Result Tide FigureFault
tide_reading fs = tide_from (level_read (field_at fs 0)) (up_to_read 1439 (field_at fs 1))

-- a level and a minute as they are printed, parted by a tab
abbrev pub level_minute_shown : Level → Minute → List ℕ
level_minute_shown level minute = (signed_decimal level.mm ++ (9 ∷ [])) ++ decimal minute.value

-- a tide as it is printed
abbrev pub tide_shown : Tide → List ℕ
tide_shown t = level_minute_shown t.level t.minute
