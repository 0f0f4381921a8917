-- The faults of a figure: each has a number and the field found wrong.
use Rattle.std.specs.Prelude.{ℕ}
use Rattle.figure.specs.declared.fault.FigureFault.{FigureFault}
use Rattle.figure.specs.declared.fault.FigureFault.TheVariants.{UnknownWord, BadNumber}

-- the number of a fault: 13 for an unknown word, 15 for what is no number or one outside its range
abbrev pub fault_number : FigureFault → ℕ
fault_number (UnknownWord field) = 13
fault_number (BadNumber field) = 15

-- the field found wrong, from 0 at the figure's first: an unknown word is in 0, an order's first, or 2, an arm; a bad number
-- in 0, a level, or 1, a minute, a depth or a section
abbrev pub fault_field : FigureFault → ℕ
fault_field (UnknownWord field) = field
fault_field (BadNumber field) = field
