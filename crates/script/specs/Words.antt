-- Readers of single fields.
use Rattle.std.specs.Prelude.{ℕ, List, Result}
use Rattle.std.specs.Option.{ok_or}
use Rattle.text.specs.Numbers.{spelled}
use Rattle.script.specs.declared.fault.TextFault.{TextFault}

-- The number that a word spells, which stands in this field of the line.
abbrev pub number_in : List ℕ → ℕ → Result ℕ TextFault
number_in word field = ok_or (spelled word) (TextFault.BadNumber field)
