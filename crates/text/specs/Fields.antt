-- The fields of a line: the texts between its tabs.
use Rattle.std.specs.Prelude.{ℕ, List, [], Some, None, Option, ◌==◌, slice_index_or}
use Rattle.std.specs.List.{slice_split}
use Rattle.std.specs.Borrow.{Bor}

-- the fields of a text, which tabs (byte 9) part; an empty text is one empty field
abbrev pub fields : List ℕ → List (List ℕ)
fields = slice_split (λ c. c == 9)

-- the field at a place; a missing one reads as an empty one
abbrev pub field_at : List (List ℕ) → ℕ → List ℕ
field_at fs k = slice_index_or fs k []

-- the fields of a text that may be missing
abbrev pub pending : Option (Bor (List ℕ)) → List (List ℕ)
pending None = []
pending (Some text) = fields text.now
