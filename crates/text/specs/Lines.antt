-- The lines of a text.
use Rattle.std.specs.Prelude.{ℕ, Bool, cond, ◌&&◌, ◌||◌, List, [], ◌∷◌, length, ◌==◌, nat_le}
use Rattle.std.specs.List.{list_all, onto_first}

-- Byte 10 ends a line; the last may lack it. An empty text has no line.
abbrev pub lines : List ℕ → List (List ℕ)
lines [] = []
lines (c ∷ cs) = cond (c == 10) ([] ∷ lines cs) (onto_first c (lines cs))

-- A tab, or a byte that prints.
abbrev pub plain : ℕ → Bool
plain b = b == 9 || nat_le 32 b && nat_le b 126

-- A line is text if it has at most 200 bytes, each a tab or one that prints.
unfoldable pub is_text : List ℕ → Bool
is_text line = nat_le (length line) 200 && list_all plain line
