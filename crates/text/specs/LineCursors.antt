-- What a cursor over the lines of a text stands for.
use Rattle.std.specs.Prelude.{ℕ, List}
use Rattle.text.specs.Lines.{lines}
use Rattle.text.specs.declared.lines.LineCursor.{LineCursor}

-- The lines still to come.
abbrev pub lines_ahead : LineCursor → List (List ℕ)
lines_ahead cursor = lines cursor.rest.now
