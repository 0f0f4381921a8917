-- What a cursor over the fields of a line stands for.
use Rattle.std.specs.Prelude.{ℕ, List}
use Rattle.text.specs.Fields.{pending}
use Rattle.text.specs.declared.fields.FieldCursor.{FieldCursor}

-- the fields still to come
abbrev pub ahead : FieldCursor → List (List ℕ)
ahead cursor = pending cursor.rest
