-- A table of messages that begins somewhere in a buffer, so that taking out the first ones moves none.
use Rattle.std.specs.Prelude.{ℕ, List, take, drop}

-- The table of so many places that begins at head.
abbrev pub window : {A : Type 0} → ℕ → ℕ → List A → List A
window head room buffer = take room (drop head buffer)
