-- Where a text is cut.
use Rattle.std.specs.Prelude.{◌≡◌, ℕ, List, [], ◌∷◌, ◌++◌, Some, None, Option}
use Rattle.std.specs.Borrow.{Bor}

-- a byte stands nowhere in a text
abbrev pub Without : ℕ → List ℕ → Type 0
Without byte [] = Unit {0}
Without byte (c ∷ cs) = (c ≡ byte → ⊥) × Without byte cs

-- the byte at which a text is cut and what is behind it, if it is cut
abbrev pub from_cut : ℕ → Option (Bor (List ℕ)) → List ℕ
from_cut byte None = []
from_cut byte (Some rest) = byte ∷ rest.now

-- a text is cut at the first place where a byte stands, and not cut where it stands nowhere
pub record CutAt (byte : ℕ) (text before : List ℕ) (behind : Option (Bor (List ℕ))) : Type 0 where
  pub whole : text ≡ before ++ from_cut byte behind
  pub first : Without byte before
