-- Where two texts differ first.
use Rattle.std.specs.Prelude.{◌≡◌, ℕ, ◌+◌, ◌==◌, ◌↔◌, List, Option, IsNone, IfSome, count_by, take, zip}
use Rattle.std.specs.List.{prefix_len}

-- how many bytes they share from the front on
abbrev pub shared_len : List ℕ → List ℕ → ℕ
shared_len xs ys = prefix_len (λ pair. pair.0 == pair.1) (zip xs ys)

-- the line in which those end, counted from 1: each of them that is a line's end (byte 10) stands before it
abbrev pub line_of_difference : List ℕ → List ℕ → ℕ
line_of_difference xs ys = 1 + count_by (λ x. x == 10) (take (shared_len xs ys) xs)

-- what comparing two texts comes to: nothing exactly where they are the same, else the line of their first difference
pub record Compared (one other : List ℕ) (found : Option ℕ) : Type 0 where
  pub same : IsNone found ↔ (one ≡ other)
  pub line : IfSome found (λ line. line ≡ line_of_difference one other)
