-- What the calls of a history leave is sound.
use Rattle.std.specs.Prelude.{◌≡◌, true}
use Rattle.quorum.specs.Sets.{Rule}
use Rattle.model.specs.State.{State}
use Rattle.model.specs.Sound.{sound}
use Rattle.model.specs.History.{History, Grows}

-- For every rule, lawful or not, every starting figure and every history.
abbrev pub ReachesSound : Type 0 → Type 0
ReachesSound F = (rule : Rule) (start : F) (h : History F) (s : State F) → Grows rule start h s → sound rule s ≡ true
