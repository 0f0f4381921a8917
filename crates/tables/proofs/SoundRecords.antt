-- One record of the tables: what its test comes to, by what its parts answered.
use Rattle.std.proofs.Common.{◌≡◌, ℕ, Bool, true, false, not, ◌&&◌, ◌||◌, eqb, Some, None, Option, ◌⊎◌, sym, ap, ◌∙◌, ap₂, inl, inr}
use Rattle.std.specs.Option.{MatchOption}
use Rattle.std.proofs.lemmas.Bool.{and_left}
use Rattle.model.specs.declared.reader.Phase.{Phase}
use Rattle.model.specs.declared.reader.Reader.{Reader}
use Rattle.model.specs.declared.journal.Operation.{Operation}
use Rattle.model.specs.State.{State, line}
use Rattle.model.specs.Sound.{in_journal, idle, own_read, placed}

-- Whether the line of an operation passes a test, by what its look-up gave and what the test answered
pub line_tested : {F A : Type 0} (s : State F) (n : ℕ) (test : Operation F → Bool) (shows : A → Operation F)
    (Passed : A → Type 0) (o : Option A) (r : Bool)
    → MatchOption o (in_journal s n ≡ false) (λ a. (in_journal s n ≡ true) × (shows a ≡ line s n))
    → MatchOption o (r ≡ false) Passed
    → ((a : A) → Passed a → r ≡ test (shows a))
    → r ≡ (in_journal s n && test (line s n))
line_tested s n test shows Passed None r i e t = e ∙ sym (and_left (in_journal s n) (test (line s n)) i)
line_tested s n test shows Passed (Some a) r l e t = t a e ∙ ap₂ (λ i o. i && test o) (sym l.0) l.1

-- A reader with an operation under way

pub under_way : (p : Phase) → (p ≡ Phase.First) ⊎ ((p ≡ Phase.Second) ⊎ (p ≡ Phase.Relay)) → idle p ≡ false
under_way p (inl e) = ap idle e
under_way p (inr (inl e)) = ap idle e
under_way p (inr (inr e)) = ap idle e

pub busy_judged : {F : Type 0} (s : State F) (r : ℕ) (d : Reader F) (line_passes : Bool) → idle d.phase ≡ false
    → line_passes ≡ (in_journal s d.operation && own_read r (line s d.operation))
    → line_passes ≡ placed s r d
busy_judged s r d line_passes busy e =
    e
    ∙ ap (λ i. (i && eqb d.operation 0)
    || (not i && in_journal s d.operation && own_read r (line s d.operation))) (sym busy)
