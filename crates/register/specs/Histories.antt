-- What a call on the register carries: its outcome, every place of the tables, and the claims over every history that led there.
use Rattle.std.specs.Prelude.{[], ◌∷◌, ◌++◌}
use Rattle.quorum.specs.Sets.{Rule}
use Rattle.quorum.specs.Laws.{Lawful}
use Rattle.model.specs.declared.calls.Call.{Call}
use Rattle.model.specs.Answers.{Answer}
use Rattle.model.specs.State.{State}
use Rattle.model.specs.Steps.{Outcome, step}
use Rattle.model.specs.History.{History, event, Grows}
use Rattle.model.specs.Claims.{Served}
use Rattle.tables.specs.declared.numbers.Numbers.{Numbers}
use Rattle.tables.specs.View.{Tables, view, Fitting}
use Rattle.steps.specs.Doing.{Does}

-- Each history that led to the state s becomes longer by the event of the call, and leads to s'. Under a lawful rule the
-- longer one is served.
pub record Lengthens {F : Type 0} (rule : Rule) (start : F) (c : Call F) (s s' : State F) : Type 0 where
  pub grows : (h : History F) → Grows rule start h s → Grows rule start (h ++ event c (step rule s c) ∷ []) s'
  pub serves : (h : History F) → Grows rule start h s → Lawful rule
      → Served rule start (h ++ event c (step rule s c) ∷ []) s'

-- A call comes to this outcome. On tables that have their lengths, which they keep, it makes each history longer.
pub record Carries {F : Type 0} (rule : Rule) (start : F) (c : Call F) (o : Outcome F) (n : Numbers) (t : Tables F) (r : Answer F)
    (n' : Numbers) (t' : Tables F) : Type 0 where
  pub does : Does start o n t r n' t'
  pub fits : Fitting n t → Fitting n' t'
  pub lengthens : Fitting n t → Lengthens rule start c (view start n t) (view start n' t')
