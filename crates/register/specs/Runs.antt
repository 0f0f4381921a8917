-- A list of calls, one after the other, and the history that they make.
use Rattle.std.specs.Prelude.{◌≡◌, List, [], ◌∷◌, ◌++◌}
use Rattle.quorum.specs.Sets.{Rule}
use Rattle.quorum.specs.Laws.{Lawful}
use Rattle.quorum.specs.declared.system.QuorumSystem.{Ghosts}
use Rattle.model.specs.declared.calls.Call.{Call}
use Rattle.model.specs.Answers.{Answer}
use Rattle.model.specs.State.{State}
use Rattle.model.specs.History.{History, Grows, run, replies}
use Rattle.model.specs.Claims.{Served}
use Rattle.register.specs.declared.service.Register.{Register}
use Rattle.tables.specs.View.{Tables, view, Fitting}
use Rattle.register.specs.Calls.{Plays, meaning}

-- Each call is done on what the one before left, and the answers are in the order of the calls. One says what a call does.
pub data Trace {F S : Type 0} (One : Call F → S → Answer F → S → Type 0) (s : S)
    : List (Call F) → List (Answer F) → S → Type 0 where
  begun : Trace One s [] [] s
  then : {cs : List (Call F)} {rs : List (Answer F)} {s' : S} → Trace One s cs rs s'
      → (c : Call F) (r : Answer F) (s'' : S) → One c s' r s'' → Trace One s (cs ++ c ∷ []) (rs ++ r ∷ []) s''

-- The history h, which led to the state s, becomes longer by that of the calls, whose answers are those given, and leads to s'.
-- Under a lawful rule the whole is served.
pub record Extends {F : Type 0} (rule : Rule) (start : F) (cs : List (Call F)) (s : State F) (rs : List (Answer F))
    (s' : State F) (h : History F) : Type 0 where
  pub answers : rs ≡ replies (run rule s cs).history
  pub grows : Grows rule start (h ++ (run rule s cs).history) s'
  pub serves : Lawful rule → Served rule start (h ++ (run rule s cs).history) s'

-- ON A REGISTER with the tables that it is lent

abbrev pub Ran : {R F : Type 0} → Ghosts R → Register R F → Tables F → List (Call F) → List (Answer F)
    → Register R F → Tables F → Type 0
Ran {R} {F} g x t cs rs x' t' =
    Trace (λ c (p : Register R F × Tables F) r (q : Register R F × Tables F). Plays g c p.0 p.1 r q.0 q.1)
    (x, t) cs rs (x', t')

pub record Runs {R F : Type 0} (g : Ghosts R) (cs : List (Call F)) (x : Register R F) (t : Tables F) (rs : List (Answer F))
    (x' : Register R F) (t' : Tables F) : Type 0 where
  pub ran : Ran g x t cs rs x' t'
  pub fits : Fitting x.numbers t → Fitting x'.numbers t'
  pub extends : Fitting x.numbers t → (h : History F) → Grows (meaning g x) x.start h (view x.start x.numbers t)
      → Extends (meaning g x) x.start cs (view x.start x.numbers t) rs (view x.start x'.numbers t') h
