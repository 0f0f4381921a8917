-- A call that does its step makes each history longer, and carries the claims.
use Rattle.std.proofs.Common.{◌≡◌, true, false, [], ◌∷◌, ◌++◌, sym, ap, ◌∙◌, subst}
use Rattle.quorum.specs.Sets.{Rule}
use Rattle.model.specs.declared.calls.Call.{Call}
use Rattle.model.specs.Answers.{Answer}
use Rattle.model.specs.declared.answers.Refusal.{Refusal}
use Rattle.model.specs.State.{State}
use Rattle.model.specs.Sound.{sound}
use Rattle.model.specs.Steps.{Outcome, step, refusal, declined}
use Rattle.model.specs.History.{History, event, Grows, more}
use Rattle.model.proofs.Serving.{serves}
use Rattle.tables.specs.declared.numbers.Numbers.{Numbers}
use Rattle.tables.specs.View.{Tables, view, Fitting}
use Rattle.steps.specs.Doing.{judged, Does}
use Rattle.register.specs.Histories.{Lengthens, Carries}

-- on sound tables the step is what the call comes to behind the check
pub step_sound : {F : Type 0} (rule : Rule) (s : State F) (c : Call F) → sound rule s ≡ true → step rule s c ≡ judged rule s c
unfolding step refusal judged
step_sound rule s c e = rw e

pub step_unsound : {F : Type 0} (rule : Rule) (s : State F) (c : Call F) → sound rule s ≡ false
    → step rule s c ≡ declined s Refusal.Unsound
unfolding step refusal
step_unsound rule s c e = rw e

module _ {F : Type 0} (rule : Rule) (start : F) (c : Call F) where
  pub lengthens : (s s' : State F) → s' ≡ (step rule s c).next → Lengthens rule start c s s'
  lengthens s s' e =
      let longer : (h : History F) → Grows rule start h s → Grows rule start (h ++ event c (step rule s c) ∷ []) s' =
      λ h g. subst (λ (x : State F). Grows rule start (h ++ event c (step rule s c) ∷ []) x) (sym e) (more g c) in
      record { grows = longer; serves = λ h g law. serves F rule law start _ _ (longer h g) }

  pub carries : (o : Outcome F) (n : Numbers) (t : Tables F) (r : Answer F) (n' : Numbers) (t' : Tables F)
      → (Fitting n t → o ≡ step rule (view start n t) c) → (Fitting n t → Fitting n' t') → Does start o n t r n' t'
      → Carries rule start c o n t r n' t'
  carries o n t r n' t' is fits d = record {
    does = d;
    fits = fits;
    lengthens = λ f. lengthens _ _ (d.state ∙ ap (λ (p : Outcome F). p.next) (is f));
  }
