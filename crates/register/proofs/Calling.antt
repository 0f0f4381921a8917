-- A call carries the claims, whatever the lengths of the tables are.
use Rattle.std.proofs.Common.{◌≡◌, true, false, Err, length, sym, refl, ◌∙◌, subst}
use Rattle.std.specs.Result.{IsErrAnd}
use Rattle.std.proofs.lemmas.Bool.{and_parts, eqb-true, eq-eqb}
use Rattle.std.proofs.lemmas.Result.{err_from_is_err_and}
use Rattle.quorum.specs.Sets.{Rule}
use Rattle.quorum.specs.declared.system.QuorumSystem.{Ghosts}
use Rattle.model.specs.declared.calls.Call.{Call}
use Rattle.model.specs.Answers.{Answer}
use Rattle.model.specs.declared.answers.Refusal.{Refusal}
use Rattle.model.specs.Sound.{sound}
use Rattle.model.specs.Steps.{Outcome, step}
use Rattle.tables.specs.declared.numbers.Numbers.{Numbers}
use Rattle.tables.specs.View.{Tables, view, Fitting, Kept}
use Rattle.steps.specs.Doing.{judged, Does, SameSizes}
use Rattle.register.specs.Histories.{Carries}
use Rattle.register.specs.declared.service.Register.{Register}
use Rattle.register.specs.Calls.{fits, answered, meaning, Plays, Checked, Declines}
use Rattle.register.proofs.Histories.{step_sound, step_unsound, carries}
use Rattle.steps.proofs.Judging.{declines}

-- LENGTHS

module _ {F : Type 0} (n : Numbers) (t : Tables F) where
  pub fits_tells : fits n t ≡ true → Fitting n t
  fits_tells e =
      let a = and_parts _ _ e in
      let b = and_parts _ _ a.0 in
      let c = and_parts _ _ b.0 in
      let d = and_parts _ _ c.0 in
      record {
        replicas = eqb-true _ _ d.0;
        readers = eqb-true _ _ d.1;
        marks = eqb-true _ _ c.1;
        messages = eqb-true _ _ b.1;
        journal = eqb-true _ _ a.1;
      }

  pub fitting_tells : Fitting n t → fits n t ≡ true
  fitting_tells f =
      rw (eq-eqb _ _ f.replicas, eq-eqb _ _ f.readers, eq-eqb _ _ f.marks, eq-eqb _ _ f.messages, eq-eqb _ _ f.journal)

-- The tables have their lengths still.
pub record SameLengths {F : Type 0} (t t' : Tables F) : Type 0 where
  pub replicas : length t'.replicas ≡ length t.replicas
  pub readers : length t'.readers ≡ length t.readers
  pub marks : length t'.marks ≡ length t.marks
  pub messages : length t'.messages ≡ length t.messages
  pub journal : length t'.journal ≡ length t.journal

pub same_lengths : {F : Type 0} (t : Tables F) → SameLengths t t
same_lengths t = record { replicas = refl; readers = refl; marks = refl; messages = refl; journal = refl }

fitting_still : {F : Type 0} {n n' : Numbers} {t t' : Tables F} → SameSizes n n' → SameLengths t t' → Fitting n t → Fitting n' t'
fitting_still {F} {n} {n'} sizes lengths f = record {
  replicas = lengths.replicas ∙ f.replicas ∙ sym sizes.replicas;
  readers = lengths.readers ∙ f.readers ∙ sym sizes.readers;
  marks = lengths.marks ∙ f.marks ∙ rw (sizes.replicas, sizes.readers);
  messages = lengths.messages ∙ f.messages ∙ sym sizes.message_room;
  journal = lengths.journal ∙ f.journal ∙ sym sizes.journal_room;
}

-- THE STEP

module _ {F : Type 0} (rule : Rule) (start : F) (n : Numbers) (t : Tables F) where
  pub answered_fitting : Fitting n t → (c : Call F) → answered rule start n t c ≡ step rule (view start n t) c
  unfolding answered
  answered_fitting f c = rw (fitting_tells n t f)

  pub declines_lengths : fits n t ≡ false → Declines rule start n t Refusal.TableLength
  unfolding answered
  declines_lengths e c = rw e

  pub declines_unsound : fits n t ≡ true → sound rule (view start n t) ≡ false → Declines rule start n t Refusal.Unsound
  unfolding answered
  declines_unsound e u c = rw e (step_unsound rule (view start n t) c u)

  module _ (c : Call F) (r : Answer F) (n' : Numbers) (t' : Tables F) where
    carries_answered : SameLengths t t' → Does start (answered rule start n t c) n t r n' t'
        → Carries rule start c (answered rule start n t c) n t r n' t'
    carries_answered lengths d = carries rule start c _ n t r n' t' (λ f. answered_fitting f c) (fitting_still d.sizes lengths) d

    -- behind the check, what the call comes to on sound tables
    carries_judged : Checked rule start n t → SameLengths t t' → Does start (judged rule (view start n t) c) n t r n' t'
        → Carries rule start c (answered rule start n t c) n t r n' t'
    carries_judged checked lengths d =
        carries_answered lengths
        (subst (λ (o : Outcome F). Does start o n t r n' t')
        (sym (answered_fitting checked.fitting c ∙ step_sound rule (view start n t) c checked.is_sound)) d)

  -- before it, a refusal
  carries_declined : (c : Call F) (e : Refusal) → Kept n → Declines rule start n t e
      → Carries rule start c (answered rule start n t c) n t (Err e) n t
  carries_declined c e kept all = carries_answered c (Err e) n t (same_lengths t) (declines start _ n t e kept (all c))

-- THE REGISTER

module _ {R F : Type 0} {g : Ghosts R} (x : Register R F) {t : Tables F} where
  -- where the check's refusal is handed on
  pub plays_declined : {c : Call F} (r : Answer F) (e : Refusal) → IsErrAnd r (λ y. y ≡ e)
      → Declines (meaning g x) x.start x.numbers t e → Plays g c x t r x t
  plays_declined {c} r e is all =
      let p = err_from_is_err_and r is in
      rw (p.1, p.2)
      (record {
        rule = refl;
        start = refl;
        untouched = λ _. refl;
        carries = carries_declined _ _ _ _ c e x.kept all;
      })

  pub plays_judged : {c : Call F} {r : Answer F} {n' : Numbers} {t' : Tables F} (x' : Register R F) → x'.rule ≡ x.rule
      → x'.start ≡ x.start → x'.numbers ≡ n' → Checked (meaning g x) x.start x.numbers t → SameLengths t t'
      → Does x.start (judged (meaning g x) (view x.start x.numbers t) c) x.numbers t r n' t' → Plays g c x t r x' t'
  plays_judged {c} {r} {n'} {t'} x' rule start numbers checked lengths d = record {
    rule = rule;
    start = start;
    untouched = λ e. let f = fitting_tells x.numbers t checked.fitting in cc;
    carries = rw numbers (carries_judged _ _ _ _ c r n' t' checked lengths d);
  }
