-- A history leads to sound tables only, and no call of it is declined for its tables.
use Rattle.std.proofs.Common.{◌≡◌, ℕ, Bool, true, false, not, [], ◌∷◌, ◌++◌, Some, Option, sym, refl, ap, ◌∙◌, subst, inl, inr, true≢false, Ok, Err}
use Rattle.std.specs.List.{AllByRecursion as All}
use Rattle.std.proofs.lemmas.Bool.{cond_both, le-ltb}
use Rattle.quorum.specs.Sets.{Rule}
use Rattle.model.specs.declared.calls.Call.{Call}
use Rattle.model.specs.declared.answers.Refusal.{Refusal}
use Rattle.model.specs.State.{State, message}
use Rattle.model.specs.Sound.{sound}
use Rattle.model.specs.Steps.{Outcome, declined, done, ahead, Tests, tests, first_of, refusal, overfull, settled, step}
use Rattle.model.specs.History.{Event, History, event, Grows, begun, more}
use Rattle.model.specs.Claims.{Undisturbed}
use Rattle.model.specs.Reached.{ReachesSound}
use Rattle.model.proofs.Lists.{at_cases}
use Rattle.model.proofs.SoundCalls.{fresh_sound, sound_kept}
use Rattle.model.proofs.Behind.{Behind, Granted, message_low, done_behind, fresh_behind, behind_kept}
use Rattle.model.specs.Answers.{Answer}

-- The refusals that tell of tables that no call leaves.
abbrev disturbing : Refusal → Bool
disturbing Refusal.TableLength = false
disturbing Refusal.Unsound = true
disturbing Refusal.NoSuchParty = false
disturbing Refusal.Halted = false
disturbing Refusal.Busy = false
disturbing Refusal.JournalFull = false
disturbing Refusal.NoRoom = false
disturbing Refusal.NoMessage = false
disturbing Refusal.StampAhead = true

abbrev Calm : {F : Type 0} → Answer F → Type 0
Calm (Ok r) = Unit {0}
Calm (Err e) = disturbing e ≡ false

granted_calm : {F : Type 0} (r : Answer F) → Granted r → Calm r
granted_calm (Ok r) g = tt
granted_calm (Err e) g = absurd g

-- A test that holds declines for another reason.
abbrev Harmless : (Bool × Refusal) → Type 0
Harmless t = t.0 ≡ true → disturbing t.1 ≡ false

module _ {F : Type 0} where
  settled_calm : (s : State F) (ts : Tests) (o : Outcome F) → All Harmless ts → Calm o.reply
      → Calm (settled s (first_of ts) o).reply
  settled_calm s [] o h calm =
      cond_both (overfull s o) (declined s Refusal.NoRoom) o (λ (p : Outcome F). Calm p.reply) (λ _. refl)
      (λ _. calm)
  settled_calm s (t ∷ ts) o h calm =
      cond_both t.0 (Some t.1) (first_of ts) (λ (e : Option Refusal). Calm (settled s e o).reply) h.0
      (λ _. settled_calm s ts o h.1 calm)

  module _ (rule : Rule) (s : State F) (behind : Behind s) where
    not_ahead : (place : ℕ) → ahead s (message s place).stamp ≡ true → ⊥
    not_ahead place e = true≢false (sym e ∙ le-ltb _ _ (message_low s behind place))

    tests_harmless : (c : Call F) → All Harmless (tests rule s c)
    unfolding tests
    tests_harmless (Call.Write f) = (λ _. refl, (λ _. refl, (λ _. refl, tt)))
    tests_harmless (Call.Read r kind) = (λ _. refl, (λ _. refl, (λ _. refl, (λ _. refl, tt))))
    tests_harmless (Call.Deliver place) = (λ _. refl, (λ e. absurd (not_ahead place e), tt))
    tests_harmless (Call.Drop place) = (λ _. refl, tt)
    tests_harmless (Call.Duplicate place) = (λ _. refl, tt)
    tests_harmless (Call.Halt p) = (λ _. refl, (λ _. refl, tt))

    step_calm : sound rule s ≡ true → (c : Call F) → Calm (step rule s c).reply
    unfolding step refusal
    step_calm h c =
        settled_calm s ((not (sound rule s), Refusal.Unsound) ∷ tests rule s c) (done rule s c)
        (λ e. absurd (true≢false (sym e ∙ ap not h)), tests_harmless c)
        (granted_calm _ (done_behind rule s behind c).1)

  -- A calm answer is neither of the two.
  calm_tells : (r : Answer F) → Calm r
      → (r ≡ Err Refusal.Unsound → ⊥) × (r ≡ Err Refusal.StampAhead → ⊥)
  calm_tells r calm = (λ e. true≢false (subst Calm e calm), λ e. true≢false (subst Calm e calm))

  record Reached (rule : Rule) (h : History F) (s : State F) : Type 0 where
    undisturbed : Undisturbed h
    is_sound : sound rule s ≡ true
    behind : Behind s

  reached_more : (rule : Rule) (h : History F) (s : State F) → Reached rule h s → (c : Call F)
      → Reached rule (h ++ event c (step rule s c) ∷ []) (step rule s c).next
  reached_more rule h s g c = record {
    undisturbed = λ m e at. elim (at_cases h (event c (step rule s c)) m e at) [
      | inl old ↦ g.undisturbed m e old
      | inr new ↦ subst
          (λ (x : Event F). (x.reply ≡ Err Refusal.Unsound → ⊥) ×
          (x.reply ≡ Err Refusal.StampAhead → ⊥))
          new.1 (calm_tells _ (step_calm rule s g.behind g.is_sound c))
    ];
    is_sound = sound_kept rule s c g.is_sound;
    behind = behind_kept rule s c g.behind;
  }

  reached : (rule : Rule) (start : F) {h : History F} {s : State F} → Grows rule start h s → Reached rule h s
  reached rule start (begun readers message_room journal_room) = record {
    undisturbed = λ m e at. absurd at;
    is_sound = fresh_sound rule start readers message_room journal_room;
    behind = fresh_behind rule start readers message_room journal_room;
  }
  reached rule start (more {h = h} {s = s} grown c) = reached_more rule h s (reached rule start grown) c

pub reaches_sound : (F : Type 0) → ReachesSound F
reaches_sound F rule start h s grown = (reached rule start grown).is_sound

pub stays_undisturbed : (F : Type 0) (rule : Rule) (start : F) (h : History F) (s : State F) → Grows rule start h s
    → Undisturbed h
stays_undisturbed F rule start h s grown = (reached rule start grown).undisturbed
