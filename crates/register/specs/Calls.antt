-- What a call on the register comes to with these tables, and what it carries: the claims over every history that led there.
use Rattle.std.specs.Prelude.{◌≡◌, Bool, true, false, cond, ◌&&◌, length, ◌==◌}
use Rattle.quorum.specs.Sets.{Rule}
use Rattle.quorum.specs.declared.system.QuorumSystem.{Ghosts}
use Rattle.model.specs.declared.calls.Call.{Call}
use Rattle.model.specs.Answers.{Answer}
use Rattle.model.specs.declared.answers.Refusal.{Refusal}
use Rattle.model.specs.Sound.{sound}
use Rattle.model.specs.Steps.{Outcome, declined, step}
use Rattle.tables.specs.declared.numbers.Numbers.{Numbers}
use Rattle.register.specs.declared.service.Register.{Register}
use Rattle.tables.specs.View.{Tables, view, Fitting, rule_for}
use Rattle.register.specs.Histories.{Carries}
use Rattle.register.specs.Commissioning.{parties_fit}

-- Whether the tables have the lengths that the register was commissioned with.
abbrev pub fits : {F : Type 0} → Numbers → Tables F → Bool
fits n t =
    parties_fit n.replicas n.readers (length t.replicas) (length t.readers) (length t.marks)
    && length t.messages == n.message_room && length t.journal == n.journal_room

-- What a call comes to: the model's step, or a refusal where a table has another length.
unfoldable pub answered : {F : Type 0} → Rule → F → Numbers → Tables F → Call F → Outcome F
answered rule start n t c =
    cond (fits n t) (step rule (view start n t) c) (declined (view start n t) Refusal.TableLength)

-- THE REGISTER

-- What its rule means, over the replicas that it was commissioned for.
abbrev pub meaning : {R F : Type 0} → Ghosts R → Register R F → Rule
meaning g x = rule_for g x.rule x.numbers.replicas

-- A call on the register: it keeps its rule and its starting figure, and carries the claims. Declined for a length, it keeps
-- its numbers too, of which tables that are too short say nothing.
pub record Plays {R F : Type 0} (g : Ghosts R) (c : Call F) (x : Register R F) (t : Tables F) (r : Answer F)
    (x' : Register R F) (t' : Tables F) : Type 0 where
  pub rule : x'.rule ≡ x.rule
  pub start : x'.start ≡ x.start
  pub untouched : fits x.numbers t ≡ false → x'.numbers ≡ x.numbers
  pub carries : Carries (meaning g x) x.start c (answered (meaning g x) x.start x.numbers t c) x.numbers t r x'.numbers t'

-- Tables that are no reason to decline a call.
pub record Checked {F : Type 0} (rule : Rule) (start : F) (n : Numbers) (t : Tables F) : Type 0 where
  pub fitting : Fitting n t
  pub is_sound : sound rule (view start n t) ≡ true

-- Whatever is called on these tables, it is declined with this refusal.
abbrev pub Declines : {F : Type 0} → Rule → F → Numbers → Tables F → Refusal → Type 0
Declines {F} rule start n t e = (c : Call F) → answered rule start n t c ≡ declined (view start n t) e
