-- What is printed for a script.
use Rattle.std.specs.Prelude.{ℕ, ◌+◌, cond, List, [], ◌∷◌, ◌++◌, length, Ok, Err, Result, nat_lt}
use Rattle.quorum.specs.Sets.{Rule}
use Rattle.figure.specs.contracts.order.DigOrderFigureKind.TheImpl.{ghosts as order_kind}
use Rattle.figure.specs.contracts.tide.TideFigureKind.TheImpl.{ghosts as tide_kind}
use Rattle.figure.specs.declared.kind.FigureKind.{Ghosts}
use Rattle.text.specs.Lines.{lines}
use Rattle.model.specs.declared.calls.Call.{Call}
use Rattle.model.specs.declared.answers.Reply.{Reply}
use Rattle.model.specs.State.{State, fresh}
use Rattle.model.specs.Steps.{step}
use Rattle.script.specs.declared.fault.ScriptFault.{ScriptFault}
use Rattle.script.specs.declared.fault.TextFault.{TextFault}
use Rattle.script.specs.declared.header.Header.{Header}
use Rattle.script.specs.declared.header.Kind.{Kind}
use Rattle.script.specs.Answers.{LineAnswer, answer_of, line_shown}
use Rattle.script.specs.Calls.{call_of}
use Rattle.script.specs.Openings.{opening_of}
use Rattle.script.specs.Rules.{rule_said}

-- A CALL LINE

-- The answer to a line, and the state of the register after it.
pub record Turn (F : Type 0) : Type 0 where
  pub answer : LineAnswer F
  pub next : State F

-- A line that says a call is answered by the call's step. Any other is declined and changes nothing.
abbrev pub turned : {F : Type 0} → Rule → State F → Result (Call F) TextFault → Turn F
turned rule s (Ok c) = record { answer = answer_of (step rule s c).reply; next = (step rule s c).next }
turned rule s (Err e) = record { answer = Err (ScriptFault.Text e); next = s }

abbrev pub turn : {F : Type 0} → Ghosts F → Rule → State F → List ℕ → Turn F
turn kind rule s line = turned rule s (call_of kind line)

-- The answers to call lines, which are numbered from n on.
unfoldable pub answers : {F : Type 0} → Ghosts F → Rule → State F → ℕ → List (List ℕ) → List ℕ
answers kind rule s n [] = []
answers kind rule s n (l ∷ ls) =
    line_shown kind.shown n (turn kind rule s l).answer ++ answers kind rule (turn kind rule s l).next (n + 1) ls

-- THE FIRST LINE

-- The register that it sets up: room for 1,024 messages, and a journal of 256 lines.
abbrev pub set_up : {F : Type 0} → Ghosts F → Header → State F
set_up kind h = fresh (rule_said h.rule) kind.starting h.readers 1024 256

-- The answers to the lines behind it.
abbrev pub call_answers : {F : Type 0} → Ghosts F → Header → List (List ℕ) → List ℕ
call_answers kind h ls = answers kind (rule_said h.rule) (set_up kind h) 2 ls

-- The same, by the kind of figure that it names.
abbrev pub by_kind : Kind → Header → List (List ℕ) → List ℕ
by_kind Kind.Tide h ls = call_answers tide_kind h ls
by_kind Kind.Order h ls = call_answers order_kind h ls

-- An answer that shows no figure.
abbrev pub plain_line : ℕ → LineAnswer (Unit {0}) → List ℕ
plain_line n a = line_shown (λ u. []) n a

-- The answer to the first line, and behind it those to the call lines. A declined first line ends the run.
abbrev pub opened : (Header → List ℕ) → Result Header ScriptFault → List ℕ
opened rest (Ok h) = plain_line 1 (Ok Reply.Done) ++ rest h
opened rest (Err e) = plain_line 1 (Err e)

-- The answers to all lines.
abbrev pub script_answers : List (List ℕ) → List ℕ
script_answers [] = []
script_answers (first ∷ ls) = opened (λ h. by_kind h.kind h ls) (opening_of first)

-- THE SCRIPT: one of over 65,536 bytes is not read.

abbrev pub played : List ℕ → List ℕ
played text =
    cond (nat_lt 65536 (length text)) (plain_line 0 (Err (ScriptFault.Text TextFault.NotText)))
    (script_answers (lines text))
