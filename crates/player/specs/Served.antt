-- The claims over a script: its calls and the answers that are printed for them are one history, and that is served.
use Rattle.std.specs.Prelude.{◌≡◌, ℕ, ◌+◌, ◌≤◌, List, [], ◌∷◌, ◌++◌, length, Ok, Err, Result}
use Rattle.quorum.specs.Laws.{Lawful}
use Rattle.figure.specs.contracts.order.DigOrderFigureKind.TheImpl.{ghosts as order_kind}
use Rattle.figure.specs.contracts.tide.TideFigureKind.TheImpl.{ghosts as tide_kind}
use Rattle.figure.specs.declared.kind.FigureKind.{Ghosts}
use Rattle.text.specs.Lines.{lines}
use Rattle.model.specs.declared.calls.Call.{Call}
use Rattle.model.specs.Answers.{Answer}
use Rattle.model.specs.History.{Run, run, replies}
use Rattle.model.specs.Claims.{Served}
use Rattle.script.specs.declared.fault.ScriptFault.{ScriptFault}
use Rattle.script.specs.declared.fault.TextFault.{TextFault}
use Rattle.script.specs.declared.header.Header.{Header}
use Rattle.script.specs.declared.header.Kind.{Kind}
use Rattle.script.specs.Answers.{answer_of, line_shown}
use Rattle.script.specs.Calls.{call_of}
use Rattle.script.specs.Openings.{opening_of}
use Rattle.script.specs.Rules.{rule_said}
use Rattle.model.specs.declared.answers.Reply.{Reply}
use Rattle.player.specs.Playing.{set_up, plain_line}

-- The calls that lines say, in their order.
abbrev pub call_or : {F : Type 0} → Result (Call F) TextFault → List (Call F) → List (Call F)
call_or (Ok c) cs = c ∷ cs
call_or (Err e) cs = cs

unfoldable pub calls_in : {F : Type 0} → Ghosts F → List (List ℕ) → List (Call F)
calls_in kind [] = []
calls_in kind (l ∷ ls) = call_or (call_of kind l) (calls_in kind ls)

-- The lines that are printed, from n on, where the calls have these replies: each line that says no call is declined, and
-- each that says one is answered by the next reply.
abbrev pub reply_line : {F : Type 0} → Ghosts F → (ℕ → List (Answer F) → List ℕ) → ℕ → Result (Call F) TextFault
    → List (Answer F) → List ℕ
reply_line kind rest n (Err e) rs = line_shown kind.shown n (Err (ScriptFault.Text e)) ++ rest (n + 1) rs
reply_line kind rest n (Ok c) [] = []
reply_line kind rest n (Ok c) (r ∷ rs) = line_shown kind.shown n (answer_of r) ++ rest (n + 1) rs

unfoldable pub reply_lines : {F : Type 0} → Ghosts F → List (List ℕ) → ℕ → List (Answer F) → List ℕ
reply_lines kind [] n rs = []
reply_lines kind (l ∷ ls) n rs = reply_line kind (reply_lines kind ls) n (call_of kind l) rs

-- The run of a script's calls.
abbrev pub script_run : {F : Type 0} → Ghosts F → Header → List (List ℕ) → Run F
script_run kind h ls = run (rule_said h.rule) (set_up kind h) (calls_in kind ls)

-- The rule is lawful; what is printed is the answer to the first line and then those of the run, and its history is served.
pub record ServedCalls {F : Type 0} (kind : Ghosts F) (h : Header) (ls : List (List ℕ)) (out : List ℕ) : Type 0 where
  pub lawful : Lawful (rule_said h.rule)
  pub prints : out ≡ plain_line 1 (Ok Reply.Done) ++ reply_lines kind ls 2 (replies (script_run kind h ls).history)
  pub served : Served (rule_said h.rule) kind.starting (script_run kind h ls).history (script_run kind h ls).state

abbrev pub served_kind : Kind → Header → List (List ℕ) → List ℕ → Type 0
served_kind Kind.Tide h ls out = ServedCalls tide_kind h ls out
served_kind Kind.Order h ls out = ServedCalls order_kind h ls out

-- What is printed for a script whose first line is accepted.
abbrev pub served_script : List (List ℕ) → List ℕ → Type 0
served_script [] out = Unit {0}
served_script (first ∷ ls) out = (h : Header) → opening_of first ≡ Ok h → served_kind h.kind h ls out

abbrev pub ScriptServed : List ℕ → List ℕ → Type 0
ScriptServed text out = length text ≤ 65536 → served_script (lines text) out
