-- The claims over a script.
use Rattle.std.proofs.Common.{◌≡◌, ℕ, ◌+◌, Bool, cond, List, [], ◌∷◌, ◌++◌, length, None, Some, Option, Ok, Err, Result, refl, ap, sym, subst}
use Rattle.std.specs.Option.{IfSome}
use Rattle.quorum.specs.Sets.{Rule}
use Rattle.std.proofs.lemmas.Bool.{le-ltb}
use Rattle.figure.specs.contracts.order.DigOrderFigureKind.TheImpl.{ghosts as order_kind}
use Rattle.figure.specs.contracts.tide.TideFigureKind.TheImpl.{ghosts as tide_kind}
use Rattle.figure.specs.declared.kind.FigureKind.{Ghosts}
use Rattle.text.specs.Lines.{lines}
use Rattle.model.specs.declared.calls.Call.{Call}
use Rattle.model.specs.State.{State}
use Rattle.model.specs.Steps.{step}
use Rattle.model.specs.History.{run, replies, begun}
use Rattle.model.proofs.Runs.{runs_grow}
use Rattle.model.proofs.Serving.{serves}
use Rattle.script.specs.declared.fault.ScriptFault.{ScriptFault}
use Rattle.script.specs.declared.fault.TextFault.{TextFault}
use Rattle.script.specs.declared.header.Header.{Header}
use Rattle.script.specs.declared.header.Kind.{Kind}
use Rattle.script.specs.Answers.{answer_of, line_shown}
use Rattle.script.specs.Calls.{call_of}
use Rattle.script.specs.Openings.{opening}
use Rattle.script.specs.Rules.{rule_said}
use Rattle.model.specs.declared.answers.Reply.{Reply}
use Rattle.player.specs.Playing.{turned, answers, set_up, plain_line, call_answers, by_kind, opened, script_answers, played}
use Rattle.player.specs.Served.{call_or, calls_in, reply_line, reply_lines, ServedCalls, served_kind, served_script, ScriptServed}
use Rattle.player.proofs.Opened.{opens, laws}

module _ {F : Type 0} (kind : Ghosts F) (rule : Rule) where
  -- the answers line by line are the answers of the run of all calls
  prints : (ls : List (List ℕ)) (s : State F) (n : ℕ)
      → answers kind rule s n ls ≡ reply_lines kind ls n (replies (run rule s (calls_in kind ls)).history)
  unfolding answers reply_lines calls_in run
  prints [] s n = refl
  prints (l ∷ ls) s n = by (λ t. prints ls t (n + 1)) (call_of kind l)
    where
      by : ((t : State F) → answers kind rule t (n + 1) ls ≡ reply_lines kind ls (n + 1) (replies (run rule t (calls_in kind ls)).history))
          → (r : Result (Call F) TextFault)
          → line_shown kind.shown n (turned rule s r).answer ++ answers kind rule (turned rule s r).next (n + 1) ls
          ≡ reply_line kind (reply_lines kind ls) n r (replies (run rule s (call_or r (calls_in kind ls))).history)
      by rest (Ok c) = ap (λ x. line_shown kind.shown n (answer_of (step rule s c).reply) ++ x) (rest (step rule s c).next)
      by rest (Err e) = ap (λ x. line_shown kind.shown n (Err (ScriptFault.Text e)) ++ x) (rest s)

served_calls : {F : Type 0} (kind : Ghosts F) (h : Header) (ls : List (List ℕ)) → opening h ≡ None
    → ServedCalls kind h ls (plain_line 1 (Ok Reply.Done) ++ call_answers kind h ls)
served_calls {F} kind h ls e = record {
  lawful = laws h e;
  prints = ap (λ (l : List ℕ). plain_line 1 (Ok Reply.Done) ++ l) (prints kind (rule_said h.rule) ls (set_up kind h) 2);
  served =
      serves F (rule_said h.rule) (laws h e) kind.starting _ _
      (runs_grow (rule_said h.rule) kind.starting [] (set_up kind h) (begun h.readers 1024 256) (calls_in kind ls));
}

said_by_kind : (k : Kind) (h : Header) (ls : List (List ℕ)) → opening h ≡ None
    → served_kind k h ls (plain_line 1 (Ok Reply.Done) ++ by_kind k h ls)
said_by_kind Kind.Tide h ls e = served_calls tide_kind h ls e
said_by_kind Kind.Order h ls e = served_calls order_kind h ls e

pub by_lines : (ls : List (List ℕ)) → served_script ls (script_answers ls)
by_lines [] = tt
by_lines (first ∷ ls) = λ h e.
    subst (λ (r : Result Header ScriptFault). served_kind h.kind h ls (opened (λ g. by_kind g.kind g ls) r)) (sym e)
    (said_by_kind h.kind h ls (opens first h e))

pub served_text : (text : List ℕ) → ScriptServed text (played text)
served_text text few =
    subst (λ (b : Bool). served_script (lines text) (cond b (plain_line 0 (Err (ScriptFault.Text TextFault.NotText))) (script_answers (lines text))))
    (sym (le-ltb 65536 (length text) few)) (by_lines (lines text))

pub served_read : (known : Option (List ℕ)) → IfSome known (λ bytes. ScriptServed bytes (played bytes))
served_read None = tt
served_read (Some bytes) = served_text bytes

pub script_served : (text : List ℕ) (out : List ℕ) → out ≡ played text → ScriptServed text out
script_served text out e = subst (λ (o : List ℕ). ScriptServed text o) (sym e) (served_text text)
