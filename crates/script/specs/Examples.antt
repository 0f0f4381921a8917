-- What the worked example lines come to, as text.
use Rattle.std.specs.Prelude.{ℕ, List, ◌∷◌, ◌++◌, Ok, Err, codes, Result}
use Rattle.figure.specs.contracts.order.DigOrderFigureKind.TheImpl.{ghosts as order_kind}
use Rattle.figure.specs.contracts.tide.TideFigureKind.TheImpl.{ghosts as tide_kind}
use Rattle.figure.specs.declared.kind.FigureKind.{Ghosts}
use Rattle.model.specs.declared.calls.Call.{Call}
use Rattle.model.specs.declared.journal.ReadKind.{ReadKind}
use Rattle.model.specs.declared.parties.Party.{Party}
use Rattle.script.specs.declared.header.Header.{Header}
use Rattle.script.specs.declared.header.Kind.{Kind}
use Rattle.script.specs.declared.header.RuleText.{RuleText}
use Rattle.script.specs.Answers.{tabbed, declined_shown}
use Rattle.script.specs.Calls.{call_of}
use Rattle.script.specs.Faults.{Report, text_report, report}
use Rattle.script.specs.Openings.{opening_of}

abbrev pub read_kind_shown : ReadKind → List ℕ
read_kind_shown ReadKind.Quick = codes "quick"
read_kind_shown ReadKind.Settled = codes "settled"
read_kind_shown ReadKind.Relay = codes "relay"

abbrev pub party_shown : Party → List ℕ
party_shown (Party.Replica n) = codes "cabinet" ++ tabbed n
party_shown (Party.Reader n) = codes "console" ++ tabbed n
party_shown Party.Writer = codes "station"

-- A call as the line that says it.
abbrev pub call_shown : {F : Type 0} → (F → List ℕ) → Call F → List ℕ
call_shown shown (Call.Write f) = codes "W\t" ++ shown f
call_shown shown (Call.Read n kind) = (codes "R" ++ tabbed n) ++ (9 ∷ read_kind_shown kind)
call_shown shown (Call.Deliver n) = codes "D" ++ tabbed n
call_shown shown (Call.Drop n) = codes "X" ++ tabbed n
call_shown shown (Call.Duplicate n) = codes "A" ++ tabbed n
call_shown shown (Call.Halt p) = codes "H\t" ++ party_shown p

abbrev pub kind_shown : Kind → List ℕ
kind_shown Kind.Tide = codes "tide"
kind_shown Kind.Order = codes "order"

abbrev pub rule_shown : RuleText → List ℕ
rule_shown (RuleText.Count s f) = (codes "\tcount" ++ tabbed s) ++ tabbed f
rule_shown (RuleText.Grid r c) = (codes "\tgrid" ++ tabbed r) ++ tabbed c
rule_shown (RuleText.Lead k s f) = ((codes "\tlead" ++ tabbed k) ++ tabbed s) ++ tabbed f
rule_shown (RuleText.Groups g f n e) = (((codes "\tgroups" ++ tabbed g) ++ tabbed f) ++ tabbed n) ++ tabbed e

-- A header as the line that says it.
abbrev pub header_shown : Header → List ℕ
header_shown h = ((codes "plant\t" ++ kind_shown h.kind) ++ tabbed h.readers) ++ rule_shown h.rule

-- What was read, written again, or what declines it.
abbrev pub said : {A E : Type 0} → (A → List ℕ) → (E → Report) → Result A E → List ℕ
said shown reported (Ok a) = shown a
said shown reported (Err e) = declined_shown (reported e)

abbrev pub call_said : {F : Type 0} → Ghosts F → List ℕ → List ℕ
call_said kind line = said (call_shown kind.shown) text_report (call_of kind line)

-- A call line to a register of tides, and to one of orders.
abbrev pub tide_said : List ℕ → List ℕ
tide_said line = call_said tide_kind line

abbrev pub order_said : List ℕ → List ℕ
order_said line = call_said order_kind line

-- A first line.
abbrev pub first_said : List ℕ → List ℕ
first_said line = said header_shown report (opening_of line)
