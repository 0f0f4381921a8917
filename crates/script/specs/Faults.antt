-- What is reported of a fault: the layer that found it, its number, and the field found wrong.
use Rattle.std.specs.Prelude.{ℕ, ◌+◌, List, codes}
use Rattle.quorum.specs.Refusals.{number as rule_number}
use Rattle.model.specs.Answers.{number as plant_number}
use Rattle.figure.specs.Faults.{fault_number, fault_field}
use Rattle.figure.specs.declared.fault.FigureFault.{FigureFault}
use Rattle.script.specs.declared.fault.TextFault.{TextFault}
use Rattle.script.specs.declared.fault.ScriptFault.{ScriptFault}

pub record Report : Type 0 where
  pub layer : List ℕ
  pub number : ℕ
  -- counted from 0, and 0 where the fault names none
  pub field : ℕ

abbrev pub in_text : ℕ → ℕ → Report
in_text number field = record { layer = codes "text"; number = number; field = field }

-- A figure's first field is field 1 of its line: so the field is 1 to 3.
abbrev pub in_figure : FigureFault → Report
in_figure e = record { layer = codes "figure"; number = fault_number e; field = fault_field e + 1 }

-- An unknown word is in 0, 1 or 3 of a first line and in 0, 1 or 2 of a call line; a bad number in 2 or 4 to 7 of a first line
-- and in 1 or 2 of a call line.
abbrev pub text_report : TextFault → Report
text_report TextFault.NotText = in_text 12 0
text_report (TextFault.UnknownWord field) = in_text 13 field
text_report TextFault.FieldCount = in_text 14 0
text_report (TextFault.BadNumber field) = in_text 15 field
text_report (TextFault.Figure e) = in_figure e

-- The layers with their numbers: text 12 to 15, figure 13 and 15, rule 1 and 2, plant 3 to 11, print 16.
abbrev pub report : ScriptFault → Report
report (ScriptFault.Text e) = text_report e
report (ScriptFault.Rule e) = record { layer = codes "rule"; number = rule_number e; field = 0 }
report (ScriptFault.Plant e) = record { layer = codes "plant"; number = plant_number e; field = 0 }
report ScriptFault.Print = record { layer = codes "print"; number = 16; field = 0 }
