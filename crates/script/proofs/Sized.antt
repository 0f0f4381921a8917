-- How long the answers are.
use Rattle.std.proofs.Common.{ℕ, ◌+◌, ◌^◌, ◌<◌, ◌≤◌, length, arith}
use Rattle.std.proofs.lemmas.Fmt.{length-decimal-le}
use Rattle.script.specs.declared.fault.TextFault.{TextFault}
use Rattle.script.specs.declared.fault.ScriptFault.{ScriptFault}
use Rattle.script.specs.Faults.{report}
use Rattle.script.specs.Answers.{tabbed}

-- a layer's word is short
pub layer_short : (e : ScriptFault) → length (report e).layer ≤ 6
layer_short (ScriptFault.Text TextFault.NotText) = omega arith
layer_short (ScriptFault.Text (TextFault.UnknownWord f)) = omega arith
layer_short (ScriptFault.Text TextFault.FieldCount) = omega arith
layer_short (ScriptFault.Text (TextFault.BadNumber f)) = omega arith
layer_short (ScriptFault.Text (TextFault.Figure e)) = omega arith
layer_short (ScriptFault.Rule e) = omega arith
layer_short (ScriptFault.Plant e) = omega arith
layer_short ScriptFault.Print = omega arith

-- a number of so many digits behind a tab
pub tabbed_short : (digits n : ℕ) → 0 < digits → n < 10 ^ digits → n < 2 ^ 64 → length (tabbed n) ≤ digits + 1
tabbed_short digits n some small fits = let d = length-decimal-le digits n some small fits in omega arith

-- the parts of a finished answer
pub record FinishedSizes (operation stamp sent exchanges : ℕ) : Type 0 where
  pub operation_short : length (tabbed operation) ≤ 6
  pub stamp_short : length (tabbed stamp) ≤ 11
  pub sent_short : length (tabbed sent) ≤ 6
  pub exchanges_short : length (tabbed exchanges) ≤ 4

pub finished_sizes : (operation stamp sent exchanges : ℕ)
    → operation < 2 ^ 16 → stamp < 2 ^ 32 → sent < 2 ^ 16 → exchanges < 2 ^ 8
    → FinishedSizes operation stamp sent exchanges
finished_sizes operation stamp sent exchanges a b c d = record {
  operation_short = tabbed_short 5 operation (omega arith) (omega arith) (omega arith);
  stamp_short = tabbed_short 10 stamp (omega arith) (omega arith) (omega arith);
  sent_short = tabbed_short 5 sent (omega arith) (omega arith) (omega arith);
  exchanges_short = tabbed_short 3 exchanges (omega arith) (omega arith) (omega arith);
}
