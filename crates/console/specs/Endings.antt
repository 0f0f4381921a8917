-- How a program ends.
use Rattle.std.specs.Prelude.{Bool, true, false, Ok, Err, Result}
use Rattle.console.specs.declared.ending.Failure.{Failure}

-- Whether it ends with the status of success: also where whoever reads what it prints has had enough.
abbrev pub ended_well : {A : Type 0} → Result A Failure → Bool
ended_well (Ok x) = true
ended_well (Err Failure.OutputClosed) = true
ended_well (Err (Failure.Fault e)) = false
