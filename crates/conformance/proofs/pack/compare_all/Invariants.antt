use Rattle.std.proofs.Common.{◌≡◌, vec_len}
use Rattle.conformance.proofs.pack.compare_all.Given as goal

-- one is found for each of the names so far
abbrev pub invariant-loop-name : goal.invariant-loop-name
invariant-loop-name l = vec_len l.found ≡ l.name-index
