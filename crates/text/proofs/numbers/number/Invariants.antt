use Rattle.std.proofs.Common.{◌≡◌, ◌^◌, ◌<◌, drop}
use Rattle.text.specs.Numbers.{spelled_on}
use Rattle.text.proofs.numbers.number.Given as goal

abbrev pub invariant-loop-b : goal.invariant-loop-b
invariant-loop-b l = (spelled_on l.n (drop l.b-index l.field) ≡ spelled_on 0 l.field) × (l.n < 10 ^ l.b-index)
