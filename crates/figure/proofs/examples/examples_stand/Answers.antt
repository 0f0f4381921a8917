use Rattle.std.proofs.Common.{refl}
use Rattle.std.specs.Fmt.{digits}
use Rattle.text.specs.Numbers.{spelled}
use Rattle.figure.specs.Orders.{arm_of, verb_of}
use Rattle.text.specs.Partial.{if_within}
use Rattle.figure.proofs.examples.examples_stand.Goals as goal

pub returns : goal.returns
unfolding digits spelled arm_of verb_of if_within
returns c = record { tides_read = refl; orders_read = refl }
