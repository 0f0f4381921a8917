use Rattle.figure.specs.Limited.{within}
use Rattle.figure.proofs.limits.UpTo.within.Goals as goal

pub returns : goal.returns
returns g c = within c.args.value g.row.MAX (λ p. record { value = c.args.value; ok = p }) _
