use Rattle.std.proofs.Common.{◌∙◌, rules}
use Rattle.steps.proofs.Fronts.{removed_is}
use Rattle.steps.proofs.tools.remove_at.Goals as goal

pub returns : goal.returns
returns g c =
    c.copy_within.ensures.after ∙ removed_is c.args.table.now c.args.at c.args.used (search rules) (search rules)
