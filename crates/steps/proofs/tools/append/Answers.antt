use Rattle.steps.proofs.Fronts.{stored_push}
use Rattle.steps.proofs.tools.append.Goals as goal

pub returns : goal.returns
returns g c = stored_push c.args.table.now c.args.used c.args.item c.requires
