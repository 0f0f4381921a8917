use Rattle.std.proofs.Common.{sym}
use Rattle.steps.proofs.Sending.{length_to_all}
use Rattle.steps.proofs.applying.post_count.Goals as goal

pub returns-in-All : goal.returns-in-All
returns-in-All g c = rw c.in-All.is (sym (length_to_all _ _ _ _ c.args.size))
