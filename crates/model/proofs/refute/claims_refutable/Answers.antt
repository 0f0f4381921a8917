use Rattle.model.proofs.Refuted.{refutable}
use Rattle.model.proofs.refute.claims_refutable.Goals as goal

pub returns : goal.returns
returns c = refutable
