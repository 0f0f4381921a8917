use Rattle.std.proofs.Common.{[], ◌∷◌, arith}
use Rattle.text.proofs.Placed.{then_put}
use Rattle.script.proofs.answer.put_tabbed.Goals as goal

pub returns : goal.returns
returns c = then_put {bs = 9 ∷ []} (omega (arith, c.requires)) c.put_bytes-at.ensures c.put_number.ensures
