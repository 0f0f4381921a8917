use Rattle.std.proofs.Common.{arith, length-append}
use Rattle.text.proofs.Placed.{then_put}
use Rattle.script.proofs.Sized.{tabbed_short}
use Rattle.script.proofs.answer.put_accepted.Goals as goal

pub put_tabbed-requires : goal.put_tabbed-requires
put_tabbed-requires c = omega (arith, tabbed_short 5 c.args.operation (omega arith) (omega arith) (omega arith))

pub returns : goal.returns
returns c =
    let n = tabbed_short 5 c.args.operation (omega arith) (omega arith) (omega arith) in
    let p = then_put (omega arith) c.put_bytes-at.ensures c.put_tabbed.ensures in
    record { short = rw p.stop (simp length-append (omega arith)); all = p }
