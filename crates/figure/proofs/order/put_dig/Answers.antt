use Rattle.std.proofs.Common.{decimal, ap, arith, length-append}
use Rattle.text.proofs.Placed.{then_put, printed_as}
use Rattle.figure.proofs.order.put_dig.Goals as goal

pub returns : goal.returns
returns c =
    let room = simp length-append at c.requires in
    let depth = printed_as (ap decimal c.get.ensures) c.put_number-at.ensures in
    let two = then_put (omega arith) c.put_bytes-at.ensures depth in
    let three = then_put (simp length-append (omega arith)) two c.put_bytes-at-2.ensures in
    then_put (simp length-append (omega arith)) three (printed_as c.word.ensures c.put_bytes.ensures)
