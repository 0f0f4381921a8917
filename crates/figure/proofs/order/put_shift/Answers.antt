use Rattle.std.proofs.Common.{decimal, ap, arith, length-append}
use Rattle.text.proofs.Placed.{then_put, printed_as}
use Rattle.figure.proofs.order.put_shift.Goals as goal

pub returns : goal.returns
returns c =
    let room = simp length-append at c.requires in
    let section = printed_as (ap decimal c.get.ensures) c.put_number.ensures in
    then_put (omega arith) c.put_bytes-at.ensures section
