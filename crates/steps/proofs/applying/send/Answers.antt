use Rattle.std.proofs.Common.{arith}
use Rattle.steps.proofs.Sending.{length_to_all}
use Rattle.steps.proofs.applying.send.Goals as goal

pub send_all-requires : goal.send_all-requires
send_all-requires g c =
    let pre = rw c.in-All.is at c.requires in
    omega (arith, pre, length_to_all c.in-All.kind c.in-All.operation c.in-All.sender (record { stamp = c.in-All.stamp; figure = c.in-All.figure }) c.args.size)
