use Rattle.std.proofs.Common.{arith}
use Rattle.model.specs.Deliveries.{carried}
use Rattle.steps.proofs.Sending.{sends_none, sends_more}
use Rattle.steps.proofs.tools.send_all.Goals as goal

pub loop-c-init : goal.loop-c-init
loop-c-init g c =
    let m = c.args.message in
    sends_none m.kind m.operation m.sender (carried m) c.args.used c.args.messages.now

pub loop-c-preserved : goal.loop-c-preserved
loop-c-preserved g c =
    let m = c.args.message in
    rw (c.loop-c.invariant, c.addressed.ensures)
    (sends_more m.kind m.operation m.sender (carried m) c.args.used c.args.messages.now c.loop-c.c (omega arith))
