use Rattle.std.proofs.Common.{◌∙◌, arith}
use Rattle.register.proofs.Running.{ran_none, ran_more, ran_all}
use Rattle.register.proofs.service.Register.run.Goals as goal

pub loop-call-init : goal.loop-call-init
loop-call-init g c =
    let made = c.in_ok-replies.ensures in
    (ran_none made.items, made.len, made.capacity)

pub loop-call-preserved : goal.loop-call-preserved
loop-call-preserved g c =
    let inv = c.loop-call.invariant in
    let pushed = c.in_ok-push.ensures in (
      ran_more c.args.calls.now c.loop-call.call-index inv.0 c.loop-call-test.true c.call-item.is c.call-reply.ensures pushed.items,
      pushed.len ∙ omega (arith, inv.1),
      omega (arith, inv.2, pushed.capacity),
    )

pub returns : goal.returns
returns g c =
    let inv = c.loop-call.invariant in
    ran_all c.args.calls.now c.loop-call.call-index inv.0 c.loop-call-test.false
