use Rattle.std.proofs.Common.{◌≡◌, ◌++◌, take}
use Rattle.model.specs.State.{stored}
use Rattle.model.specs.Deliveries.{carried, to_all}
use Rattle.steps.proofs.tools.send_all.Given as goal

abbrev pub invariant-loop-c : goal.invariant-loop-c
invariant-loop-c g l =
    l.messages
    ≡ stored (take l.used l.initial.messages
    ++ to_all l.c l.message.kind l.message.operation l.message.sender (carried l.message))
    l.initial.messages
