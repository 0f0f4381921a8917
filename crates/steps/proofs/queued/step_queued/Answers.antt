use Rattle.std.proofs.Common.{◌≡◌, ◌+◌, ◌-◌, ◌≤◌, length, ◌∙◌, arith, rules}
use borrow.Author.Rules.{scaled_fits≤}
use Rattle.steps.proofs.Queues.{window_back, part_long}
use Rattle.steps.proofs.queued.step_queued.Goals as goal

pub offset_bounds-buffer-head : goal.offset_bounds-buffer-head
offset_bounds-buffer-head g c =
    let low : c.args.head.now ≤ length c.args.buffer.now = omega (arith, c.requires.within) in
    search (rules, scaled_fits≤)

pub returns-in_default : goal.returns-in_default
returns-in_default g c =
    let n = c.args.numbers.now in
    let room = n.message_room in
    let head = c.args.head.now in
    let e : head + room - head ≡ room = omega arith in
    let does = rw e at c.step.ensures in
    let back = window_back head room (head + room - head) c.args.buffer.now c.step.new.messages (omega (arith, c.requires.within)) (c.step.auto.messages ∙ part_long c.args.buffer.now head room c.requires.within) in
    record {
      within = c.requires.within;
      advances = rw back does.advances;
    }
