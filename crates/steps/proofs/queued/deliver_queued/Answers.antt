use Rattle.std.proofs.Common.{◌≡◌, ◌+◌, ◌-◌, ◌≤◌, List, length, refl, ap, ◌∙◌, arith, rules}
use borrow.Author.Rules.{scaled_fits≤}
use Rattle.model.specs.State.{with_messages}
use Rattle.tables.specs.View.{tables, view}
use Rattle.steps.specs.Renumbered.{with_waiting}
use Rattle.steps.specs.Queueing.{window}
use Rattle.steps.proofs.Delivers.{delivered}
use Rattle.steps.proofs.Queues.{window_back, window_gone, part_long}
use Rattle.steps.proofs.queued.deliver_queued.Goals as goal

pub offset_bounds-buffer-head : goal.offset_bounds-buffer-head
offset_bounds-buffer-head g c =
    let low : c.take_out.result ≤ length c.args.buffer.now = omega (arith, c.take_out.ensures.within) in
    search (rules, scaled_fits≤)

pub returns-clause-advances : goal.returns-clause-advances
returns-clause-advances g c =
    let n = c.args.numbers.now in
    let start = c.args.start in
    let room = n.message_room in
    let t = tables c.args.replicas.now c.args.readers.now c.args.marks.now (window c.args.head.now room c.args.buffer.now) c.args.journal.now in
    let head = c.take_out.result in
    let buffer = c.take_out.new.buffer in
    let within : head + room ≤ length buffer = omega (arith, c.take_out.ensures.within, c.take_out.auto.buffer) in
    let n₁ = with_waiting n (n.waiting - 1) in
    let t₁ = tables c.args.replicas.now c.args.readers.now c.args.marks.now (window head room buffer) c.args.journal.now in
    let e : head + room - head ≡ room = omega arith in
    let does = rw e at (c.apply.ensures start) in
    let gone = ap (λ (ms : List _). with_messages (view start n t) ms)
    (window_gone c.args.buffer.now buffer c.args.head.now head room room n.waiting c.args.place refl c.requires.kept.room c.take_out.ensures.gone) in
    rw (window_back head room (head + room - head) buffer c.apply.new.messages (omega (arith, within)) (c.apply.auto.messages ∙ part_long buffer head room within))
    (delivered _ start n t c.args.place c.in_ok-reaction.reaction c.in_ok-reaction.ensures n₁ t₁ gone _ _ _ does
    (record { replicas = refl; readers = refl; message_room = refl; journal_room = refl }))
