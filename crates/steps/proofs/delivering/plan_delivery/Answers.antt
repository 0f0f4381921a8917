use Rattle.std.proofs.Common.{sym, refl, arith}
use Rattle.std.proofs.lemmas.Result.{err_from_is_err_and}
use Rattle.steps.proofs.Delivers.{absent, ahead, full, planned, deliverable_read}
use Rattle.steps.proofs.Parts.{few_sent}
use Rattle.steps.proofs.delivering.plan_delivery.Goals as goal

pub returns-in_err-at : goal.returns-in_err-at
returns-in_err-at g c =
    let p = err_from_is_err_and c.from_residual.result c.from_residual.ensures.1 in
    let none = c.in_err-at.ensures in
    rw (p.1, p.2, none.0) (absent _ c.args.start c.args.numbers.now _ c.requires.kept c.requires.fits c.requires.sound c.args.place none.1)

pub returns-then-message-numbers : goal.returns-then-message-numbers
returns-then-message-numbers g c =
    ahead _ c.args.start c.args.numbers.now _ c.requires.kept c.requires.fits c.requires.sound c.args.place
    c.in_ok-at.ensures.1 c.index-messages-at.result (rw c.in_ok-at.ensures.0 at c.index-messages-at.is) c.if-message-numbers.true

pub react-reaction-requires : goal.react-reaction-requires
react-reaction-requires g c =
    deliverable_read _ c.args.start c.args.numbers.now _ c.requires.kept c.requires.fits c.requires.sound c.args.place
    c.in_ok-at.ensures.1 c.index-messages-at.result (rw c.in_ok-at.ensures.0 at c.index-messages-at.is)

pub overflow_add-numbers : goal.overflow_add-numbers
overflow_add-numbers g c =
    let few = few_sent c.args.numbers.now.replicas c.requires.kept.some_replica c.react-reaction.result.post in
    omega (arith, few, c.post_count-added.ensures, c.requires.kept.few_replicas, c.requires.kept.room, c.requires.kept.few_messages)

pub returns-then-numbers-added : goal.returns-then-numbers-added
returns-then-numbers-added g c =
    full _ c.args.start c.args.numbers.now _ c.requires.kept c.requires.fits c.requires.sound c.args.place
    c.in_ok-at.ensures.1 c.index-messages-at.result (rw c.in_ok-at.ensures.0 at c.index-messages-at.is) refl c.react-reaction.result c.react-reaction.ensures
    c.if-message-numbers.false (rw (sym c.post_count-added.ensures) c.if-numbers-added.true)

pub returns : goal.returns
returns g c =
    planned _ c.args.start c.args.numbers.now _ c.requires.kept c.requires.fits c.requires.sound c.args.place
    c.in_ok-at.ensures.1 c.index-messages-at.result (rw c.in_ok-at.ensures.0 at c.index-messages-at.is) refl c.react-reaction.result c.react-reaction.ensures
    c.if-message-numbers.false (rw (sym c.post_count-added.ensures) c.if-numbers-added.false)
