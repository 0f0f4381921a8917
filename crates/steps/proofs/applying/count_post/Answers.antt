use Rattle.std.proofs.Common.{List, length, take, sym, ap, ◌∙◌, arith}
use Rattle.std.proofs.lemmas.List.{length-take-le}
use Rattle.model.specs.State.{stored}
use Rattle.model.specs.Steps.{counted}
use Rattle.reaction.specs.Applied.{HasLine}
use Rattle.steps.proofs.Fronts.{stored_own}
use Rattle.steps.proofs.Parts.{counts_one, counts_all}
use Rattle.steps.proofs.applying.count_post.Goals as goal

pub returns-in-Nothing : goal.returns-in-Nothing
unfolding counted
returns-in-Nothing g c = λ start.
    rw c.in-Nothing.is (sym (stored_own c.args.lines c.args.journal.now))

pub returns-in-One : goal.returns-in-One
returns-in-One g c = λ start.
    let j = c.args.journal.now in
    rw c.in-One.is
    (c.count_sent.ensures start ∙ ap (λ (l : List _). stored l j) (counts_one start (take c.args.lines j) c.in-One.message))

pub returns-in-All : goal.returns-in-All
returns-in-All g c = λ start.
    let j = c.args.journal.now in
    let front = take c.args.lines j in
    let long = length-take-le c.args.lines j c.requires.fits in
    let within : HasLine c.args.lines c.in-All.operation = rw c.in-All.is at c.requires.within in
    let there : HasLine (length front) c.in-All.operation = (within.0, omega (arith, within.1, long)) in
    rw c.in-All.is
    (c.count_sent-in-All.ensures start
    ∙ ap (λ (l : List _). stored l j)
    (counts_all start front c.args.size c.requires.some c.in-All.kind c.in-All.operation c.in-All.sender
    (record { stamp = c.in-All.stamp; figure = c.in-All.figure }) there))
