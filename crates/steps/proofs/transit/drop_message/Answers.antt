use Rattle.std.proofs.lemmas.Result.{err_from_is_err_and}
use Rattle.tables.specs.View.{tables}
use Rattle.steps.proofs.Transits.{drop_absent, drop_done}
use Rattle.steps.proofs.transit.drop_message.Goals as goal

pub returns-in_err-at : goal.returns-in_err-at
returns-in_err-at g c = λ start rule rs ds ks ls fj.
    let p = err_from_is_err_and c.from_residual.result c.from_residual.ensures.1 in
    let absent = c.in_err-at.ensures in
    rw (p.1, p.2, absent.0) (drop_absent start rule c.args.numbers.now (tables rs ds ks c.args.messages.now ls) c.requires.kept c.requires.messages_fit fj
    c.args.place absent.1)

pub returns : goal.returns
returns g c = λ start rule rs ds ks ls fj.
    rw (c.remove_at.ensures, c.in_ok-at.ensures.0)
    (drop_done start rule c.args.numbers.now (tables rs ds ks c.args.messages.now ls) c.requires.kept c.requires.messages_fit fj
    c.args.place c.in_ok-at.ensures.1)
