use Rattle.std.proofs.Common.{rules}
use Rattle.std.proofs.lemmas.Result.{err_from_is_err_and}
use Rattle.tables.specs.View.{tables}
use Rattle.steps.proofs.Writes.{write_declined, write_done}
use Rattle.steps.proofs.starting.start_write.Goals as goal

pub returns-in_err-may_write : goal.returns-in_err-may_write
returns-in_err-may_write g c = λ start rule rs ds ks same.
    let p = err_from_is_err_and c.from_residual.result c.from_residual.ensures.1 in
    rw (p.1, p.2) (write_declined start rule c.args.numbers.now (tables rs ds ks c.args.messages.now c.args.journal.now)
    c.requires.kept c.requires.messages_fit c.requires.journal_fits same c.args.figure _ c.in_err-may_write.ensures)

pub returns : goal.returns
returns g c = λ start rule rs ds ks same.
    rw (c.open.ensures.numbers, c.open.ensures.messages, c.open.ensures.journal)
    (write_done start rule c.args.numbers.now (tables rs ds ks c.args.messages.now c.args.journal.now)
    c.requires.kept c.requires.messages_fit c.requires.journal_fits same c.args.figure c.in_ok-may_write.ensures (search rules) (search rules))
