use Rattle.std.proofs.Common.{sym}
use Rattle.std.proofs.lemmas.List.{get_or_read}
use Rattle.std.proofs.lemmas.Result.{err_from_is_err_and}
use Rattle.tables.specs.View.{tables}
use Rattle.steps.proofs.ReadStarts.{read_declined, read_done}
use Rattle.steps.proofs.starting.start_read.Goals as goal

pub returns-in_err-may_read : goal.returns-in_err-may_read
returns-in_err-may_read g c = λ rule rs ks same.
    let p = err_from_is_err_and c.from_residual.result c.from_residual.ensures.1 in
    rw (p.1, p.2) (read_declined c.args.start rule c.args.numbers.now (tables rs c.args.readers.now ks c.args.messages.now c.args.journal.now)
    c.requires.kept c.requires.messages_fit c.requires.journal_fits same c.args.reader c.args.kind _ c.in_err-may_read.ensures.verdict)

pub returns : goal.returns
returns g c = λ rule rs ks same.
    let row = c.index-readers-reader.result in
    let clear = c.in_ok-may_read.ensures.clear in
    rw (c.open.ensures.numbers, c.open.ensures.messages, c.open.ensures.journal, c.opening_phase.ensures, c.opening_message.ensures)
    (read_done c.args.start rule c.args.numbers.now (tables rs c.args.readers.now ks c.args.messages.now c.args.journal.now)
    c.requires.kept c.requires.messages_fit c.requires.journal_fits same c.args.reader c.args.kind c.in_ok-may_read.ensures.verdict
    clear.room clear.line row
    (sym (get_or_read c.args.readers.now c.args.reader row clear.there c.index-readers-reader.is _)))
