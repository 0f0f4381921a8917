use Rattle.std.proofs.Common.{◌-◌, ◌<◌, length, arith}
use Rattle.std.proofs.lemmas.List.{get_or_default}
use Rattle.model.specs.State.{no_line}
use Rattle.tables.specs.View.{tables}
use Rattle.reaction.specs.Applied.{HasLine}
use Rattle.steps.proofs.Parts.{ends_some}
use Rattle.steps.proofs.applying.finish_operation.Goals as goal

pub returns : goal.returns
returns g c =
    let there : HasLine c.args.numbers.now.lines c.in-Some.finish.operation = rw c.in-Some.is at c.requires.within in
    let t = c.args.journal.now in
    let at = c.in-Some.finish.operation - 1 in
    let inside : at < length t = omega (arith, there, c.requires.journal_fits, c.requires.kept.lines_fit) in
    rw c.in-Some.is (record {
      numbers = rw c.saturating_add-numbers.ensures;
      ends = λ start rs ds ks ms fm.
          rw (c.end_line-sent.ensures.sent, c.end_line-sent.ensures.ended, c.from.ensures, c.from-2.ensures, c.from-3.ensures, get_or_default t at c.index-journal-from.result (no_line start) inside, c.saturating_add-numbers.ensures)
          (ends_some start c.args.numbers.now (tables rs ds ks ms c.args.journal.now) c.requires.kept fm c.requires.journal_fits
          c.in-Some.finish there);
    })
