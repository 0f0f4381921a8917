use Rattle.std.proofs.Common.{◌≡◌, ◌-◌, ◌<◌, set, sym, ap, ◌∙◌, get_or-take, arith}
use Rattle.std.proofs.lemmas.List.{get_or_default}
use Rattle.model.specs.State.{no_line}
use Rattle.model.specs.declared.journal.Operation.{Operation}
use Rattle.steps.specs.Posting.{sent_more}
use Rattle.steps.proofs.Fronts.{line_changed}
use Rattle.steps.proofs.applying.count_sent.Goals as goal

pub returns-then-at-from : goal.returns-then-at-from
returns-then-at-from g c = λ start.
    let t = c.args.journal.now in
    let at = c.saturating_sub-at.result in
    let is : at ≡ c.args.operation - 1 = rw c.from.ensures at c.saturating_sub-at.ensures in
    let lt : at < c.args.lines = rw c.from-2.ensures at c.if-at-from.true in
    let first = no_line start in
    let read = get_or_default t at c.index-journal-at.result first (omega (arith, lt, c.requires)) ∙ sym (get_or-take c.args.lines t at first lt) in
    rw (sym is)
    (ap (λ (o : Operation _). set t at o) (c.add_sent.ensures ∙ ap (λ (o : Operation _). sent_more o c.args.more) read)
    ∙ line_changed t c.args.lines c.requires at _ lt)
