use Rattle.std.proofs.Common.{◌≡◌, ◌+◌, eqb, sym, ap, ◌∙◌, rules}
use Rattle.std.proofs.lemmas.List.Splits.{length-slice_split}
use Rattle.std.specs.List.{count_by}
use Rattle.text.proofs.fields.field_count.Goals as goal

pub returns : goal.returns
returns c =
    let tabs : c.count.result ≡ count_by (λ b. eqb b 9) c.args.text.now = search rules in
    ap (λ n. n + 1) tabs ∙ sym (length-slice_split (λ b. eqb b 9) c.args.text.now)
