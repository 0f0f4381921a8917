use Rattle.std.proofs.Common.{◌≡◌, rules}
use Rattle.std.proofs.lemmas.Iterator.{YieldsList-from_slice}
use Rattle.std.proofs.lemmas.Iterator.Search.{all_from_yields_List}
use Rattle.std.specs.List.{list_all}
use Rattle.text.specs.Lines.{is_text, plain}
use Rattle.text.proofs.lines.is_text.Goals as goal

pub returns-then-line-le200 : goal.returns-then-line-le200
unfolding is_text
returns-then-line-le200 c =
    let e : c.all.result ≡ list_all plain c.args.line.now =
    all_from_yields_List plain _ _ c.all.result c.all.ensures.ran (YieldsList-from_slice c.args.line.now cc) (λ x b q k. search rules) in
    search rules
