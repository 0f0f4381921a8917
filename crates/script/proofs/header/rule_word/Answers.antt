use Rattle.std.proofs.Common.{codes, sym, ap, rules}
use Rattle.std.proofs.lemmas.Slice.Eq.{text_from_reads}
use Rattle.script.specs.Headers.{rule_word}
use Rattle.script.proofs.header.rule_word.Goals as goal

pub returns-in-groups : goal.returns-in-groups
unfolding rule_word
returns-in-groups c =
    sym (ap rule_word (text_from_reads c.args.word.now (codes "groups") (search rules) (search rules)))
