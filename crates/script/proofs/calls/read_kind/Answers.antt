use Rattle.std.proofs.Common.{codes, sym, ap, rules}
use Rattle.std.proofs.lemmas.Slice.Eq.{text_from_reads}
use Rattle.script.specs.Calls.{read_kind}
use Rattle.script.proofs.calls.read_kind.Goals as goal

pub returns-in-settled : goal.returns-in-settled
unfolding read_kind
returns-in-settled c =
    sym (ap read_kind (text_from_reads c.args.word.now (codes "settled") (search rules) (search rules)))
