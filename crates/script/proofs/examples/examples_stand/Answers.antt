use Rattle.std.proofs.Common.{refl}
use Rattle.std.specs.Fmt.{digits}
use Rattle.figure.specs.Orders.{arm_of, verb_of}
use Rattle.text.specs.Lines.{is_text}
use Rattle.text.specs.Numbers.{spelled}
use Rattle.text.specs.Partial.{if_within}
use Rattle.script.specs.Calls.{read_kind}
use Rattle.script.specs.Headers.{rule_word, kind_word, rule_text, header_rest}
use Rattle.script.proofs.examples.examples_stand.Goals as goal

pub returns : goal.returns
unfolding digits spelled arm_of verb_of if_within is_text read_kind rule_word kind_word rule_text header_rest
returns c = record { tides = refl; orders = refl; firsts = refl; answers = refl }
