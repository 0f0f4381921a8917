use Rattle.std.proofs.Common.{rules, sym, ◌∙◌}
use Rattle.std.proofs.lemmas.Iterator.{YieldsList-from_slice}
use Rattle.std.proofs.lemmas.Iterator.Consumers.{YieldsList-from_enumerate}
use Rattle.std.proofs.lemmas.Iterator.Search.{all_from_yields_List}
use Rattle.tables.specs.Judged.{of_size, register_of, reader_sound}
use Rattle.tables.proofs.Listed.{each_from_listed}
use Rattle.tables.proofs.sound.readers_sound.Goals as goal

pub returns : goal.returns
returns g c = λ start.
    let test = reader_sound (of_size c.args.size) (register_of start c.args.readers.now c.args.lines.now) in
    all_from_yields_List (λ p. test p.0 p.1) _ _ c.all.result c.all.ensures.ran
    (YieldsList-from_enumerate (YieldsList-from_slice c.args.readers.now cc) cc)
    (λ x b q k. (search rules, k.met.0 start c.args.readers.now))
    ∙ sym (each_from_listed test 0 c.args.readers.now)
