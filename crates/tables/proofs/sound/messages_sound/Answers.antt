use Rattle.std.proofs.Common.{rules}
use Rattle.std.proofs.lemmas.Iterator.{YieldsList-from_slice}
use Rattle.std.proofs.lemmas.Iterator.Search.{all_from_yields_List}
use Rattle.tables.specs.Judged.{of_size, register_of, message_sound}
use Rattle.tables.proofs.sound.messages_sound.Goals as goal

pub returns : goal.returns
returns g c = λ start.
    let test = message_sound (of_size c.args.size) (register_of start c.args.readers.now c.args.lines.now) in
    all_from_yields_List test _ _ c.all.result c.all.ensures.ran
    (YieldsList-from_slice c.args.waiting.now cc) (λ x b q k. (search rules, k.met.0 start))
