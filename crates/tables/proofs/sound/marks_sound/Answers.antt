use Rattle.std.proofs.Common.{rules}
use Rattle.std.proofs.lemmas.Iterator.{YieldsList-from_slice}
use Rattle.std.proofs.lemmas.Iterator.Search.{all_from_yields_List}
use borrow.Author.Tests.{tests}
use Rattle.model.specs.Sound.{mark_within}
use Rattle.tables.specs.Judged.{of_size}
use Rattle.tables.proofs.sound.marks_sound.Goals as goal

pub returns : goal.returns
returns c =
    all_from_yields_List (mark_within (of_size c.args.size)) _ _ _ c.all.ensures.ran
    (YieldsList-from_slice c.args.marks.now cc) (λ x b q k. search (rules, tests))
