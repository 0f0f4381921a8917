use Rattle.std.proofs.Common.{◌≡◌, codes, refl, rules}
use Rattle.std.proofs.lemmas.Slice.Eq.{text_from_reads}
use Rattle.figure.specs.Orders.{arm_of}
use Rattle.figure.proofs.order.Arm.named.Goals as goal

pub returns-in-starboard : goal.returns-in-starboard
unfolding arm_of
returns-in-starboard c =
    let word : c.args.word.now ≡ codes "starboard" = text_from_reads c.args.word.now (codes "starboard") (search rules) (search rules) in
    rw word refl
