use Rattle.std.proofs.Common.{◌≡◌, ℤ, decimal, ap, ◌∙◌, arith, length-append, w32, SFits, to_z, of_z, rules}
use Rattle.std.proofs.lemmas.Int.{to_z-of_z}
use Rattle.std.specs.Fmt.{signed_decimal}
use Rattle.text.proofs.Placed.{then_put, printed_as}
use Rattle.figure.proofs.tide.put_tide.Goals as goal

-- the level goes through its bits and back
back : (y z : ℤ) → SFits w32 y → y ≡ z → to_z w32 (of_z w32 y) ≡ z
back y z fits e = to_z-of_z w32 y fits ∙ e

pub returns : goal.returns
returns c =
    let room = simp length-append at c.requires in
    let level = back c.mm.result c.args.level.mm (search rules) c.mm.ensures in
    let one = printed_as (ap signed_decimal level) c.put_signed-at.ensures in
    let two = then_put (omega arith) one c.put_bytes-at.ensures in
    then_put (simp length-append (omega arith)) two (printed_as (ap decimal c.get.ensures) c.put_number.ensures)
