use Rattle.std.proofs.Common.{◌≡◌, nat_abs, ap, ◌∙◌, arith, w32, to_z, of_z}
use Rattle.std.proofs.lemmas.Int.{to_z-of_z}
use Rattle.figure.specs.Limits.{level_of}
use Rattle.figure.specs.Limited.{within, beyond}
use Rattle.figure.proofs.limits.Level.new.Goals as goal

pub returns-then-unsigned_abs-gt-FARTHEST : goal.returns-then-unsigned_abs-gt-FARTHEST
returns-then-unsigned_abs-gt-FARTHEST c =
    let z = c.args.mm in
    let back : to_z w32 (of_z w32 z) ≡ z = to_z-of_z w32 z c.ranges.mm in
    let size : c.unsigned_abs.result ≡ nat_abs z = rw back at c.unsigned_abs.ensures.value in
    beyond (nat_abs z) 20000 _ (omega arith)

pub returns : goal.returns
returns c =
    let z = to_z w32 (of_z w32 c.args.mm) in
    within (nat_abs z) 20000 (λ p. record { mm = z; ok = p }) _ ∙ ap level_of (to_z-of_z w32 c.args.mm c.ranges.mm)
