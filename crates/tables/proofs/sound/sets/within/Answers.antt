use Rattle.std.proofs.Common.{◌^◌, ◌≤◌, sym, ◌∙◌, arith, le-leb, lt-ltb}
use Rattle.std.proofs.Math.Nat.{pow-le-pow_right}
use Rattle.tables.proofs.sound.sets.within.Goals as goal

-- the least mask that has no place is below every such bound
pub returns-then-size-ge32 : goal.returns-then-size-ge32
returns-then-size-ge32 c =
    let most : 2 ^ 32 ≤ 2 ^ c.args.size = pow-le-pow_right {n = 2} (omega arith) {i = 32} {j = c.args.size} (omega arith) in
    le-leb _ _ (omega arith) ∙ sym (lt-ltb _ _ (omega arith))
