use Rattle.std.proofs.Common.{◌^◌, ◌≤◌, length, Some, None, sym, ◌∙◌, arith, rules}
use native.Mathlib.Nat.{pow-le-pow_right}
use Rattle.text.proofs.Spelling.{spelled_more, spelled_end, spelled_is, grows}
use Rattle.text.proofs.numbers.number.Goals as goal

pub returns-in_err-n-clause-value : goal.returns-in_err-n-clause-value
returns-in_err-n-clause-value c =
    let xs = c.args.field.now in
    let none = c.in_err-n.ensures.value in
    let here = spelled_more c.loop-b.n xs c.loop-b.b-index c.loop-b-test.true None none in
    rw c.from_residual.ensures (here ∙ c.loop-b.invariant.0 ∙ spelled_is xs (omega arith) (omega arith))

pub loop-b-preserved : goal.loop-b-preserved
loop-b-preserved c =
    let d = c.in_ok-n.field-0 in
    let i = c.loop-b.b-index in
    let told = c.in_ok-n.ensures in
    let lt = c.loop-b-test.true in (
      spelled_more c.loop-b.n c.args.field.now i lt (Some d) told.value ∙ c.loop-b.invariant.0,
      grows c.loop-b.n d i c.loop-b.invariant.1 told.small,
    )

pub returns : goal.returns
returns c =
    let xs = c.args.field.now in
    let n = c.loop-b.n in
    let i = c.loop-b.b-index in
    let some : 1 ≤ length xs = search rules in
    let few : i ≤ 6 = omega arith in
    let most : 10 ^ i ≤ 10 ^ 6 = pow-le-pow_right (omega arith) few in
    record {
      value = sym (spelled_end n xs i c.loop-b-test.false)
          ∙ c.loop-b.invariant.0
          ∙ spelled_is xs (omega arith) (omega arith);
      small = omega arith;
    }
