use Rattle.std.proofs.Common.{length, ap, arith, length-append}
use Rattle.text.proofs.Placed.{then_put, printed_as}
use Rattle.script.specs.Answers.{tabbed}
use Rattle.script.proofs.Sized.{layer_short, tabbed_short}
use Rattle.script.proofs.answer.put_declined.Goals as goal

pub put_bytes-at-requires-2 : goal.put_bytes-at-requires-2
put_bytes-at-requires-2 c = omega (arith, layer_short c.args.fault, ap length c.layer.ensures)

pub put_tabbed-at-requires : goal.put_tabbed-at-requires
put_tabbed-at-requires c =
    let l = layer_short c.args.fault in
    let e = ap length c.layer.ensures in
    let n = tabbed_short 3 c.number.result (omega arith) (omega arith) (omega arith) in
    omega arith

pub put_tabbed-requires : goal.put_tabbed-requires
put_tabbed-requires c =
    let l = layer_short c.args.fault in
    let e = ap length c.layer.ensures in
    let n = tabbed_short 3 c.number.result (omega arith) (omega arith) (omega arith) in
    let f = tabbed_short 10 c.field.result (omega arith) (omega arith) (omega arith) in
    omega arith

pub returns : goal.returns
returns c =
    let l = layer_short c.args.fault in
    let e = ap length c.layer.ensures in
    let n = tabbed_short 3 c.number.result (omega arith) (omega arith) (omega arith) in
    let f = tabbed_short 10 c.field.result (omega arith) (omega arith) (omega arith) in
    let p1 = then_put (omega arith) c.put_bytes-at.ensures (printed_as c.layer.ensures c.put_bytes-at-2.ensures) in
    let p2 = then_put (simp length-append (omega arith)) p1 c.put_tabbed-at.ensures in
    let p3 = then_put (simp length-append (omega arith)) p2 c.put_tabbed.ensures in
    let m = ap (λ x. length (tabbed x)) c.number.ensures in
    let k = ap (λ x. length (tabbed x)) c.field.ensures in
    record {
      short = rw p3.stop (simp length-append (omega arith));
      all = printed_as (simp (c.number.ensures, c.field.ensures)) p3;
    }
