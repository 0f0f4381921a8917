use Rattle.std.proofs.Common.{arith, length-append}
use Rattle.text.proofs.Placed.{then_put}
use Rattle.script.proofs.Sized.{finished_sizes}
use Rattle.script.proofs.answer.put_finished.Goals as goal

pub put_tabbed-at-requires : goal.put_tabbed-at-requires
put_tabbed-at-requires g c =
    let h = finished_sizes c.args.operation c.args.stamp c.args.sent c.args.exchanges (omega arith) (omega arith) (omega arith) (omega arith) in
    omega arith

pub put_tabbed-at-requires-2 : goal.put_tabbed-at-requires-2
put_tabbed-at-requires-2 g c =
    let h = finished_sizes c.args.operation c.args.stamp c.args.sent c.args.exchanges (omega arith) (omega arith) (omega arith) (omega arith) in
    omega arith

pub put_bytes-at-requires-2 : goal.put_bytes-at-requires-2
put_bytes-at-requires-2 g c =
    let h = finished_sizes c.args.operation c.args.stamp c.args.sent c.args.exchanges (omega arith) (omega arith) (omega arith) (omega arith) in
    omega arith

pub print-at-requires : goal.print-at-requires
print-at-requires g c =
    let h = finished_sizes c.args.operation c.args.stamp c.args.sent c.args.exchanges (omega arith) (omega arith) (omega arith) (omega arith) in
    let short = g.met.F.FigureKind.short c.args.figure in
    omega arith

pub put_tabbed-at-requires-3 : goal.put_tabbed-at-requires-3
put_tabbed-at-requires-3 g c =
    let h = finished_sizes c.args.operation c.args.stamp c.args.sent c.args.exchanges (omega arith) (omega arith) (omega arith) (omega arith) in
    let short = g.met.F.FigureKind.short c.args.figure in
    omega arith

pub put_tabbed-requires : goal.put_tabbed-requires
put_tabbed-requires g c =
    let h = finished_sizes c.args.operation c.args.stamp c.args.sent c.args.exchanges (omega arith) (omega arith) (omega arith) (omega arith) in
    let short = g.met.F.FigureKind.short c.args.figure in
    omega arith

pub returns : goal.returns
returns g c =
    let h = finished_sizes c.args.operation c.args.stamp c.args.sent c.args.exchanges (omega arith) (omega arith) (omega arith) (omega arith) in
    let short = g.met.F.FigureKind.short c.args.figure in
    let p1 = then_put (omega arith) c.put_bytes-at.ensures c.put_tabbed-at.ensures in
    let p2 = then_put (simp length-append (omega arith)) p1 c.put_tabbed-at-2.ensures in
    let p3 = then_put (simp length-append (omega arith)) p2 c.put_bytes-at-2.ensures in
    let p4 = then_put (simp length-append (omega arith)) p3 c.print-at.ensures in
    let p5 = then_put (simp length-append (omega arith)) p4 c.put_tabbed-at-3.ensures in
    let p6 = then_put (simp length-append (omega arith)) p5 c.put_tabbed.ensures in
    record { short = rw p6.stop (simp length-append (omega arith)); all = p6 }
