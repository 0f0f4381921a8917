use Rattle.std.proofs.Common.{◌++◌, ap, ◌∙◌, sym, length, take, arith}
use Rattle.std.proofs.lemmas.Option.{MatchOption-at_some}
use Rattle.text.specs.LineCursors.{lines_ahead}
use Rattle.player.specs.Sessions.{ahead}
use Rattle.player.proofs.Sessions.{ended}
use Rattle.player.proofs.Writing.{printed_front, written_none, written_more, written_all}
use Rattle.player.proofs.playing.play_lines.Goals as goal

pub loop-line-init : goal.loop-line-init
loop-line-init g c =
    let same = ap lines_ahead c.into_iter-line-iterator.ensures.into_iter_gives in (
      written_none (g.W.Write.contents c.args.to.now) _ _ (ap (ahead c.args.session) same),
      omega (arith, ap length same),
    )

pub loop-line-preserved : goal.loop-line-preserved
loop-line-preserved g c =
    let inv = c.loop-line.invariant in
    let next = c.in-Some.ensures.steps in
    let e = c.line.ensures in
    let is = c.unwrap-printed.ensures in
    let front = printed_front _ _ _ _ (MatchOption-at_some _ _ _ is e.answer) in (
      written_more _ _ _ (take c.unwrap-printed.result c.line.new.buffer) _ _ _ inv.0
          (ap (ahead c.loop-line.session) next ∙ MatchOption-at_some _ _ _ is e.onward (lines_ahead c.next.new.self)
          ∙ ap (λ x. x ++ ahead c.line.new.self (lines_ahead c.next.new.self)) (sym front))
          c.in_ok-write_all.ensures.bytes,
      omega (arith, inv.1, MatchOption-at_some _ _ _ is e.number, ap length next),
    )

pub returns : goal.returns
returns g c = written_all _ _ _ _ c.loop-line.invariant.0 (ended c.loop-line.session _ c.in-None.ensures.steps.0)
