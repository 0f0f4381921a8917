use Rattle.std.proofs.Common.{◌+◌, ◌^◌, ◌<◌, length}
use Rattle.text.specs.LineCursors.{lines_ahead}
use Rattle.player.specs.Sessions.{ahead}
use Rattle.player.proofs.Writing.{Progress}
use Rattle.player.proofs.playing.play_lines.Given as goal

abbrev pub invariant-loop-line : goal.invariant-loop-line
invariant-loop-line g l =
    let lines = lines_ahead l.line-iterator in
    Progress (g.W.Write.contents l.initial.to) (g.W.Write.contents l.to) (ahead l.session lines) (ahead l.fn.session (lines_ahead l.fn.lines))
    × (l.session.number + length lines < 2 ^ 32)
