use Rattle.std.proofs.Common.{ap, subst, List, ℕ}
use Rattle.std.specs.Io.KnownBytes.{Appends}
use Rattle.player.specs.Playing.{played}
use Rattle.player.proofs.Writing.{played_read}
use Rattle.player.proofs.playing.play_through.Goals as goal

pub returns-clause-writes : goal.returns-clause-writes
returns-clause-writes g c =
    played_read (g.R.Read.remaining c.args.from) c.in-Ok.script.items _ _ _ c.in-Ok.ensures.bytes
    (subst (λ (x : List ℕ). Appends (g.W.Write.contents c.args.to.now) (g.W.Write.contents c.play_to.new.to) x)
    (ap played c.as_slice.ensures.value) c.in_ok-play_to.ensures.writes)
    c.flush.ensures.bytes
