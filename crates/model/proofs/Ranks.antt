-- All that the proofs know of how stamps are ranked: the first has rank 0, and the next is above.
use Rattle.std.proofs.Common.{◌≡◌, ◌<◌, refl, arith}
use Rattle.model.specs.Stamps.{Stamp, rank, no_stamp, next_stamp}

pub rank_start : rank no_stamp ≡ 0
unfolding rank no_stamp
rank_start = refl

pub rank_next : (t : Stamp) → rank t < rank (next_stamp t)
unfolding rank next_stamp
rank_next t = omega arith
