-- Stamps: how writes are ordered. Stamps are compared only by their ranks.
use Rattle.std.specs.Prelude.{ℕ, suc}

abbrev pub Stamp : Type 0
Stamp = ℕ

-- One stamp is above another where its rank is.
unfoldable pub rank : Stamp → ℕ
rank t = t

-- The stamp of the starting figure.
unfoldable pub no_stamp : Stamp
no_stamp = 0

-- The writer's stamp after this one.
unfoldable pub next_stamp : Stamp → Stamp
next_stamp t = suc t
