-- How long a printed figure can be.
use Rattle.std.specs.Prelude.{ℕ}

-- No figure takes more bytes than these: a line of at most 80 bytes then has room for one.
abbrev pub figure_room : ℕ
figure_room = 32
