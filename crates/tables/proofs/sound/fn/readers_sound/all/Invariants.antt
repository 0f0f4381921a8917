use Rattle.std.proofs.Common.{◌≡◌}
use Rattle.tables.specs.Judged.{of_size, register_of, reader_sound}
use Rattle.tables.proofs.sound.fn.readers_sound.all.Given as goal

abbrev pub ensures : goal.ensures
ensures g l r = (start : _) (readers : _) → r ≡ reader_sound (of_size l.size) (register_of start readers l.lines.entry.now) l.number l.reader.entry.now
