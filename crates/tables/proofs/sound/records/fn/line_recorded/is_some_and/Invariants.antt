use Rattle.std.proofs.Common.{◌≡◌}
use Rattle.model.specs.Sound.{recorded}
use Rattle.tables.specs.Judged.{register_of}
use Rattle.tables.proofs.sound.records.fn.line_recorded.is_some_and.Given as goal

abbrev pub ensures : goal.ensures
ensures g l r = (start : _) (lines : _) → r ≡ recorded (register_of start l.readers.entry.now lines) l.kind l.line.entry.now
