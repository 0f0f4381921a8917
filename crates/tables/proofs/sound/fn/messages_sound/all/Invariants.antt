use Rattle.std.proofs.Common.{◌≡◌}
use Rattle.tables.specs.Judged.{of_size, register_of, message_sound}
use Rattle.tables.proofs.sound.fn.messages_sound.all.Given as goal

abbrev pub ensures : goal.ensures
ensures g l r =
    (start : _)
    → r ≡ message_sound (of_size l.size) (register_of start l.readers.entry.now l.lines.entry.now) l.message.entry.now
