use Rattle.std.proofs.Common.{◌&&◌, ap₂}
use Rattle.tables.proofs.sound.records.reader_sound.Goals as goal

pub returns-then-reader_within : goal.returns-then-reader_within
returns-then-reader_within g c = λ start readers.
    ap₂ (λ a b. a && b) c.if-reader_within.ensures (c.placed.ensures start readers)
