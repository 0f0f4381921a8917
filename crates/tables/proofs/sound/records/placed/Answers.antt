use Rattle.tables.specs.Judged.{register_of}
use Rattle.tables.proofs.SoundRecords.{under_way, busy_judged}
use Rattle.tables.proofs.sound.records.placed.Goals as goal

pub returns-in-First : goal.returns-in-First
returns-in-First g c = λ start readers.
    busy_judged (register_of start readers c.args.lines.now) c.args.number c.args.reader.now c.reads.result
    (under_way c.args.reader.now.phase c.in-First.is) (c.reads.ensures start readers)
