use Rattle.std.proofs.Common.{rules}
use Rattle.model.specs.Sound.{own_read}
use Rattle.tables.specs.Judged.{register_of}
use Rattle.tables.proofs.SoundRecords.{line_tested}
use Rattle.tables.proofs.sound.records.reads.Goals as goal

pub returns : goal.returns
returns g c = λ start readers.
    line_tested (register_of start readers c.args.lines.now) c.args.operation (own_read c.args.number) (λ o. o.now) _ _ _
    (c.line_of.ensures start readers) c.is_some_and.ensures (λ o e. search rules)
