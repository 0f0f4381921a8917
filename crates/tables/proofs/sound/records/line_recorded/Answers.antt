use Rattle.model.specs.Sound.{recorded}
use Rattle.tables.specs.Judged.{register_of}
use Rattle.tables.proofs.SoundRecords.{line_tested}
use Rattle.tables.proofs.sound.records.line_recorded.Goals as goal

pub returns : goal.returns
returns g c = λ start.
    let s = register_of start c.args.readers.now c.args.lines.now in
    line_tested s c.args.operation (recorded s c.args.kind) (λ o. o.now) _ _ _
    (c.line_of.ensures start c.args.readers.now) c.is_some_and.ensures (λ o e. e start c.args.lines.now)
