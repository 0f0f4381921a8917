use Rattle.std.proofs.Common.{true, false, refl, ◌∙◌}
use Rattle.tables.specs.View.{tables, view}
use Rattle.tables.proofs.WholeTables.{sound_judged}
use Rattle.tables.proofs.sound.tables_sound.Goals as goal

pub returns-then-parties_sound : goal.returns-then-parties_sound
returns-then-parties_sound g c = λ rule e start replicas.
    sound_judged rule c.args.numbers.now.replicas
    (view start c.args.numbers.now
    (tables replicas c.args.readers.now c.args.marks.now c.args.messages.now c.args.journal.now))
    c.in_use-lines.result.now c.in_use-waiting.result.now true c.messages_sound.result e
    (cc) c.in_use-waiting.ensures (c.if-parties_sound.ensures start)
    (c.messages_sound.ensures start)

pub returns-else-parties_sound : goal.returns-else-parties_sound
returns-else-parties_sound g c = λ rule e start replicas.
    c.if-parties_sound.false
    ∙ sound_judged rule c.args.numbers.now.replicas
    (view start c.args.numbers.now
    (tables replicas c.args.readers.now c.args.marks.now c.args.messages.now c.args.journal.now))
    c.in_use-lines.result.now c.in_use-waiting.result.now false _ e (cc)
    c.in_use-waiting.ensures (c.if-parties_sound.ensures start) refl
