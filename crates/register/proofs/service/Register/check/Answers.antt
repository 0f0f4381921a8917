use Rattle.std.proofs.Common.{sym, refl, arith}
use Rattle.register.specs.Calls.{meaning}
use Rattle.register.proofs.Calling.{fits_tells, declines_lengths, declines_unsound}
use Rattle.tables.specs.View.{tables}
use Rattle.register.proofs.service.Register.check.Goals as goal

pub returns-then-not-lengths_fit : goal.returns-then-not-lengths_fit
returns-then-not-lengths_fit g c = declines_lengths _ _ _ _ (sym c.if-not-lengths_fit.ensures)

pub tables_sound-requires : goal.tables_sound-requires
tables_sound-requires g c =
    let kept = c.args.self.now.kept in
    let fits = fits_tells c.args.self.now.numbers
    (tables c.args.replicas.now c.args.readers.now c.args.marks.now c.args.messages.now c.args.journal.now)
    (sym c.if-not-lengths_fit.ensures) in
    record {
      waiting = omega (arith, kept.room, fits.messages);
      lines = omega (arith, kept.lines_fit, fits.journal);
    }

pub returns-then-not-tables_sound : goal.returns-then-not-tables_sound
returns-then-not-tables_sound g c =
    declines_unsound _ _ _ _ (sym c.if-not-lengths_fit.ensures) (sym (c.if-not-tables_sound.ensures (meaning g.R.QuorumSystem c.args.self.now) refl _ _))

pub returns : goal.returns
returns g c = record {
  fitting = fits_tells _ _ (sym c.if-not-lengths_fit.ensures);
  is_sound = sym (c.if-not-tables_sound.ensures (meaning g.R.QuorumSystem c.args.self.now) refl _ _);
}
