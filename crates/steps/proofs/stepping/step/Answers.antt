use Rattle.std.proofs.Common.{sym, refl}
use Rattle.steps.proofs.stepping.step.Goals as goal

pub returns-in-Write : goal.returns-in-Write
returns-in-Write g c = rw c.in-Write.is (c.start_write.ensures _ _ _ _ _ refl)

pub returns-in-Read : goal.returns-in-Read
returns-in-Read g c = rw c.in-Read.is (c.start_read.ensures _ _ _ refl)

pub returns-in-Drop : goal.returns-in-Drop
returns-in-Drop g c = rw c.in-Drop.is (c.drop_message.ensures _ _ _ _ _ _ c.requires.fits.journal)

pub returns-in-Duplicate : goal.returns-in-Duplicate
returns-in-Duplicate g c = rw c.in-Duplicate.is (c.duplicate_message.ensures _ _ _ _ _ _ c.requires.fits.journal)

pub returns-in-Halt : goal.returns-in-Halt
returns-in-Halt g c =
    rw c.in-Halt.is (c.halt_party.ensures _ _ _ _ _ (sym c.requires.fits.replicas) c.requires.fits.messages c.requires.fits.journal)
