-- What becomes of single records as the register works. Nothing is tested here: that c is the number of a replica, and that a
-- reply counts, is known where these are used.
use Rattle.std.specs.Prelude.{ℕ, ◌+◌, min, true, false, cond, ◌||◌, ◌==◌, nat_lt}
use Rattle.quorum.specs.Sets.{joined}
use Rattle.model.specs.declared.reader.Phase.{Phase}
use Rattle.model.specs.declared.writer.Writer.{Writer}
use Rattle.model.specs.declared.replica.Replica.{Replica}
use Rattle.model.specs.declared.reader.Reader.{Reader}
use Rattle.model.specs.declared.marks.RelayMark.{RelayMark}
use Rattle.model.specs.declared.journal.Operation.{Operation}
use Rattle.model.specs.Stamps.{Stamp, no_stamp, rank}
use Rattle.model.specs.State.{Held}

-- THE WRITER

-- It starts operation n under stamp t.
abbrev pub writing : Writer → ℕ → Stamp → Writer
writing w n t = record w { last = t; operation = n; acknowledgers = 0 }

-- Replica c has acknowledged.
abbrev pub acknowledged : Writer → ℕ → Writer
acknowledged w c = record w { acknowledgers = joined w.acknowledgers c }

-- Its operation has finished.
abbrev pub writer_freed : Writer → Writer
writer_freed w = record w { operation = 0 }

abbrev pub writer_halted : Writer → Writer
writer_halted w = record w { halted = true }

-- REPLICAS

-- A replica takes a stamp and its figure only if the stamp is above its own.
abbrev pub took : {F : Type 0} → Held F → Held F → Held F
took own offered = cond (nat_lt (rank own.stamp) (rank offered.stamp)) offered own

abbrev pub replica_halted : {F : Type 0} → Replica F → Replica F
replica_halted x = record x { halted = true }

-- READERS

-- The best that a reader has found.
abbrev pub best : {F : Type 0} → Reader F → Held F
best d = record { stamp = d.best_stamp; figure = d.best_figure }

abbrev pub reader_halted : {F : Type 0} → Reader F → Reader F
reader_halted d = record d { halted = true }

-- It starts operation n.
abbrev pub reading : {F : Type 0} → F → Reader F → ℕ → Phase → Reader F
reading start d n phase = record d {
  operation = n;
  phase = phase;
  replies = 0;
  best_stamp = no_stamp;
  best_figure = start;
  holders = 0;
}

-- It has replica c among the replies, x as its best and these holders of it.
abbrev pub replied_by : {F : Type 0} → Reader F → ℕ → Held F → ℕ → Reader F
replied_by d c x holders = record d {
  replies = joined d.replies c;
  best_stamp = x.stamp;
  best_figure = x.figure;
  holders = holders;
}

-- After what replica c has: a higher stamp becomes the best, with c its only holder, and an equal one adds a holder.
unfoldable pub heard : {F : Type 0} → Reader F → ℕ → Held F → Reader F
heard d c x =
    cond (nat_lt (rank d.best_stamp) (rank x.stamp)) (replied_by d c x (joined 0 c))
    (cond (rank d.best_stamp == rank x.stamp) (replied_by d c (best d) (joined d.holders c))
    (replied_by d c (best d) d.holders))

-- It goes on to its second round.
abbrev pub placing : {F : Type 0} → Reader F → Reader F
placing d = record d { phase = Phase.Second; replies = 0 }

-- After an acknowledgement of replica c.
abbrev pub confirmed : {F : Type 0} → Reader F → ℕ → Reader F
confirmed d c = replied_by d c (best d) d.holders

-- After the relayed reply of replica c: the first becomes the best, and then any with a lower stamp.
unfoldable pub lowered : {F : Type 0} → Reader F → ℕ → Held F → Reader F
lowered d c x =
    cond (d.replies == 0 || nat_lt (rank x.stamp) (rank d.best_stamp))
    (replied_by d c x d.holders)
    (replied_by d c (best d) d.holders)

-- Its operation has finished.
abbrev pub reader_freed : {F : Type 0} → Reader F → Reader F
reader_freed d = record d { operation = 0; phase = Phase.Idle }

-- MARKS

-- A mark after replica c relayed for operation n, which is not below the mark's.
unfoldable pub marked : RelayMark → ℕ → ℕ → RelayMark
marked k n c =
    cond (nat_lt k.operation n)
    (record { operation = n; relayers = joined 0 c; replied = false })
    (record k { relayers = joined k.relayers c })

abbrev pub mark_replied : RelayMark → RelayMark
mark_replied k = record k { replied = true }

-- LINES OF THE JOURNAL

-- Counts stop at 65,535.
abbrev pub one_more : ℕ → ℕ
one_more n = min (n + 1) 65535

-- After one more message of its operation.
abbrev pub one_sent : {F : Type 0} → Operation F → Operation F
one_sent o = record o { sent = one_more o.sent }

-- After its finish with x, at this event.
abbrev pub ended : {F : Type 0} → Operation F → ℕ → Held F → ℕ → Operation F
ended o event x exchanges = record o { finished = event; exchanges = exchanges; stamp = x.stamp; figure = x.figure }
