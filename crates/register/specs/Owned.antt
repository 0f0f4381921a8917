-- Tables that a register owns.
use Rattle.std.specs.Prelude.{ℕ, vec_items}
use Rattle.tables.specs.View.{Tables, tables}
use Rattle.steps.specs.Queueing.{window}
use Rattle.register.specs.declared.service.cluster.OwnedTables.{OwnedTables}

-- The same as lent tables, with room for so many messages: of the queue, so many places from its head on.
abbrev pub owned : {F : Type 0} → ℕ → OwnedTables F → Tables F
owned room o =
    tables (vec_items o.replicas) (vec_items o.readers) (vec_items o.marks) (window o.head room (vec_items o.queue))
    (vec_items o.journal)
