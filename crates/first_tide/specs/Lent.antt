-- The memory of this program.
use Rattle.std.specs.Prelude.{replicate}
use Rattle.figure.specs.Tides.{tide_start}
use Rattle.figure.specs.declared.tide.Tide.{Tide}
use Rattle.model.specs.State.{new_replica, new_reader, new_mark, no_message, no_line}
use Rattle.tables.specs.View.{Tables, tables}
use Rattle.first_tide.specs.declared.memory.Memory.{Memory}

-- As the tables that a register is lent.
abbrev pub lent : Memory → Tables Tide
lent m = tables m.replicas m.readers m.marks m.messages m.journal

-- With nothing in it yet.
abbrev pub blank : Memory
blank = record {
  replicas = replicate 3 (new_replica tide_start);
  readers = replicate 1 (new_reader tide_start);
  marks = replicate 3 new_mark;
  messages = replicate 16 (no_message tide_start);
  journal = replicate 8 (no_line tide_start);
}
