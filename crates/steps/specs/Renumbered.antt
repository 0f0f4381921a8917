-- The register's numbers with one of them changed.
use Rattle.std.specs.Prelude.{ℕ}
use Rattle.model.specs.declared.writer.Writer.{Writer}
use Rattle.tables.specs.declared.numbers.Numbers.{Numbers}

-- The numbers with so many messages waiting.
abbrev pub with_waiting : Numbers → ℕ → Numbers
with_waiting n waiting = record n { waiting = waiting }

-- The numbers with so many operations finished.
abbrev pub with_finished : Numbers → ℕ → Numbers
with_finished n finished = record n { finished = finished }

-- The numbers with this writer.
abbrev pub with_writer : Numbers → Writer → Numbers
with_writer n w = record n { writer = w }
