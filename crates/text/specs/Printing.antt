-- Printing into a buffer.
use Rattle.std.specs.Prelude.{◌≡◌, ℕ, ◌+◌, List, ◌++◌, length, take, drop}

-- a buffer in which some bytes are written from a place on
abbrev pub put : List ℕ → ℕ → List ℕ → List ℕ
put buffer at bytes = take at buffer ++ (bytes ++ drop (at + length bytes) buffer)

-- some bytes were written from a place on, and nothing else: the buffer after it, and the place after them
pub record Printed (before : List ℕ) (at : ℕ) (bytes after : List ℕ) (end : ℕ) : Type 0 where
  pub all : after ≡ put before at bytes
  pub stop : end ≡ at + length bytes
