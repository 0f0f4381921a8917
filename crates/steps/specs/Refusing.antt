-- The refusals of a call by the numbers alone, in their order, with the room for what it would send last.
use Rattle.std.specs.Prelude.{ℕ, ◌+◌, Bool, List, [], ◌∷◌, ◌++◌, length, nat_le, nat_lt, slice_index_or}
use Rattle.model.specs.declared.answers.Refusal.{Refusal}
use Rattle.model.specs.declared.reader.Reader.{Reader}
use Rattle.model.specs.State.{new_reader}
use Rattle.model.specs.Steps.{Tests, busy}
use Rattle.tables.specs.declared.numbers.Numbers.{Numbers}

-- Want of room for the line of an operation, or for its first messages.
abbrev pub room_tests : Numbers → Tests
room_tests n =
    (nat_le n.journal_room n.lines, Refusal.JournalFull)
    ∷ (nat_lt n.message_room (n.waiting + n.replicas), Refusal.NoRoom)
    ∷ []

-- A party that is not at rest: it is halted, or has an operation under way.
abbrev pub rest_tests : Bool → ℕ → Tests
rest_tests halted operation = (halted, Refusal.Halted) ∷ (busy operation, Refusal.Busy) ∷ []

abbrev pub write_tests : Numbers → Tests
write_tests n = rest_tests n.writer.halted n.writer.operation ++ room_tests n

abbrev pub read_tests : {F : Type 0} → F → Numbers → List (Reader F) → ℕ → Tests
read_tests start n ds r =
    let d = slice_index_or ds r (new_reader start) in
    (nat_le (length ds) r, Refusal.NoSuchParty) ∷ (rest_tests d.halted d.operation ++ room_tests n)

-- The refusals of a halt: of a party that is halted already, and before that of a place past the end of its table.
abbrev pub again_test : Bool → Tests
again_test is_halted = (is_halted, Refusal.Halted) ∷ []

abbrev pub stop_tests : ℕ → ℕ → Bool → Tests
stop_tests long place is_halted = (nat_le long place, Refusal.NoSuchParty) ∷ again_test is_halted
