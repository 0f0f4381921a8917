-- What each call answers, and what it leaves.
use Rattle.std.specs.Prelude.{ℕ, suc, pred, ◌+◌, Bool, false, cond, not, List, [], ◌∷◌, ◌++◌, length, Some, None, Option, Ok, Err, ◌==◌, nat_le, nat_lt, slice_index_or, slice_set}
use Rattle.quorum.specs.Sets.{Rule}
use Rattle.model.specs.declared.parties.Party.{Party}
use Rattle.model.specs.declared.reader.Phase.{Phase}
use Rattle.model.specs.declared.messages.MessageKind.{MessageKind}
use Rattle.model.specs.declared.journal.OperationKind.{OperationKind}
use Rattle.model.specs.declared.journal.ReadKind.{ReadKind}
use Rattle.model.specs.declared.messages.Message.{Message}
use Rattle.model.specs.declared.journal.Operation.{Operation}
use Rattle.model.specs.declared.calls.Call.{Call}
use Rattle.model.specs.declared.answers.Reply.{Reply}
use Rattle.model.specs.declared.answers.Refusal.{Refusal}
use Rattle.model.specs.Answers.{Answer}
use Rattle.model.specs.Stamps.{Stamp, rank, next_stamp}
use Rattle.model.specs.State.{State, Held, new_line, no_line, unused, replica, reader, message, halted}
use Rattle.model.specs.State.{with_writer, with_replicas, with_reader, with_messages, with_journal, without_message}
use Rattle.model.specs.Records.{writing, writer_halted, replica_halted, reading, reader_halted, one_sent}
use Rattle.model.specs.Sound.{sound}
use Rattle.model.specs.Deliveries.{Effect, to_all, received}

-- What a call comes to: its answer, the message that it took out or copied, if any, and those that it sent for an
-- operation. A copy is not sent.
pub record Outcome (F : Type 0) : Type 0 where
  pub reply : Answer F
  pub taken : List (Message F)
  pub sent : List (Message F)
  pub next : State F

abbrev pub declined : {F : Type 0} → State F → Refusal → Outcome F
declined s e = record { reply = Err e; taken = []; sent = []; next = s }

-- MESSAGES THAT ARE SENT join the end of those that wait, and each adds one to its operation's count. The line of that is there:
-- the step has added it, or it is the line of the message delivered, which is there by soundness.

unfoldable pub counted : {F : Type 0} → F → List (Operation F) → List (Message F) → List (Operation F)
counted f journal [] = journal
counted f journal (m ∷ l) =
    counted f (slice_set journal (pred m.operation) (one_sent (slice_index_or journal (pred m.operation) (no_line f)))) l

abbrev pub posted : {F : Type 0} → State F → List (Message F) → State F
posted s l = with_messages (with_journal s (counted s.start s.journal l) s.finished) (s.messages ++ l)

abbrev pub outcome : {F : Type 0} → List (Message F) → Effect F → Outcome F
outcome taken e = record { reply = Ok e.reply; taken = taken; sent = e.sent; next = posted e.next e.sent }

-- AN OPERATION STARTS

abbrev pub next_number : {F : Type 0} → State F → ℕ
next_number s = suc (length s.journal)

-- Its event is the number of lines and finished operations after it.
abbrev pub start_event : {F : Type 0} → State F → ℕ
start_event s = next_number s + s.finished

abbrev pub with_line : {F : Type 0} → State F → OperationKind → Party → Held F → State F
with_line s kind owner x =
    with_journal s (s.journal ++ new_line kind owner (start_event s) x ∷ []) s.finished

abbrev pub to_write : {F : Type 0} → State F → F → Held F
to_write s f = record { stamp = next_stamp s.writer.last; figure = f }

unfoldable pub write : {F : Type 0} → Rule → State F → F → Effect F
write rule s f = record {
  reply = Reply.Started (next_number s);
  sent = to_all rule.size MessageKind.Put (next_number s) Party.Writer (to_write s f);
  next =
      with_writer (with_line s OperationKind.Write Party.Writer (to_write s f))
      (writing s.writer (next_number s) (to_write s f).stamp);
}

abbrev pub opening_phase : ReadKind → Phase
opening_phase ReadKind.Quick = Phase.First
opening_phase ReadKind.Settled = Phase.First
opening_phase ReadKind.Relay = Phase.Relay

abbrev pub opening_message : ReadKind → MessageKind
opening_message ReadKind.Quick = MessageKind.Query
opening_message ReadKind.Settled = MessageKind.Query
opening_message ReadKind.Relay = MessageKind.Fan

-- Right only for a reader that exists.
unfoldable pub read : {F : Type 0} → Rule → State F → ℕ → ReadKind → Effect F
read rule s r kind = record {
  reply = Reply.Started (next_number s);
  sent = to_all rule.size (opening_message kind) (next_number s) (Party.Reader r) (unused s.start);
  next =
      with_reader (with_line s (OperationKind.Read kind) (Party.Reader r) (unused s.start)) r
      (reading s.start (reader s r) (next_number s) (opening_phase kind));
}

-- These three are right only where a message waits at the place.

unfoldable pub deliver : {F : Type 0} → Rule → State F → ℕ → Effect F
deliver rule s place = received rule (without_message s place) (message s place)

unfoldable pub dropped : {F : Type 0} → State F → ℕ → Outcome F
dropped s place = record { reply = Ok Reply.Done; taken = message s place ∷ []; sent = []; next = without_message s place }

unfoldable pub duplicated : {F : Type 0} → State F → ℕ → Outcome F
duplicated s place = record {
  reply = Ok Reply.Done;
  taken = message s place ∷ [];
  sent = [];
  next = with_messages s (s.messages ++ message s place ∷ []);
}

-- Right only for a party that exists: for any other nothing changes.
abbrev pub stopped : {F : Type 0} → State F → Party → State F
stopped s Party.Writer = with_writer s (writer_halted s.writer)
stopped s (Party.Reader r) = with_reader s r (reader_halted (reader s r))
stopped s (Party.Replica c) = with_replicas s (slice_set s.replicas c (replica_halted (replica s c)))

unfoldable pub halt : {F : Type 0} → State F → Party → Outcome F
halt s p = record { reply = Ok Reply.Done; taken = []; sent = []; next = stopped s p }

-- What a call does that is not declined: so the tables are sound, and its party exists or its message waits.
unfoldable pub done : {F : Type 0} → Rule → State F → Call F → Outcome F
done rule s (Call.Write f) = outcome [] (write rule s f)
done rule s (Call.Read r kind) = outcome [] (read rule s r kind)
done rule s (Call.Deliver place) = outcome (message s place ∷ []) (deliver rule s place)
done rule s (Call.Drop place) = dropped s place
done rule s (Call.Duplicate place) = duplicated s place
done rule s (Call.Halt p) = halt s p

-- WHY A CALL IS DECLINED before its step is tried: the first of its tests that holds. A test that reads a record stands behind the
-- one that it is there.

abbrev pub absent : {F : Type 0} → Rule → State F → Party → Bool
absent rule s Party.Writer = false
absent rule s (Party.Reader r) = nat_le (length s.readers) r
absent rule s (Party.Replica c) = nat_le rule.size c

abbrev pub busy : ℕ → Bool
busy operation = not (operation == 0)

abbrev pub journal_full : {F : Type 0} → State F → Bool
journal_full s = nat_le s.journal_room (length s.journal)

abbrev pub no_place : {F : Type 0} → State F → ℕ → Bool
no_place s place = nat_le (length s.messages) place

abbrev pub ahead : {F : Type 0} → State F → Stamp → Bool
ahead s t = nat_lt (rank s.writer.last) (rank t)

abbrev pub Tests : Type 0
Tests = List (Bool × Refusal)

unfoldable pub tests : {F : Type 0} → Rule → State F → Call F → Tests
tests rule s (Call.Write f) =
    (halted s Party.Writer, Refusal.Halted)
    ∷ (busy s.writer.operation, Refusal.Busy)
    ∷ (journal_full s, Refusal.JournalFull)
    ∷ []
tests rule s (Call.Read r kind) =
    (absent rule s (Party.Reader r), Refusal.NoSuchParty)
    ∷ (halted s (Party.Reader r), Refusal.Halted)
    ∷ (busy (reader s r).operation, Refusal.Busy)
    ∷ (journal_full s, Refusal.JournalFull)
    ∷ []
tests rule s (Call.Deliver place) =
    (no_place s place, Refusal.NoMessage)
    ∷ (ahead s (message s place).stamp, Refusal.StampAhead)
    ∷ []
tests rule s (Call.Drop place) = (no_place s place, Refusal.NoMessage) ∷ []
tests rule s (Call.Duplicate place) = (no_place s place, Refusal.NoMessage) ∷ []
tests rule s (Call.Halt p) =
    (absent rule s p, Refusal.NoSuchParty)
    ∷ (halted s p, Refusal.Halted)
    ∷ []

abbrev pub first_of : Tests → Option Refusal
first_of [] = None
first_of (t ∷ ts) = cond t.0 (Some t.1) (first_of ts)

unfoldable pub refusal : {F : Type 0} → Rule → State F → Call F → Option Refusal
refusal rule s c = first_of ((not (sound rule s), Refusal.Unsound) ∷ tests rule s c)

-- A CALL NOT DECLINED SO FAR is declined if more messages would wait after it than there is room for.

abbrev pub overfull : {F : Type 0} → State F → Outcome F → Bool
overfull s o = nat_lt s.message_room (length o.next.messages)

abbrev pub settled : {F : Type 0} → State F → Option Refusal → Outcome F → Outcome F
settled s (Some e) o = declined s e
settled s None o = cond (overfull s o) (declined s Refusal.NoRoom) o

unfoldable pub step : {F : Type 0} → Rule → State F → Call F → Outcome F
step rule s c = settled s (refusal rule s c) (done rule s c)
