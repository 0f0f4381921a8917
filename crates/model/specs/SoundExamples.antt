-- Which tables are sound, by examples: each test of soundness has tables that fail it and no other.
use Rattle.std.specs.Prelude.{◌≡◌, ℕ, Bool, true, false, ◌&&◌, List, [], ◌∷◌, map, Ok}
use Rattle.quorum.specs.Sets.{Rule}
use Rattle.quorum.specs.Families.{count_rule}
use Rattle.model.specs.declared.parties.Party.{Party}
use Rattle.model.specs.declared.reader.Phase.{Phase}
use Rattle.model.specs.declared.messages.MessageKind.{MessageKind}
use Rattle.model.specs.declared.journal.OperationKind.{OperationKind}
use Rattle.model.specs.declared.journal.ReadKind.{ReadKind}
use Rattle.model.specs.declared.calls.Call.{Call}
use Rattle.model.specs.declared.answers.Reply.{Reply}
use Rattle.model.specs.declared.answers.Refusal.{Refusal}
use Rattle.model.specs.State.{State, unused, new_reader, new_message, new_line, fresh, with_reader, with_mark, with_messages, with_journal}
use Rattle.model.specs.Sound.{sets_within, messages_addressed, messages_recorded, readers_placed, sound}
use Rattle.model.specs.Steps.{declined, step}

abbrev pub three : Rule
three = count_rule 3 1

-- A register of three replicas and two readers, both idle. Its journal has a quick read of reader 0, a write, a relay
-- read of reader 1, and two lines whose owners cannot have them.
abbrev pub tables : State ℕ
tables = with_journal (fresh three 5 2 9 9) (
    new_line (OperationKind.Read ReadKind.Quick) (Party.Reader 0) 1 (unused 5)
    ∷ new_line OperationKind.Write Party.Writer 2 (unused 5)
    ∷ new_line (OperationKind.Read ReadKind.Relay) (Party.Reader 1) 3 (unused 5)
    ∷ new_line OperationKind.Write (Party.Reader 0) 4 (unused 5)
    ∷ new_line (OperationKind.Read ReadKind.Settled) (Party.Reader 2) 5 (unused 5)
    ∷ []) 0

-- The same where reader 0 is at this operation, in this phase, with these replies and holders.
abbrev pub reads : ℕ → Phase → ℕ → ℕ → State ℕ
reads n phase replies holders =
    with_reader tables 0 (record (new_reader 5) { operation = n; phase = phase; replies = replies; holders = holders })

-- The same where replica 2 has a mark with these relayers for reader 1.
abbrev pub relayed_by : ℕ → State ℕ
relayed_by relayers = with_mark tables 2 1 (record { operation = 77; relayers = relayers; replied = true })

-- The same where this message waits.
abbrev pub waits : MessageKind → ℕ → Party → Party → State ℕ
waits kind n from to = with_messages tables (new_message kind n from to (unused 5) ∷ [])

-- Reader 0 is at work with no operation.
abbrev pub unsound_tables : State ℕ
unsound_tables = reads 0 Phase.First 0 0

-- A PUT waits with a stamp that the writer has not given yet.
abbrev pub ahead_tables : State ℕ
ahead_tables =
    with_messages tables (
    new_message MessageKind.Put 2 Party.Writer (Party.Replica 0) (record { stamp = 1; figure = 6 }) ∷ [])

-- Whether the tables are sound, and what the four tests say.
abbrev pub verdicts : State ℕ → List Bool
verdicts s =
    sound three s ∷ sets_within three s ∷ messages_addressed three s ∷ messages_recorded s ∷ readers_placed s ∷ []

-- The tests say this of all these tables, and they are sound if each passes.
abbrev pub Judged : Bool → Bool → Bool → Bool → List (State ℕ) → Type 0
Judged sets addressed recorded placed l =
    map verdicts l
    ≡ map (λ s. (sets && addressed && recorded && placed) ∷ sets ∷ addressed ∷ recorded ∷ placed ∷ []) l

pub record SoundExamples : Type 0 where
  -- a reader with its own read, in any phase, with any set of the three replicas, and a mark that names them all
  pub works : Judged true true true true (
      tables ∷ reads 1 Phase.First 7 7 ∷ reads 1 Phase.Second 1 3 ∷ reads 1 Phase.Relay 0 0 ∷ relayed_by 7 ∷ [])
  -- a message of each kind; of its parties no more is asked than that they suit the kind
  pub suits : Judged true true true true (
      waits MessageKind.Put 2 Party.Writer (Party.Replica 2)
      ∷ waits MessageKind.PutAck 2 (Party.Replica 2) Party.Writer
      ∷ waits MessageKind.Query 1 (Party.Reader 0) (Party.Replica 2)
      ∷ waits MessageKind.Have 1 (Party.Replica 2) (Party.Reader 1)
      ∷ waits MessageKind.Back 1 (Party.Reader 0) (Party.Replica 2)
      ∷ waits MessageKind.BackAck 1 (Party.Replica 2) (Party.Reader 0)
      ∷ waits MessageKind.Fan 3 (Party.Reader 1) (Party.Replica 2)
      ∷ waits MessageKind.Relay 3 (Party.Replica 2) (Party.Replica 2)
      ∷ waits MessageKind.Reply 3 (Party.Replica 2) (Party.Reader 1)
      ∷ [])
  -- a set with a fourth replica: of replies, of holders, of an idle reader, of relayers
  pub past_the_size : Judged false true true true (
      reads 1 Phase.First 8 0 ∷ reads 1 Phase.First 0 8 ∷ reads 0 Phase.Idle 15 0 ∷ relayed_by 8 ∷ [])
  -- a sender or a receiver that does not exist
  pub no_party : Judged true false true true (
      waits MessageKind.Put 2 Party.Writer (Party.Replica 3)
      ∷ waits MessageKind.PutAck 2 (Party.Replica 3) Party.Writer
      ∷ waits MessageKind.Query 1 (Party.Reader 2) (Party.Replica 2)
      ∷ waits MessageKind.Have 1 (Party.Replica 3) (Party.Reader 0)
      ∷ waits MessageKind.Back 1 (Party.Reader 2) (Party.Replica 2)
      ∷ waits MessageKind.BackAck 1 (Party.Replica 2) (Party.Reader 2)
      ∷ waits MessageKind.Fan 3 (Party.Reader 2) (Party.Replica 2)
      ∷ waits MessageKind.Relay 3 (Party.Replica 2) (Party.Replica 3)
      ∷ waits MessageKind.Reply 3 (Party.Replica 3) (Party.Reader 1)
      ∷ [])
  -- one that does not suit the kind
  pub other_party : Judged true false true true (
      waits MessageKind.Put 2 (Party.Reader 0) (Party.Replica 2)
      ∷ waits MessageKind.PutAck 2 (Party.Replica 2) (Party.Reader 0)
      ∷ waits MessageKind.Query 1 (Party.Reader 0) Party.Writer
      ∷ waits MessageKind.Have 1 (Party.Replica 2) (Party.Replica 2)
      ∷ waits MessageKind.Back 1 (Party.Reader 0) (Party.Reader 0)
      ∷ waits MessageKind.BackAck 1 Party.Writer (Party.Reader 0)
      ∷ waits MessageKind.Fan 3 (Party.Reader 1) (Party.Reader 1)
      ∷ waits MessageKind.Relay 3 (Party.Reader 1) (Party.Replica 2)
      ∷ waits MessageKind.Reply 3 (Party.Replica 2) Party.Writer
      ∷ [])
  -- an operation outside the journal
  pub no_operation : Judged true false true true (
      waits MessageKind.Query 0 (Party.Reader 0) (Party.Replica 2)
      ∷ waits MessageKind.Put 6 Party.Writer (Party.Replica 2)
      ∷ [])
  -- an operation that the message does not serve: a read for a write's, another read or a write for a read's
  pub other_kind : Judged true true false true (
      waits MessageKind.Put 1 Party.Writer (Party.Replica 2)
      ∷ waits MessageKind.PutAck 1 (Party.Replica 2) Party.Writer
      ∷ waits MessageKind.Query 3 (Party.Reader 0) (Party.Replica 2)
      ∷ waits MessageKind.Have 3 (Party.Replica 2) (Party.Reader 0)
      ∷ waits MessageKind.Back 3 (Party.Reader 0) (Party.Replica 2)
      ∷ waits MessageKind.BackAck 3 (Party.Replica 2) (Party.Reader 0)
      ∷ waits MessageKind.Fan 1 (Party.Reader 1) (Party.Replica 2)
      ∷ waits MessageKind.Relay 1 (Party.Replica 2) (Party.Replica 2)
      ∷ waits MessageKind.Reply 1 (Party.Replica 2) (Party.Reader 1)
      ∷ waits MessageKind.Have 2 (Party.Replica 2) (Party.Reader 0)
      ∷ waits MessageKind.Reply 2 (Party.Replica 2) (Party.Reader 1)
      ∷ [])
  -- one whose owner cannot have it: a write of a reader, a read of a reader that does not exist
  pub other_owner : Judged true true false true (
      waits MessageKind.PutAck 4 (Party.Replica 2) Party.Writer
      ∷ waits MessageKind.Have 5 (Party.Replica 2) (Party.Reader 0)
      ∷ [])
  -- a reader that is idle with an operation, or at work with none, with another's read, with a write, or with no line
  pub misplaced : Judged true true true false (
      reads 1 Phase.Idle 0 0
      ∷ reads 0 Phase.First 0 0
      ∷ reads 3 Phase.Relay 0 0
      ∷ reads 2 Phase.First 0 0
      ∷ reads 4 Phase.First 0 0
      ∷ reads 6 Phase.First 0 0
      ∷ [])
  -- on unsound tables every call is declined for that, also one of a reader that does not exist
  pub unsound_read : step three unsound_tables (Call.Read 7 ReadKind.Quick) ≡ declined unsound_tables Refusal.Unsound
  pub unsound_halt : step three unsound_tables (Call.Halt Party.Writer) ≡ declined unsound_tables Refusal.Unsound
  -- a stamp above the writer's last is not delivered; the message may be dropped
  pub ahead : step three ahead_tables (Call.Deliver 0) ≡ declined ahead_tables Refusal.StampAhead
  pub ahead_dropped : (step three ahead_tables (Call.Drop 0)).reply ≡ Ok Reply.Done
