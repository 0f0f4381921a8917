-- Histories that no register may have. Each breaks a claim, so the claims exclude something.
use Rattle.std.specs.Prelude.{◌≡◌, ℕ, ◌+◌, ◌*◌, List, [], ◌∷◌, replicate, Ok, Err}
use Rattle.quorum.specs.Sets.{Rule}
use Rattle.quorum.specs.Laws.{Lawful}
use Rattle.quorum.specs.Families.{count_rule}
use Rattle.model.specs.declared.parties.Party.{Party}
use Rattle.model.specs.declared.messages.MessageKind.{MessageKind}
use Rattle.model.specs.declared.messages.Message.{Message}
use Rattle.model.specs.declared.journal.OperationKind.{OperationKind}
use Rattle.model.specs.declared.journal.ReadKind.{ReadKind}
use Rattle.model.specs.declared.journal.Operation.{Operation}
use Rattle.model.specs.declared.calls.Call.{Call}
use Rattle.model.specs.declared.answers.Reply.{Reply}
use Rattle.model.specs.declared.answers.Refusal.{Refusal}
use Rattle.model.specs.Stamps.{Stamp, no_stamp, next_stamp}
use Rattle.model.specs.State.{State, Held, unused, new_message, fresh, with_journal, with_messages}
use Rattle.model.specs.Steps.{opening_message, stopped}
use Rattle.model.specs.History.{Event, History}
use Rattle.model.specs.Claims.{Numbered, AsWritten, Row, Finishing, Limits, Undisturbed}

-- EVENTS. The figures are numbers, and the register starts with 0.

abbrev pub value : Stamp → ℕ → Held ℕ
value t f = record { stamp = t; figure = f }

-- The stamps of the first two writes.

abbrev pub first : Stamp
first = next_stamp no_stamp

abbrev pub second : Stamp
second = next_stamp first

-- A PUT of write n to replica 0.
abbrev pub put : ℕ → Stamp → ℕ → Message ℕ
put n t f = new_message MessageKind.Put n Party.Writer (Party.Replica 0) (value t f)

-- A QUERY of read n, of reader 0 to replica 2.
abbrev pub query : ℕ → Message ℕ
query n = new_message MessageKind.Query n (Party.Reader 0) (Party.Replica 2) (unused 0)

-- Write n of a figure starts, and these messages are sent for it.
abbrev pub write_starts : ℕ → ℕ → List (Message ℕ) → Event ℕ
write_starts n f sent = record { call = Call.Write f; reply = Ok (Reply.Started n); taken = []; sent = sent }

-- Quick read n of reader r starts. Its messages are left out.
abbrev pub read_starts : ℕ → ℕ → Event ℕ
read_starts n r = record { call = Call.Read r ReadKind.Quick; reply = Ok (Reply.Started n); taken = []; sent = [] }

-- A delivery finishes operation n with a stamp and a figure. No claim asks which message was delivered.
abbrev pub finishes : ℕ → Stamp → ℕ → Event ℕ
finishes n t f = record { call = Call.Deliver 0; reply = Ok (Reply.Finished n t f 2 2); taken = []; sent = [] }

-- A call is declined.
abbrev pub declines : Call ℕ → Refusal → Event ℕ
declines c e = record { call = c; reply = Err e; taken = []; sent = [] }

-- HISTORIES

-- Number 1 is given to a second read, once the first has finished.
abbrev pub number_given_twice : History ℕ
number_given_twice = read_starts 1 0 ∷ finishes 1 no_stamp 0 ∷ read_starts 1 0 ∷ []

-- Read 1 finishes twice.
abbrev pub read_ends_twice : History ℕ
read_ends_twice = read_starts 1 0 ∷ finishes 1 no_stamp 0 ∷ finishes 1 no_stamp 0 ∷ []

-- Reader 0 starts read 2 while its read 1 is unfinished.
abbrev pub two_at_once : History ℕ
two_at_once = read_starts 1 0 ∷ read_starts 2 0 ∷ []

-- The writer starts write 2 while its write 1 is unfinished.
abbrev pub two_writes_at_once : History ℕ
two_writes_at_once = write_starts 1 10 [] ∷ write_starts 2 20 [] ∷ []

-- Write 1 of the figure 10 finishes with this.
abbrev pub write_ends : Stamp → ℕ → History ℕ
write_ends t f = write_starts 1 10 (put 1 first 10 ∷ []) ∷ finishes 1 t f ∷ []

-- Write 1 finishes, write 2 starts and does not finish, and read 3 shows write 2. Then read 4 starts, and shows this.
abbrev pub second_read : Stamp → ℕ → History ℕ
second_read t f =
    write_starts 1 10 (put 1 first 10 ∷ [])
    ∷ finishes 1 first 10
    ∷ write_starts 2 20 (put 2 second 20 ∷ [])
    ∷ read_starts 3 0
    ∷ finishes 3 second 20
    ∷ read_starts 4 1
    ∷ finishes 4 t f
    ∷ []

-- Write 1 finishes. Then read 2 starts, and shows this.
abbrev pub read_after_write : Stamp → ℕ → History ℕ
read_after_write t f =
    write_starts 1 10 (put 1 first 10 ∷ [])
    ∷ finishes 1 first 10
    ∷ read_starts 2 0
    ∷ finishes 2 t f
    ∷ []

-- Writes 1 and 2 finish. Then read 3 starts, and shows this.
abbrev pub read_after_two : Stamp → ℕ → History ℕ
read_after_two t f =
    write_starts 1 10 (put 1 first 10 ∷ [])
    ∷ finishes 1 first 10
    ∷ write_starts 2 20 (put 2 second 20 ∷ [])
    ∷ finishes 2 second 20
    ∷ read_starts 3 0
    ∷ finishes 3 t f
    ∷ []

-- Read 1 shows write 2, which starts after the read has finished.
abbrev pub read_ahead : History ℕ
read_ahead =
    read_starts 1 0
    ∷ finishes 1 first 10
    ∷ write_starts 2 10 (put 2 first 10 ∷ [])
    ∷ finishes 2 first 10
    ∷ []

-- A message of a write is delivered and only taken out, with no answer to the writer.
abbrev pub stalled : History ℕ
stalled =
    write_starts 1 10 (put 1 first 10 ∷ [])
    ∷ record { call = Call.Deliver 0; reply = Ok Reply.Done; taken = put 1 first 10 ∷ []; sent = [] }
    ∷ []

-- A read of this kind, operation 2, starts behind write 1. A message of the write is dropped, and one of the read is copied.
abbrev pub stranded : ReadKind → History ℕ
stranded kind =
    write_starts 1 10 (put 1 first 10 ∷ [])
    ∷ record { call = Call.Read 0 kind; reply = Ok (Reply.Started 2); taken = []; sent = [] }
    ∷ record { call = Call.Drop 0; reply = Ok Reply.Done; taken = put 1 first 10 ∷ []; sent = [] }
    ∷ record { call = Call.Duplicate 0; reply = Ok Reply.Done; taken = query 2 ∷ []; sent = [] }
    ∷ []

abbrev pub three_replicas : Rule
three_replicas = count_rule 3 1

-- Replica 2 and the writer are halted. Read 2's QUERY waits for that replica, and write 1's PUT for one at work.
abbrev pub one_left : State ℕ
one_left =
    with_messages (stopped (stopped (fresh three_replicas 0 1 64 8) (Party.Replica 2)) Party.Writer)
    (query 2 ∷ put 1 first 10 ∷ [])

-- A write for which one message more is sent than two for each replica.
abbrev pub overspent : Rule → History ℕ
overspent rule = write_starts 1 10 (replicate (2 * rule.size + 1) (put 1 first 10)) ∷ []

-- The same, once a message of read 1 was copied: the write is operation 2.
abbrev pub overspent_beside_a_copy : Rule → History ℕ
overspent_beside_a_copy rule =
    read_starts 1 0
    ∷ record { call = Call.Duplicate 0; reply = Ok Reply.Done; taken = query 1 ∷ []; sent = [] }
    ∷ write_starts 2 10 (replicate (2 * rule.size + 1) (put 2 first 10))
    ∷ []

-- A read of this kind, for which so many messages are sent.
abbrev pub read_sends : ReadKind → ℕ → History ℕ
read_sends kind sent =
    record {
      call = Call.Read 0 kind;
      reply = Ok (Reply.Started 1);
      taken = [];
      sent = replicate sent (new_message (opening_message kind) 1 (Party.Reader 0) (Party.Replica 0) (unused 0));
    }
    ∷ []

-- The line of an operation that started at this event with x, and for which so many messages were sent.
abbrev pub started_line : ℕ → OperationKind → Party → Held ℕ → ℕ → Operation ℕ
started_line started kind owner x sent = record {
  kind = kind;
  owner = owner;
  started = started;
  finished = 0;
  exchanges = 0;
  stamp = x.stamp;
  figure = x.figure;
  sent = sent;
}

-- A register with one operation in its journal, which started with x and for which so many messages were sent. All its
-- parties work, and no message waits.
abbrev pub after_start : Rule → OperationKind → Party → Held ℕ → ℕ → State ℕ
after_start rule kind owner x sent = with_journal (fresh rule 0 1 64 8) (started_line 1 kind owner x sent ∷ []) 0

abbrev pub after_write : Rule → ℕ → State ℕ
after_write rule = after_start rule OperationKind.Write Party.Writer (value first 10)

-- The same with a read before the write, of whose messages none are counted.
abbrev pub after_both : Rule → ℕ → State ℕ
after_both rule sent = with_journal (fresh rule 0 1 64 8) (
    started_line 1 (OperationKind.Read ReadKind.Quick) (Party.Reader 0) (unused 0) 0
    ∷ started_line 2 OperationKind.Write Party.Writer (value first 10) sent
    ∷ []) 0

-- The limits hold of such a read.
abbrev pub ReadWithin : Rule → ReadKind → ℕ → Type 0
ReadWithin rule kind sent =
    Limits rule (read_sends kind sent) (after_start rule (OperationKind.Read kind) (Party.Reader 0) (unused 0) sent)

-- WHAT THE CLAIMS EXCLUDE

pub record Refutable : Type 0 where
  -- a number that has no line
  pub unlisted : (rule : Rule) (n : ℕ) → Numbered (read_starts n 0 ∷ []) (fresh rule 0 1 64 8) → ⊥
  -- a number that is given to two operations
  pub renumbers : (s : State ℕ) → Numbered number_given_twice s → ⊥
  -- an operation that finishes twice
  pub repeats : (s : State ℕ) → Numbered read_ends_twice s → ⊥
  -- and one that finishes and never started
  pub unstarted : (s : State ℕ) → Numbered (finishes 1 no_stamp 0 ∷ []) s → ⊥
  -- a reader that starts a second operation while its first is unfinished
  pub overlaps : (s : State ℕ) → Numbered two_at_once s → ⊥
  -- and the writer that does
  pub writes_overlap : (s : State ℕ) → Numbered two_writes_at_once s → ⊥
  -- a line of another kind or owner than the operation of its number
  pub mislabels : (rule : Rule) (kind : OperationKind) (owner : Party)
      → Numbered (write_starts 1 10 [] ∷ []) (after_start rule kind owner (value first 10) 0)
      → (kind ≡ OperationKind.Write) × (owner ≡ Party.Writer)
  -- a write that finishes with another stamp or figure than it wrote
  pub miswrites : (t : Stamp) (f : ℕ) → AsWritten (write_ends t f) → (t ≡ first) × (f ≡ 10)
  -- a read that falls back to write 1, once another has shown write 2, which is not finished
  pub falls_back : Row 0 (second_read first 10) → ⊥
  -- and one that shows anything else than write 2
  pub shows_newest : (t : Stamp) (f : ℕ) → Row 0 (second_read t f) → (t ≡ second) × (f ≡ 20)
  -- a read that shows the starting figure after a write has finished
  pub forgets : Row 0 (read_after_write no_stamp 0) → ⊥
  -- and one that shows anything else than that write, such as a figure that nobody wrote
  pub shows_written : (t : Stamp) (f : ℕ) → Row 0 (read_after_write t f) → (t ≡ first) × (f ≡ 10)
  -- a read that shows anything else than the last of two finished writes
  pub shows_last : (t : Stamp) (f : ℕ) → Row 0 (read_after_two t f) → (t ≡ second) × (f ≡ 20)
  -- a read that shows a write that has not started yet
  pub foresees : Row 0 read_ahead → ⊥
  -- a write that nothing holds up, and that does not finish
  pub stalls : (rule : Rule) → Lawful rule → Finishing rule stalled (after_write rule 1) → ⊥
  -- a read that nothing holds up, and that does not finish: the writer and one replica are halted, a message of another operation
  -- was dropped and one waits, and a message of the read was copied
  pub strands : (kind : ReadKind) → Finishing three_replicas (stranded kind) one_left → ⊥
  -- a write that costs more than two messages for each replica, though no message of it was copied
  pub overspends : (rule : Rule) → Limits rule (overspent rule) (after_write rule (2 * rule.size + 1)) → ⊥
  -- such a write though a message of another operation was copied
  pub overspends_beside_a_copy : (rule : Rule)
      → Limits rule (overspent_beside_a_copy rule) (after_both rule (2 * rule.size + 1)) → ⊥
  -- a quick or a settled read that costs more than four for each
  pub quick_overspends : (rule : Rule) → ReadWithin rule ReadKind.Quick (4 * rule.size + 1) → ⊥
  pub settled_overspends : (rule : Rule) → ReadWithin rule ReadKind.Settled (4 * rule.size + 1) → ⊥
  -- and a relay read that costs more than two for each and one from each to each
  pub relay_overspends : (rule : Rule) → ReadWithin rule ReadKind.Relay (rule.size * rule.size + 2 * rule.size + 1) → ⊥
  -- a count in the journal that is not that of the messages sent
  pub miscounts : (rule : Rule) (sent : ℕ) → Limits rule stalled (after_write rule sent) → sent ≡ 1
  -- a call that is declined for its tables or for a stamp, though no one else wrote into them
  pub finds_unsound : (c : Call ℕ) → Undisturbed (declines c Refusal.Unsound ∷ []) → ⊥
  pub finds_ahead : (c : Call ℕ) → Undisturbed (declines c Refusal.StampAhead ∷ []) → ⊥
