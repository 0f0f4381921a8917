-- Worked examples of the rules, of sound tables and of whole runs, as one statement.
use Rattle.std.specs.Prelude.{◌≡◌, ℕ, zero, suc, Bool, true, false, List, [], ◌∷◌, map, replicate, Ok, Err}
use Rattle.quorum.specs.Sets.{Rule}
use Rattle.quorum.specs.Families.{count_rule, lead_rule}
use Rattle.quorum.specs.Examples.{RuleExamples}
use Rattle.model.specs.declared.parties.Party.{Party}
use Rattle.model.specs.declared.messages.MessageKind.{MessageKind}
use Rattle.model.specs.declared.journal.OperationKind.{OperationKind}
use Rattle.model.specs.declared.journal.ReadKind.{ReadKind}
use Rattle.model.specs.declared.replica.Replica.{Replica}
use Rattle.model.specs.declared.journal.Operation.{Operation}
use Rattle.model.specs.declared.messages.Message.{Message}
use Rattle.model.specs.declared.calls.Call.{Call}
use Rattle.model.specs.declared.answers.Reply.{Reply}
use Rattle.model.specs.declared.answers.Refusal.{Refusal}
use Rattle.model.specs.Answers.{Answer}
use Rattle.model.specs.State.{State, Held, unused, new_reader, new_mark, new_message, fresh}
use Rattle.model.specs.SoundExamples.{SoundExamples}
use Rattle.model.specs.History.{Run, run, replies}

-- A list of calls on a newly commissioned register for so many readers, waiting messages and lines, and its answers.

abbrev pub played : {F : Type 0} → Rule → F → ℕ → ℕ → ℕ → List (Call F) → Run F
played rule start readers message_room journal_room calls =
    run rule (fresh rule start readers message_room journal_room) calls

abbrev pub answers : {F : Type 0} → Rule → F → ℕ → ℕ → ℕ → List (Call F) → List (Answer F)
answers rule start readers message_room journal_room calls =
    replies (played rule start readers message_room journal_room calls).history

-- So many deliveries of the message that has waited longest, and then some calls.
abbrev pub deliveries : {F : Type 0} → ℕ → List (Call F) → List (Call F)
deliveries zero calls = calls
deliveries (suc n) calls = Call.Deliver 0 ∷ deliveries n calls

-- So many answers that say no more than done, and then some.
abbrev pub dones : {F : Type 0} → ℕ → List (Answer F) → List (Answer F)
dones zero replies = replies
dones (suc n) replies = Ok Reply.Done ∷ dones n replies

-- The calls of examples/first.script.
abbrev pub first_script : ℕ → ℕ → List (Call ℕ)
first_script first second =
    Call.Write first
    ∷ Call.Deliver 0
    ∷ Call.Read 0 ReadKind.Quick
    ∷ Call.Deliver 3
    ∷ Call.Deliver 3
    ∷ Call.Deliver 4
    ∷ Call.Deliver 4
    ∷ Call.Deliver 4
    ∷ Call.Deliver 4
    ∷ Call.Deliver 5
    ∷ Call.Deliver 5
    ∷ Call.Write second
    ∷ []

-- Two replicas: a relay read, during which a write reaches replica 1 alone, and a second relay read. A copy of the first
-- one's RELAY from replica 0 to itself arrives late, during the second.
abbrev pub relays_twice : ℕ → List (Call ℕ)
relays_twice figure =
    Call.Read 0 ReadKind.Relay ∷ Call.Deliver 0 ∷ Call.Deliver 0 ∷ Call.Duplicate 0 ∷ Call.Deliver 0 ∷ Call.Deliver 0
    ∷ Call.Write figure ∷ Call.Deliver 4 ∷ Call.Deliver 0 ∷ Call.Deliver 0 ∷ Call.Deliver 4 ∷ Call.Deliver 3
    ∷ Call.Read 0 ReadKind.Relay ∷ Call.Deliver 3 ∷ Call.Deliver 4 ∷ Call.Deliver 0 ∷ Call.Deliver 2 ∷ Call.Deliver 3
    ∷ Call.Deliver 2 ∷ Call.Deliver 2 ∷ Call.Deliver 2 ∷ Call.Deliver 2 ∷ []

-- Three replicas, of which the last is halted: a write, and all that waits is delivered.
abbrev pub one_halted : ℕ → List (Call ℕ)
one_halted figure = Call.Write figure ∷ Call.Halt (Party.Replica 2) ∷ deliveries 6 []

-- Rows of tables.

abbrev pub figure_under : {F : Type 0} → ℕ → F → Held F
figure_under t f = record { stamp = t; figure = f }

abbrev pub put_to : {F : Type 0} → F → ℕ → Message F
put_to f c = new_message MessageKind.Put 1 Party.Writer (Party.Replica c) (figure_under 1 f)

abbrev pub holds : {F : Type 0} → Held F → Bool → Replica F
holds x halted = record { stamp = x.stamp; figure = x.figure; halted = halted }

abbrev pub entry : {F : Type 0} → OperationKind → Party → ℕ → ℕ → ℕ → Held F → ℕ → Operation F
entry kind owner started finished exchanges x sent = record {
  kind = kind;
  owner = owner;
  started = started;
  finished = finished;
  exchanges = exchanges;
  stamp = x.stamp;
  figure = x.figure;
  sent = sent;
}

-- The state after the first script: two PUTs, an acknowledgement, a QUERY and a BACK still wait.
abbrev pub first_script_end : ℕ → ℕ → State ℕ
first_script_end start first =
    let x : Held ℕ = figure_under 1 first in
    record {
      start = start;
      message_room = 1024;
      journal_room = 256;
      writer = record { halted = false; last = 1; operation = 1; acknowledgers = 0 };
      replicas = holds x false ∷ holds x false ∷ holds (unused start) false ∷ [];
      readers = record (new_reader start) { replies = 3; best_stamp = x.stamp; best_figure = x.figure; holders = 1 } ∷ new_reader start ∷ [];
      marks = replicate 6 new_mark;
      messages =
          new_message MessageKind.Put 1 Party.Writer (Party.Replica 1) x
          ∷ new_message MessageKind.Put 1 Party.Writer (Party.Replica 2) x
          ∷ new_message MessageKind.PutAck 1 (Party.Replica 0) Party.Writer (unused start)
          ∷ new_message MessageKind.Query 2 (Party.Reader 0) (Party.Replica 2) (unused start)
          ∷ new_message MessageKind.Back 2 (Party.Reader 0) (Party.Replica 2) x
          ∷ [];
      journal =
          entry OperationKind.Write Party.Writer 1 0 0 x 4
          ∷ entry (OperationKind.Read ReadKind.Quick) (Party.Reader 0) 2 3 4 x 10
          ∷ [];
      finished = 1;
    }

pub record WorkedExamples : Type 0 where
  pub rules : RuleExamples
  pub tables : SoundExamples
  -- one replica: a relay read and three deliveries show the start, with 3 messages sent and after 3 exchanges
  pub relay_alone : (start : ℕ)
      → answers (count_rule 1 0) start 1 1024 256
      (Call.Read 0 ReadKind.Relay ∷ Call.Deliver 0 ∷ Call.Deliver 0 ∷ Call.Deliver 0 ∷ [])
      ≡ Ok (Reply.Started 1) ∷ Ok Reply.Done ∷ Ok Reply.Done ∷ Ok (Reply.Finished 1 0 start 3 3) ∷ []
  -- room for five messages: after a write of three a read has none, and a delivery is done
  pub five_places : (start figure : ℕ)
      → answers (count_rule 3 1) start 1 5 256 (Call.Write figure ∷ Call.Read 0 ReadKind.Quick ∷ Call.Deliver 0 ∷ [])
      ≡ Ok (Reply.Started 1) ∷ Err Refusal.NoRoom ∷ Ok Reply.Done ∷ []
  -- three replicas: a quick read meets a write that one replica has, and puts it back before it shows it
  pub listing : (start first second : ℕ)
      → answers (count_rule 3 1) start 2 1024 256 (first_script first second)
      ≡ Ok (Reply.Started 1)
      ∷ Ok Reply.Done
      ∷ Ok (Reply.Started 2)
      ∷ Ok Reply.Done
      ∷ Ok Reply.Done
      ∷ Ok Reply.Done
      ∷ Ok Reply.Done
      ∷ Ok Reply.Done
      ∷ Ok Reply.Done
      ∷ Ok Reply.Done
      ∷ Ok (Reply.Finished 2 1 first 10 4)
      ∷ Err Refusal.Busy
      ∷ []
  -- and every place of the tables then
  pub listing_end : (start first second : ℕ)
      → (played (count_rule 3 1) start 2 1024 256 (first_script first second)).state ≡ first_script_end start first
  -- three replicas: a write finishes on its second acknowledgement, with its own stamp and figure; then a quick read takes
  -- one round, and a settled read two
  pub rounds : (start figure : ℕ)
      → answers (count_rule 3 1) start 1 1024 256
      (Call.Write figure ∷ deliveries 6 (
      Call.Read 0 ReadKind.Quick ∷ deliveries 6 (
      Call.Read 0 ReadKind.Settled ∷ deliveries 12 [])))
      ≡ Ok (Reply.Started 1) ∷ dones 4 (Ok (Reply.Finished 1 1 figure 6 2) ∷ dones 1 (
      Ok (Reply.Started 2) ∷ dones 4 (Ok (Reply.Finished 2 1 figure 6 2) ∷ dones 1 (
      Ok (Reply.Started 3) ∷ dones 10 (Ok (Reply.Finished 3 1 figure 12 4) ∷ dones 1 [])))))
  -- a halted party starts nothing and is halted once, and who does not exist is not halted
  pub halts : (start figure : ℕ)
      → answers (count_rule 3 1) start 1 1024 256
      (Call.Halt Party.Writer ∷ Call.Write figure ∷ Call.Halt Party.Writer ∷ Call.Halt (Party.Reader 0)
      ∷ Call.Read 0 ReadKind.Quick ∷ Call.Halt (Party.Reader 1) ∷ Call.Halt (Party.Replica 3)
      ∷ Call.Halt (Party.Replica 2) ∷ Call.Halt (Party.Replica 2) ∷ [])
      ≡ Ok Reply.Done ∷ Err Refusal.Halted ∷ Err Refusal.Halted ∷ Ok Reply.Done ∷ Err Refusal.Halted
      ∷ Err Refusal.NoSuchParty ∷ Err Refusal.NoSuchParty ∷ Ok Reply.Done ∷ Err Refusal.Halted ∷ []
  -- of three PUTs one is dropped, one is copied and acknowledged twice by its replica, and one goes to a halted replica
  -- and is lost: then nothing waits any more, and the write has not finished
  pub losses : (start figure : ℕ)
      → answers (count_rule 3 1) start 1 1024 256
      (Call.Write figure ∷ Call.Drop 0 ∷ Call.Duplicate 0 ∷ Call.Drop 3 ∷ Call.Duplicate 3 ∷ Call.Halt (Party.Replica 2)
      ∷ deliveries 5 (Call.Deliver 0 ∷ []))
      ≡ Ok (Reply.Started 1) ∷ dones 2 (Err Refusal.NoMessage ∷ Err Refusal.NoMessage ∷ dones 6 (Err Refusal.NoMessage ∷ []))
  -- what each event says was taken out or copied, and what was sent: a drop and a copy take hold of the one message at their
  -- place, and neither sends
  pub traffic : (start figure : ℕ)
      → map {B = List (Message ℕ) × List (Message ℕ)} (λ e. (e.taken, e.sent))
      (played (count_rule 2 0) start 1 1024 256 (Call.Write figure ∷ Call.Drop 0 ∷ Call.Duplicate 0 ∷ Call.Deliver 0 ∷ Call.Drop 9 ∷ [])).history
      ≡ ([], put_to figure 0 ∷ put_to figure 1 ∷ [])
      ∷ (put_to figure 0 ∷ [], [])
      ∷ (put_to figure 1 ∷ [], [])
      ∷ (put_to figure 1 ∷ [], new_message MessageKind.PutAck 1 (Party.Replica 1) Party.Writer (unused start) ∷ [])
      ∷ ([], [])
      ∷ []
  -- a halted replica keeps what it held, and the write finishes without it
  pub goes_on : (start figure : ℕ)
      → answers (count_rule 3 1) start 1 1024 256 (one_halted figure)
      ≡ Ok (Reply.Started 1) ∷ dones 5 (Ok (Reply.Finished 1 1 figure 5 2) ∷ Err Refusal.NoMessage ∷ [])
  pub goes_on_end : (start figure : ℕ)
      → (played (count_rule 3 1) start 1 1024 256 (one_halted figure)).state.replicas
      ≡ holds (figure_under 1 figure) false ∷ holds (figure_under 1 figure) false ∷ holds (unused start) true ∷ []
  -- a replica that is asked twice answers twice: its second answer does not count, though it knows of a newer write
  pub counts_once : (start figure : ℕ)
      → answers (count_rule 3 1) start 1 1024 256
      (Call.Read 0 ReadKind.Quick ∷ Call.Duplicate 0 ∷ Call.Write figure ∷ Call.Deliver 0 ∷ Call.Deliver 3 ∷ Call.Deliver 2
      ∷ Call.Deliver 4 ∷ Call.Deliver 5 ∷ Call.Deliver 0 ∷ Call.Deliver 4 ∷ [])
      ≡ Ok (Reply.Started 1) ∷ dones 1 (Ok (Reply.Started 2) ∷ dones 6 (Ok (Reply.Finished 1 0 start 6 2) ∷ []))
  -- a second write has the next stamp and needs acknowledgements of its own; a late one of the first does not count
  pub writes_again : (start first second : ℕ)
      → answers (count_rule 3 1) start 1 1024 256
      (Call.Write first ∷ deliveries 5 (Call.Write second ∷ deliveries 6 []))
      ≡ Ok (Reply.Started 1) ∷ dones 4 (Ok (Reply.Finished 1 1 first 6 2)
      ∷ Ok (Reply.Started 2) ∷ dones 5 (Ok (Reply.Finished 2 2 second 6 2) ∷ []))
  -- a quick read that learns of a write only from the second replica that answers puts it back: the first does not hold it
  pub puts_back : (start figure : ℕ)
      → answers (count_rule 3 1) start 1 1024 256
      (Call.Write figure ∷ Call.Deliver 1 ∷ Call.Read 0 ReadKind.Quick ∷ Call.Deliver 3 ∷ Call.Deliver 3 ∷ Call.Deliver 4
      ∷ Call.Deliver 4 ∷ Call.Deliver 4 ∷ Call.Deliver 4 ∷ Call.Deliver 5 ∷ Call.Deliver 5 ∷ [])
      ≡ Ok (Reply.Started 1) ∷ dones 1 (Ok (Reply.Started 2) ∷ dones 7 (Ok (Reply.Finished 2 1 figure 10 4) ∷ []))
  -- a relay read shows the lowest reply; the next one restarts the marks and shows the write, and the late copy changes
  -- nothing
  pub relays : (start figure : ℕ)
      → answers (count_rule 2 0) start 1 1024 256 (relays_twice figure)
      ≡ Ok (Reply.Started 1) ∷ dones 5 (
      Ok (Reply.Started 2) ∷ dones 4 (Ok (Reply.Finished 1 0 start 8 3) ∷
      Ok (Reply.Started 3) ∷ dones 8 (Ok (Reply.Finished 3 1 figure 8 3) ∷ [])))
  pub relays_end : (start figure : ℕ)
      → (played (count_rule 2 0) start 1 1024 256 (relays_twice figure)).state.marks
      ≡ replicate 2 (record { operation = 3; relayers = 3; replied = true })
  -- three replicas under the lead of replica 0: the acknowledgements of the other two do not finish a write
  pub leads : (start figure : ℕ)
      → answers (lead_rule 3 (count_rule 3 1) 0) start 1 1024 256
      (Call.Write figure ∷ Call.Deliver 2 ∷ Call.Deliver 1 ∷ Call.Deliver 1 ∷ Call.Deliver 1 ∷ deliveries 2 [])
      ≡ Ok (Reply.Started 1) ∷ dones 5 (Ok (Reply.Finished 1 1 figure 6 2) ∷ [])
  -- room for one message and one line: of several refusals that apply the first is answered
  pub refuses : (start figure : ℕ)
      → answers (count_rule 1 0) start 1 1 1
      (Call.Write figure ∷ Call.Write figure ∷ Call.Read 0 ReadKind.Quick ∷ Call.Read 1 ReadKind.Quick ∷ Call.Duplicate 0
      ∷ Call.Halt Party.Writer ∷ Call.Write figure ∷ deliveries 3 [])
      ≡ Ok (Reply.Started 1) ∷ Err Refusal.Busy ∷ Err Refusal.JournalFull ∷ Err Refusal.NoSuchParty ∷ Err Refusal.NoRoom
      ∷ Ok Reply.Done ∷ Err Refusal.Halted ∷ dones 2 (Err Refusal.NoMessage ∷ [])
