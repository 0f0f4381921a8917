-- What a register promises of every history: numbers tell its operations apart, a write finishes with what it wrote, the
-- operations stand in one row, those that nothing holds up finish, their messages are few, and no call is declined for
-- unsound tables. It goes by the events of the history (the calls, their answers, and which messages were sent,
-- dropped and copied) and by the state after them (the lines of the journal, who is halted and what waits).
use Rattle.std.specs.Prelude.{◌≡◌, ℕ, ◌+◌, ◌*◌, ◌<◌, ◌≤◌, min, true, false, cond, not, ◌&&◌, ◌⊎◌, List, [], ◌∷◌, length, Some, None, Option, ◌==◌, ◌≢◌, nat_lt, Ok, Err}
use Rattle.quorum.specs.Sets.{Rule, Members}
use Rattle.quorum.specs.Laws.{Lawful}
use Rattle.model.specs.declared.parties.Party.{Party}
use Rattle.model.specs.declared.messages.MessageKind.{MessageKind}
use Rattle.model.specs.declared.messages.Message.{Message}
use Rattle.model.specs.declared.journal.ReadKind.{ReadKind}
use Rattle.model.specs.declared.journal.OperationKind.{OperationKind}
use Rattle.model.specs.declared.calls.Call.{Call}
use Rattle.model.specs.declared.answers.Reply.{Reply}
use Rattle.model.specs.declared.answers.Refusal.{Refusal}
use Rattle.model.specs.Stamps.{Stamp}
use Rattle.model.specs.State.{State, Held, unused, line, halted}
use Rattle.model.specs.History.{Event, History, Grows}
pub use Rattle.model.specs.Places.{At, In, Once, Before}

-- OPERATIONS, as the calls and their answers tell of them. A moment is a place in the history.

-- What a call asks for: an operation of this owner and kind, or none.
abbrev pub asked : {F : Type 0} → Call F → Option (Party × OperationKind)
asked (Call.Write f) = Some (Party.Writer, OperationKind.Write)
asked (Call.Read r kind) = Some (Party.Reader r, OperationKind.Read kind)
asked (Call.Deliver place) = None
asked (Call.Drop place) = None
asked (Call.Duplicate place) = None
asked (Call.Halt p) = None

module _ {F : Type 0} (h : History F) where
  -- At moment m operation n starts: a write or a read is answered with its number.
  abbrev pub Starts : ℕ → ℕ → Party → OperationKind → Type 0
  Starts m n owner kind =
      (e : Event F) × At h m e × (asked e.call ≡ Some (owner, kind)) × (e.reply ≡ Ok (Reply.Started n))

  -- At moment m operation n finishes with x: a delivery is answered so.
  abbrev pub Finishes : ℕ → ℕ → Held F → Type 0
  Finishes m n x =
      (e : Event F) × (place : ℕ) × (sent : ℕ) × (exchanges : ℕ) × At h m e × (e.call ≡ Call.Deliver place)
      × (e.reply ≡ Ok (Reply.Finished n x.stamp x.figure sent exchanges))

  abbrev pub Finished : ℕ → Type 0
  Finished n = (m : ℕ) × (x : Held F) × Finishes m n x

  -- Operation i has finished before operation j starts.
  abbrev pub Precedes : ℕ → ℕ → Type 0
  Precedes i j =
      (m : ℕ) × (k : ℕ) × (x : Held F) × (owner : Party) × (kind : OperationKind)
      × Finishes m i x × Starts k j owner kind × (m < k)

  -- A PUT of operation n was sent.
  abbrev pub Put : ℕ → Message F → Type 0
  Put n a = (m : ℕ) × (e : Event F) × At h m e × In a e.sent × (a.kind ≡ MessageKind.Put) × (a.operation ≡ n)

  -- A write's stamp is that of its PUTs, of which there are some.
  abbrev pub Stamped : ℕ → Stamp → Type 0
  Stamped n t = ((a : Message F) × Put n a) × ((a : Message F) → Put n a → a.stamp ≡ t)

  -- Operation n is a write of x: of the figure given in its call, under its stamp.
  abbrev pub Writes : ℕ → Held F → Type 0
  Writes n x =
      (m : ℕ) × (e : Event F) × At h m e × (e.call ≡ Call.Write x.figure) × (e.reply ≡ Ok (Reply.Started n))
      × Stamped n x.stamp

  -- Operation n is a read that has finished, and it showed x.
  abbrev pub Shows : ℕ → Held F → Type 0
  Shows n x =
      ((m : ℕ) × (owner : Party) × (kind : ReadKind) × Starts m n owner (OperationKind.Read kind))
      × ((m : ℕ) × Finishes m n x)

  -- The numbers tell operations apart: each is given once, has its line, and finishes at most once, after its start. Of each
  -- owner at most one operation is unfinished.
  pub record Numbered (s : State F) : Type 0 where
    pub in_journal : (m n : ℕ) (p : Party) (k : OperationKind) → Starts m n p k → (1 ≤ n) × (n ≤ length s.journal)
    pub its_line : (m n : ℕ) (p : Party) (k : OperationKind) → Starts m n p k
        → ((line s n).kind ≡ k) × ((line s n).owner ≡ p)
    pub given_once : (l m n : ℕ) (p q : Party) (j k : OperationKind) → Starts l n p j → Starts m n q k → l ≡ m
    pub finished_once : (l m n : ℕ) (x y : Held F) → Finishes l n x → Finishes m n y → (l ≡ m) × (x ≡ y)
    pub started_first : (m n : ℕ) (x : Held F) → Finishes m n x
        → (l : ℕ) × (p : Party) × (k : OperationKind) × Starts l n p k × (l < m)
    pub one_unfinished : (l m i j : ℕ) (p : Party) (a b : OperationKind) → Starts l i p a → Starts m j p b
        → (Finished i → ⊥) → (Finished j → ⊥) → i ≡ j

  -- A write finishes with the stamp and the figure that it wrote.
  abbrev pub AsWritten : Type 0
  AsWritten = (m n : ℕ) (x y : Held F) → Writes n x → Finishes m n y → y ≡ x

-- THE ROW

module _ {F : Type 0} (h : History F) where
  -- The row is of the finished operations, and of an unfinished write that a finished read showed.
  abbrev pub Belongs : ℕ → Type 0
  Belongs n = Finished h n ⊎ ((Finished h n → ⊥) × ((x : Held F) × Writes h n x × ((i : ℕ) × Shows h i x)))

  -- It is played on a slate that has x on it: a write puts its own there, and a read has shown what is there.
  abbrev pub Plays : Held F → List ℕ → Type 0
  Plays x [] = Unit {0}
  Plays x (n ∷ row) = ((y : Held F) × Writes h n y × Plays y row) ⊎ (Shows h n x × Plays x row)

-- Those operations, each once, in an order that keeps that of time and in which each read shows the last write before.
pub record Row {F : Type 0} (start : F) (h : History F) : Type 0 where
  pub row : List ℕ
  pub once : Once row
  pub only : (n : ℕ) → In n row → Belongs h n
  pub every : (n : ℕ) → Belongs h n → In n row
  pub in_time : (i j : ℕ) → In i row → In j row → Precedes h i j → Before i j row
  pub plays : Plays h (unused start) row

-- FINISHING

-- No call of this sort took hold of a message of operation n.
abbrev pub Spared : {F : Type 0} → (ℕ → Call F) → History F → ℕ → Type 0
Spared {F} sort h n =
    (m place : ℕ) (e : Event F) (a : Message F) → At h m e → e.call ≡ sort place → In a e.taken
    → a.operation ≢ n

abbrev pub Undropped : {F : Type 0} → History F → ℕ → Type 0
Undropped = Spared (λ place. Call.Drop place)

abbrev pub Uncopied : {F : Type 0} → History F → ℕ → Type 0
Uncopied = Spared (λ place. Call.Duplicate place)

-- No message of operation n waits for a party at work.
abbrev pub Unawaited : {F : Type 0} → State F → ℕ → Type 0
Unawaited {F} s n = (a : Message F) → In a s.messages → a.operation ≡ n → halted s a.receiver ≡ true

-- The replicas at work.
abbrev pub working : {F : Type 0} → Rule → State F → Members
working rule s c = nat_lt c rule.size && not (halted s (Party.Replica c))

-- An operation has finished if its owner works, enough replicas do, no message of it was dropped, and none of them waits
-- for a party at work.
abbrev pub Finishing : {F : Type 0} → Rule → History F → State F → Type 0
Finishing rule h s =
    (m n : ℕ) (owner : Party) (kind : OperationKind) → Starts h m n owner kind
    → halted s owner ≡ false
    → rule.round (working rule s) ≡ true
    → Undropped h n → Unawaited s n → Finished h n

-- LIMITS

-- How many of the messages are of operation n.
unfoldable pub of_operation : {F : Type 0} → ℕ → List (Message F) → ℕ
of_operation n [] = 0
of_operation n (a ∷ l) = cond (a.operation == n) 1 0 + of_operation n l

-- How many messages the calls sent for operation n.
unfoldable pub sent_for : {F : Type 0} → ℕ → History F → ℕ
sent_for n [] = 0
sent_for n (e ∷ h) = of_operation n e.sent + sent_for n h

-- The most messages of an operation, with so many replicas.
abbrev pub limit : ℕ → OperationKind → ℕ
limit size OperationKind.Write = 2 * size
limit size (OperationKind.Read ReadKind.Quick) = 4 * size
limit size (OperationKind.Read ReadKind.Settled) = 4 * size
limit size (OperationKind.Read ReadKind.Relay) = size * size + 2 * size

pub record Limits {F : Type 0} (rule : Rule) (h : History F) (s : State F) : Type 0 where
  -- an operation's count in the journal is of the messages that were sent for it, up to 65,535
  pub true_counts : (n : ℕ) → 1 ≤ n → n ≤ length s.journal → (line s n).sent ≡ min (sent_for n h) 65535
  -- and within the limit of its kind, if no message of it was copied
  pub bounded : (m n : ℕ) (owner : Party) (kind : OperationKind) → Starts h m n owner kind
      → Uncopied h n → (line s n).sent ≤ limit rule.size kind

-- SOUND TABLES

-- No call was declined for unsound tables, and none for a message with a stamp above the writer's last.
abbrev pub Undisturbed : {F : Type 0} → History F → Type 0
Undisturbed {F} h =
    (m : ℕ) (e : Event F) → At h m e
    → (e.reply ≢ Err Refusal.Unsound) × (e.reply ≢ Err Refusal.StampAhead)

-- ALL OF IT

pub record Served {F : Type 0} (rule : Rule) (start : F) (h : History F) (s : State F) : Type 0 where
  pub numbered : Numbered h s
  pub as_written : AsWritten h
  pub row : Row start h
  pub finishing : Finishing rule h s
  pub limits : Limits rule h s
  pub undisturbed : Undisturbed h

-- Every history of every register over figures of the type F is served, under every lawful rule.
abbrev pub Serves : Type 0 → Type 0
Serves F =
    (rule : Rule) → Lawful rule → (start : F) (h : History F) (s : State F) → Grows rule start h s
    → Served rule start h s
