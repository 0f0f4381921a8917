-- What a delivered message does, as a value that is worked out before any record is changed.
use Rattle.std.specs.Prelude.{◌≡◌, ℕ, ◌+◌, ◌*◌, Bool, true, false, cond, if◌then◌else◌, not, ◌&&◌, List, [], length, Some, None, Option, ◌==◌, nat_lt, slice_index_or}
use Rattle.quorum.specs.Sets.{Rule, Family, bits}
use Rattle.model.specs.declared.parties.Party.{Party}
use Rattle.model.specs.declared.reader.Phase.{Phase}
use Rattle.model.specs.declared.messages.MessageKind.{MessageKind}
use Rattle.model.specs.declared.journal.OperationKind.{OperationKind}
use Rattle.model.specs.declared.journal.ReadKind.{ReadKind}
use Rattle.model.specs.declared.writer.Writer.{Writer}
use Rattle.model.specs.declared.replica.Replica.{Replica}
use Rattle.model.specs.declared.reader.Reader.{Reader}
use Rattle.model.specs.declared.marks.RelayMark.{RelayMark}
use Rattle.model.specs.declared.messages.Message.{Message}
use Rattle.model.specs.declared.journal.Operation.{Operation}
use Rattle.model.specs.Stamps.{rank}
use Rattle.model.specs.State.{State, Held, index, unused, new_message, new_mark, replica, reader, line}
use Rattle.model.specs.Records.{acknowledged, writer_freed, best, heard, confirmed, lowered, placing, reader_freed, marked, mark_replied}
use Rattle.model.specs.Deliveries.{carried, in_first, in_second, in_relay, is_quick}
use Rattle.model.specs.Sound.{addressed, recorded}
use Rattle.tables.specs.declared.numbers.Numbers.{Numbers}
use Rattle.tables.specs.View.{tables, view, Kept}
use Rattle.reaction.specs.declared.reaction.Post.{Post}
use Rattle.reaction.specs.declared.reaction.Finish.{Finish}
use Rattle.reaction.specs.declared.reaction.Reaction.{Reaction}
use Rattle.reaction.specs.declared.reaction.Move.{Move}

-- REACTIONS

-- Nothing changes, and nothing is sent.
abbrev pub nothing : {F : Type 0} → Reaction F
nothing = record { replica = None; mark = None; reader = None; writer = None; finish = None; post = Post.Nothing }

abbrev pub posting : {F : Type 0} → Post F → Reaction F
posting p = record nothing { post = p }

abbrev pub at_replica : {F : Type 0} → ℕ → Replica F → Option (ℕ × RelayMark) → Post F → Reaction F
at_replica c x k p =
    record nothing { replica = Some (c, x); mark = k; post = p }

abbrev pub at_reader : {F : Type 0} → ℕ → Reader F → Option (Finish F) → Post F → Reaction F
at_reader r d f p =
    record nothing { reader = Some (r, d); finish = f; post = p }

abbrev pub at_writer : {F : Type 0} → Writer → Option (Finish F) → Reaction F
at_writer w f =
    record nothing { writer = Some w; finish = f }

abbrev pub post_all : {F : Type 0} → MessageKind → ℕ → Party → Held F → Post F
post_all kind n from x = Post.All kind n from x.stamp x.figure

abbrev pub finish_with : {F : Type 0} → ℕ → Held F → ℕ → Finish F
finish_with n x exchanges =
    record { operation = n; stamp = x.stamp; figure = x.figure; exchanges = exchanges }

-- TO A REPLICA

abbrev pub holding : {F : Type 0} → Replica F → Held F
holding x = record { stamp = x.stamp; figure = x.figure }

-- A replica after it was offered what m carries.
abbrev pub offered : {F : Type 0} → Replica F → Message F → Replica F
offered x m =
    cond (nat_lt (rank x.stamp) (rank m.stamp)) (record x { stamp = m.stamp; figure = m.figure }) x

-- What m's receiver answers to the owner of the operation.
abbrev pub answer_to : {F : Type 0} → Party → Message F → MessageKind → Held F → Post F
answer_to owner m kind x = Post.One (new_message kind m.operation m.receiver owner x)

-- Whether m ends at the mark k, since that serves a later operation.
abbrev pub outdated : RelayMark → ℕ → Bool
outdated k n = nat_lt n k.operation

-- Replica c, now x, has the mark k at this place.
abbrev pub after_mark : {F : Type 0} → Family → ℕ → Replica F → Party → Message F → ℕ → RelayMark → Reaction F
after_mark round c x owner m place k =
    cond (round (bits k.relayers) && not k.replied)
    (at_replica c x (Some (place, mark_replied k)) (answer_to owner m MessageKind.Reply (holding x)))
    (at_replica c x (Some (place, k)) Post.Nothing)

abbrev pub to_mark : {F : Type 0} → Family → ℕ → Replica F → Party → Message F → ℕ → RelayMark → Reaction F
to_mark round c x owner m place k =
    cond (outdated k m.operation) (at_replica c x None Post.Nothing)
    (after_mark round c x owner m place (marked k m.operation (index m.sender)))

-- Replica c is x; the operation's owner is this, and each replica has so many marks.
abbrev pub replica_reaction : {F : Type 0} → Family → F → ℕ → Replica F → Party → ℕ → List RelayMark → Message F
    → MessageKind → Reaction F
replica_reaction round start c x owner width marks m MessageKind.Put =
    at_replica c (offered x m) None (answer_to owner m MessageKind.PutAck (unused start))
replica_reaction round start c x owner width marks m MessageKind.PutAck = nothing
replica_reaction round start c x owner width marks m MessageKind.Query =
    posting (answer_to owner m MessageKind.Have (holding x))
replica_reaction round start c x owner width marks m MessageKind.Have = nothing
replica_reaction round start c x owner width marks m MessageKind.Back =
    at_replica c (offered x m) None (answer_to owner m MessageKind.BackAck (unused start))
replica_reaction round start c x owner width marks m MessageKind.BackAck = nothing
replica_reaction round start c x owner width marks m MessageKind.Fan =
    posting (post_all MessageKind.Relay m.operation m.receiver (holding x))
replica_reaction round start c x owner width marks m MessageKind.Relay =
    to_mark round c (offered x m) owner m (c * width + index owner) (slice_index_or marks (c * width + index owner) new_mark)
replica_reaction round start c x owner width marks m MessageKind.Reply = nothing

abbrev pub to_replica : {F : Type 0} → Family → F → ℕ → Replica F → Party → ℕ → List RelayMark → Message F → Reaction F
to_replica round start c x owner width marks m =
    cond x.halted nothing (replica_reaction round start c x owner width marks m m.kind)

-- TO A READER

-- The phase that a message is meant for.
abbrev pub meant : MessageKind → Phase → Bool
meant MessageKind.Put p = false
meant MessageKind.PutAck p = false
meant MessageKind.Query p = false
meant MessageKind.Have p = in_first p
meant MessageKind.Back p = false
meant MessageKind.BackAck p = in_second p
meant MessageKind.Fan p = false
meant MessageKind.Relay p = false
meant MessageKind.Reply p = in_relay p

-- Whether m of replica c counts.
abbrev pub counts : {F : Type 0} → Reader F → Message F → ℕ → Bool
counts d m c = d.operation == m.operation && meant m.kind d.phase && not (bits d.replies c)

-- A reader in this phase after m of replica c, which counts.
abbrev pub hears : {F : Type 0} → Reader F → Message F → ℕ → Phase → Reader F
hears d m c Phase.Idle = d
hears d m c Phase.First = heard d c (carried m)
hears d m c Phase.Second = confirmed d c
hears d m c Phase.Relay = lowered d c (carried m)

abbrev pub after_message : {F : Type 0} → Reader F → Message F → ℕ → Reader F
after_message d m c = hears d m c d.phase

-- What a reader does in this phase after a message that counted.
abbrev pub move_in : {F : Type 0} → Family → Family → ReadKind → Reader F → Phase → Move
move_in round hold kind d Phase.Idle = Move.Wait
move_in round hold kind d Phase.First =
    if round (bits d.replies)
    then if is_quick (OperationKind.Read kind) && hold (bits d.holders) then Move.Finish 2 else Move.PlaceBest
    else Move.Wait
move_in round hold kind d Phase.Second = cond (round (bits d.replies)) (Move.Finish 4) Move.Wait
move_in round hold kind d Phase.Relay = cond (round (bits d.replies)) (Move.Finish 3) Move.Wait

abbrev pub next_move : {F : Type 0} → Family → Family → ReadKind → Reader F → Move
next_move round hold kind d = move_in round hold kind d d.phase

-- Reader r, now d, does it.
abbrev pub moved : {F : Type 0} → ℕ → Reader F → Move → Reaction F
moved r d Move.Wait = at_reader r d None Post.Nothing
moved r d Move.PlaceBest =
    at_reader r (placing d) None (post_all MessageKind.Back d.operation (Party.Reader r) (best d))
moved r d (Move.Finish exchanges) =
    at_reader r (reader_freed d) (Some (finish_with d.operation (best d) exchanges)) Post.Nothing

-- Reader r has become d in an operation of this kind.
abbrev pub after_heard : {F : Type 0} → Family → Family → ℕ → Reader F → OperationKind → Reaction F
after_heard round hold r d OperationKind.Write = nothing
after_heard round hold r d (OperationKind.Read kind) = moved r d (next_move round hold kind d)

abbrev pub reader_reaction : {F : Type 0} → Family → Family → ℕ → Reader F → OperationKind → Message F → ℕ → Reaction F
reader_reaction round hold r d kind m c =
    cond (counts d m c) (after_heard round hold r (after_message d m c) kind) nothing

abbrev pub to_reader : {F : Type 0} → Family → Family → ℕ → Reader F → OperationKind → Message F → Reaction F
to_reader round hold r d kind m =
    cond d.halted nothing (reader_reaction round hold r d kind m (index m.sender))

-- TO THE WRITER

-- The writer has become w in an operation with line o. A round set of acknowledgers finishes it, with what its line holds.
abbrev pub after_acknowledged : {F : Type 0} → Family → Writer → Operation F → ℕ → Reaction F
after_acknowledged round w o n =
    cond (round (bits w.acknowledgers))
    (at_writer (writer_freed w) (Some (finish_with n (record { stamp = o.stamp; figure = o.figure }) 2)))
    (at_writer w None)

abbrev pub is_put_ack : MessageKind → Bool
is_put_ack MessageKind.Put = false
is_put_ack MessageKind.PutAck = true
is_put_ack MessageKind.Query = false
is_put_ack MessageKind.Have = false
is_put_ack MessageKind.Back = false
is_put_ack MessageKind.BackAck = false
is_put_ack MessageKind.Fan = false
is_put_ack MessageKind.Relay = false
is_put_ack MessageKind.Reply = false

-- Whether m counts for the writer.
abbrev pub acknowledges : {F : Type 0} → Writer → Message F → Bool
acknowledges w m = is_put_ack m.kind && w.operation == m.operation

abbrev pub writer_reaction : {F : Type 0} → Family → Writer → Operation F → Message F → ℕ → Reaction F
writer_reaction round w o m c =
    if acknowledges w m then after_acknowledged round (acknowledged w c) o m.operation else nothing

abbrev pub to_writer : {F : Type 0} → Family → Writer → Operation F → Message F → Reaction F
to_writer round w o m = if w.halted then nothing else writer_reaction round w o m (index m.sender)

-- TO ANY PARTY

abbrev pub reaction_of : {F : Type 0} → Rule → State F → Message F → Party → Reaction F
reaction_of rule s m Party.Writer = to_writer rule.round s.writer (line s m.operation) m
reaction_of rule s m (Party.Reader r) =
    to_reader rule.round rule.hold r (reader s r) (line s m.operation).kind m
reaction_of rule s m (Party.Replica c) =
    to_replica rule.round s.start c (replica s c) (line s m.operation).owner (length s.readers)
    s.marks m

-- s is the state without the message.
unfoldable pub reaction : {F : Type 0} → Rule → State F → Message F → Reaction F
reaction rule s m = reaction_of rule s m m.receiver

-- WHAT A CALL WORKS IT OUT FROM

-- The state but for the messages, on which no reaction depends.
abbrev pub beside_messages : {F : Type 0} → F → Numbers → List (Replica F) → List (Reader F) → List RelayMark
    → List (Operation F) → State F
beside_messages start n replicas readers marks journal = view start n (tables replicas readers marks [] journal)

-- The tables fit, and m is such a message as sound tables have.
pub record Deliverable {F : Type 0} (rule : Rule) (n : Numbers) (s : State F) (m : Message F) : Type 0 where
  pub kept : Kept n
  pub replicas : length s.replicas ≡ n.replicas
  pub readers : length s.readers ≡ n.readers
  pub marks : length s.marks ≡ n.replicas * n.readers
  pub addressed : addressed rule s m ≡ true
  pub recorded : recorded s m.kind (line s m.operation) ≡ true
