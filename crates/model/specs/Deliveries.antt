-- What a message does that is delivered to a party at work. In all of these, s is the state without the message. They are right
-- only for a message that waited in sound tables: then its parties exist and are of the kinds that its own kind wants, its line
-- is in the journal and of an operation that it serves, and that line's owner exists (`addressed` and `recorded` in Sound). None
-- of this is tested again.
use Rattle.std.specs.Prelude.{ℕ, zero, suc, pred, ◌+◌, Bool, true, false, cond, not, ◌&&◌, List, [], ◌∷◌, ◌++◌, length, ◌==◌, nat_lt, slice_set}
use Rattle.quorum.specs.Sets.{Rule, bits, joined}
use Rattle.model.specs.declared.parties.Party.{Party}
use Rattle.model.specs.declared.reader.Phase.{Phase}
use Rattle.model.specs.declared.messages.MessageKind.{MessageKind}
use Rattle.model.specs.declared.journal.OperationKind.{OperationKind}
use Rattle.model.specs.declared.journal.ReadKind.{ReadKind}
use Rattle.model.specs.declared.reader.Reader.{Reader}
use Rattle.model.specs.declared.marks.RelayMark.{RelayMark}
use Rattle.model.specs.declared.messages.Message.{Message}
use Rattle.model.specs.declared.answers.Reply.{Reply}
use Rattle.model.specs.State.{State, Held, index, unused, new_message, reader, line, mark, held, halted}
use Rattle.model.specs.State.{with_writer, with_reader, with_mark, with_journal, with_held}
use Rattle.model.specs.Records.{took, acknowledged, writer_freed, best, heard, confirmed, lowered, placing}
use Rattle.model.specs.Records.{reader_freed, marked, mark_replied, one_more, ended}

-- What a step comes to: its answer, the messages that it sends, and the state before these join the others.
pub record Effect (F : Type 0) : Type 0 where
  pub reply : Reply F
  pub sent : List (Message F)
  pub next : State F

abbrev pub quiet : {F : Type 0} → State F → Effect F
quiet s = record { reply = Reply.Done; sent = []; next = s }

abbrev pub sending : {F : Type 0} → State F → List (Message F) → Effect F
sending s l = record { reply = Reply.Done; sent = l; next = s }

-- One message to each of the replicas below a number, in their order.
unfoldable pub to_all : {F : Type 0} → ℕ → MessageKind → ℕ → Party → Held F → List (Message F)
to_all zero kind n from x = []
to_all (suc c) kind n from x = to_all c kind n from x ++ new_message kind n from (Party.Replica c) x ∷ []

-- What a message carries.
abbrev pub carried : {F : Type 0} → Message F → Held F
carried m = record { stamp = m.stamp; figure = m.figure }

-- The answer of m's receiver to the owner of the operation, whose line is there by soundness.
abbrev pub answer : {F : Type 0} → State F → Message F → MessageKind → Held F → Message F
answer s m kind x = new_message kind m.operation m.receiver (line s m.operation).owner x

-- AN OPERATION FINISHES

-- Its event is the number of lines and finished operations after it.
abbrev pub finish_event : {F : Type 0} → State F → ℕ
finish_event s = length s.journal + one_more s.finished

-- Operation n finishes with x after so many exchanges. Its line is there: a message's by soundness, and a reader's own is that
-- of the message that counted.
abbrev pub with_finish : {F : Type 0} → State F → ℕ → Held F → ℕ → State F
with_finish s n x exchanges =
    with_journal s (slice_set s.journal (pred n) (ended (line s n) (finish_event s) x exchanges)) (one_more s.finished)

abbrev pub finishing : {F : Type 0} → State F → ℕ → Held F → ℕ → Effect F
finishing s n x exchanges = record {
  reply = Reply.Finished n x.stamp x.figure (line s n).sent exchanges;
  sent = [];
  next = with_finish s n x exchanges;
}

-- TO A REPLICA. By soundness m's receiver is a replica that exists, so the receiver's index is a replica's number.

-- PUT and BACK: the replica takes what is offered and acknowledges it.
unfoldable pub on_offer : {F : Type 0} → State F → Message F → MessageKind → Effect F
on_offer s m ack =
    sending (with_held s (index m.receiver) (took (held s (index m.receiver)) (carried m)))
    (answer s m ack (unused s.start) ∷ [])

-- QUERY: the replica tells what it holds.
unfoldable pub on_query : {F : Type 0} → State F → Message F → Effect F
on_query s m = sending s (answer s m MessageKind.Have (held s (index m.receiver)) ∷ [])

-- FAN: the replica relays what it holds to every replica, itself too.
unfoldable pub on_fan : {F : Type 0} → Rule → State F → Message F → Effect F
on_fan rule s m =
    sending s (to_all rule.size MessageKind.Relay m.operation m.receiver (held s (index m.receiver)))

-- RELAY: the replica takes what is relayed, and once a round set has relayed to it for a read, it replies, once, with
-- what it holds. In these, replica c holds x, and k is the mark that it keeps for reader r. By soundness the sender is a replica,
-- and the owner of the line of a relay a reader that exists: so r is its number, and the mark is there.

abbrev pub after_relay : {F : Type 0} → Rule → State F → Message F → ℕ → Held F → ℕ → RelayMark → Effect F
after_relay rule s m c x r k =
    cond (rule.round (bits k.relayers) && not k.replied)
    (sending (with_mark s c r (mark_replied k)) (answer s m MessageKind.Reply x ∷ []))
    (quiet (with_mark s c r k))

abbrev pub on_relay_at : {F : Type 0} → Rule → State F → Message F → ℕ → Held F → ℕ → RelayMark → Effect F
on_relay_at rule s m c x r k =
    cond (nat_lt m.operation k.operation) (quiet s)
    (after_relay rule s m c x r (marked k m.operation (index m.sender)))

abbrev pub on_relay_to : {F : Type 0} → Rule → State F → Message F → ℕ → Held F → ℕ → Effect F
on_relay_to rule s m c x r = on_relay_at rule (with_held s c x) m c x r (mark s c r)

unfoldable pub on_relay : {F : Type 0} → Rule → State F → Message F → Effect F
on_relay rule s m =
    on_relay_to rule s m (index m.receiver) (took (held s (index m.receiver)) (carried m))
    (index (line s m.operation).owner)

-- TO THE WRITER. By soundness m's sender is a replica that exists, and its line a write.

-- PUT-ACK: a write finishes with the stamp and the figure of its line.

abbrev pub written : {F : Type 0} → State F → ℕ → Held F
written s n = record { stamp = (line s n).stamp; figure = (line s n).figure }

unfoldable pub on_put_ack : {F : Type 0} → Rule → State F → Message F → Effect F
on_put_ack rule s m =
    cond (not (s.writer.operation == m.operation)) (quiet s)
    (cond (rule.round (bits (joined s.writer.acknowledgers (index m.sender))))
    (finishing (with_writer s (writer_freed (acknowledged s.writer (index m.sender))))
    m.operation (written s m.operation) 2)
    (quiet (with_writer s (acknowledged s.writer (index m.sender)))))

-- TO A READER. By soundness m's receiver is a reader that exists, and its sender a replica that does.

-- A reply counts for the reader's current operation, in the phase that it is meant for, once for each sender.

abbrev pub in_first : Phase → Bool
in_first Phase.Idle = false
in_first Phase.First = true
in_first Phase.Second = false
in_first Phase.Relay = false

abbrev pub in_second : Phase → Bool
in_second Phase.Idle = false
in_second Phase.First = false
in_second Phase.Second = true
in_second Phase.Relay = false

abbrev pub in_relay : Phase → Bool
in_relay Phase.Idle = false
in_relay Phase.First = false
in_relay Phase.Second = false
in_relay Phase.Relay = true

abbrev pub counts : {F : Type 0} → (Phase → Bool) → Reader F → Message F → Bool
counts meant d m =
    (d.operation == m.operation) && meant d.phase && not (bits d.replies (index m.sender))

-- Reader r, now d, finishes its operation with its best.
abbrev pub read_finishing : {F : Type 0} → State F → ℕ → Reader F → ℕ → Effect F
read_finishing s r d exchanges = finishing (with_reader s r (reader_freed d)) d.operation (best d) exchanges

-- HAVE: when the replies are a round set, a quick read whose holders are a hold set finishes, and any other goes on to
-- its second round.

abbrev pub is_quick : OperationKind → Bool
is_quick OperationKind.Write = false
is_quick (OperationKind.Read ReadKind.Quick) = true
is_quick (OperationKind.Read ReadKind.Settled) = false
is_quick (OperationKind.Read ReadKind.Relay) = false

abbrev pub second_round : {F : Type 0} → Rule → State F → ℕ → Reader F → Effect F
second_round rule s r d =
    sending (with_reader s r (placing d))
    (to_all rule.size MessageKind.Back d.operation (Party.Reader r) (best d))

abbrev pub after_have : {F : Type 0} → Rule → State F → ℕ → Reader F → Effect F
after_have rule s r d =
    cond (rule.round (bits d.replies))
    (cond (is_quick (line s d.operation).kind && rule.hold (bits d.holders))
    (read_finishing s r d 2)
    (second_round rule s r d))
    (quiet (with_reader s r d))

abbrev pub on_have_at : {F : Type 0} → Rule → State F → Message F → ℕ → Reader F → Effect F
on_have_at rule s m r d =
    cond (counts in_first d m) (after_have rule s r (heard d (index m.sender) (carried m))) (quiet s)

unfoldable pub on_have : {F : Type 0} → Rule → State F → Message F → Effect F
on_have rule s m = on_have_at rule s m (index m.receiver) (reader s (index m.receiver))

-- BACK-ACK and REPLY: a round set finishes the read.

abbrev pub after_last : {F : Type 0} → Rule → State F → ℕ → Reader F → ℕ → Effect F
after_last rule s r d exchanges =
    cond (rule.round (bits d.replies)) (read_finishing s r d exchanges) (quiet (with_reader s r d))

abbrev pub on_back_ack_at : {F : Type 0} → Rule → State F → Message F → ℕ → Reader F → Effect F
on_back_ack_at rule s m r d =
    cond (counts in_second d m) (after_last rule s r (confirmed d (index m.sender)) 4) (quiet s)

unfoldable pub on_back_ack : {F : Type 0} → Rule → State F → Message F → Effect F
on_back_ack rule s m = on_back_ack_at rule s m (index m.receiver) (reader s (index m.receiver))

abbrev pub on_reply_at : {F : Type 0} → Rule → State F → Message F → ℕ → Reader F → Effect F
on_reply_at rule s m r d =
    cond (counts in_relay d m) (after_last rule s r (lowered d (index m.sender) (carried m)) 3) (quiet s)

unfoldable pub on_reply : {F : Type 0} → Rule → State F → Message F → Effect F
on_reply rule s m = on_reply_at rule s m (index m.receiver) (reader s (index m.receiver))

-- ANY MESSAGE

unfoldable pub on : {F : Type 0} → Rule → MessageKind → State F → Message F → Effect F
on rule MessageKind.Put s m = on_offer s m MessageKind.PutAck
on rule MessageKind.PutAck s m = on_put_ack rule s m
on rule MessageKind.Query s m = on_query s m
on rule MessageKind.Have s m = on_have rule s m
on rule MessageKind.Back s m = on_offer s m MessageKind.BackAck
on rule MessageKind.BackAck s m = on_back_ack rule s m
on rule MessageKind.Fan s m = on_fan rule s m
on rule MessageKind.Relay s m = on_relay rule s m
on rule MessageKind.Reply s m = on_reply rule s m

-- A halted receiver loses the message.
unfoldable pub received : {F : Type 0} → Rule → State F → Message F → Effect F
received rule s m = cond (halted s m.receiver) (quiet s) (on rule m.kind s m)
