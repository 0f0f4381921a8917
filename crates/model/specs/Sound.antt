-- Which tables are sound, that is, may be those of a register in service. A call on any other tables is declined.
use Rattle.std.specs.Prelude.{ℕ, suc, ◌^◌, Bool, true, false, not, ◌&&◌, ◌||◌, List, [], ◌∷◌, length, ◌==◌, nat_le, nat_lt}
use Rattle.std.specs.List.{list_all}
use Rattle.quorum.specs.Sets.{Rule}
use Rattle.model.specs.declared.parties.Party.{Party}
use Rattle.model.specs.declared.reader.Phase.{Phase}
use Rattle.model.specs.declared.messages.MessageKind.{MessageKind}
use Rattle.model.specs.declared.journal.OperationKind.{OperationKind}
use Rattle.model.specs.declared.journal.ReadKind.{ReadKind}
use Rattle.model.specs.declared.reader.Reader.{Reader}
use Rattle.model.specs.declared.marks.RelayMark.{RelayMark}
use Rattle.model.specs.declared.messages.Message.{Message}
use Rattle.model.specs.declared.journal.Operation.{Operation}
use Rattle.model.specs.State.{State, line}

-- Whether each item passes a test that is given the item's place too, counted from n.
unfoldable pub each_from : {A : Type 0} → ℕ → (ℕ → A → Bool) → List A → Bool
each_from n test [] = true
each_from n test (x ∷ xs) = test n x && each_from (suc n) test xs

-- SETS name no replica from the size on.

abbrev pub within : Rule → ℕ → Bool
within rule mask = nat_lt mask (2 ^ rule.size)

abbrev pub reader_within : {F : Type 0} → Rule → Reader F → Bool
reader_within rule d = within rule d.replies && within rule d.holders

abbrev pub mark_within : Rule → RelayMark → Bool
mark_within rule k = within rule k.relayers

unfoldable pub sets_within : {F : Type 0} → Rule → State F → Bool
sets_within rule s = list_all (reader_within rule) s.readers && list_all (mark_within rule) s.marks

-- A MESSAGE'S PARTIES exist and suit its kind, and its operation is in the journal.

abbrev pub a_writer : Party → Bool
a_writer Party.Writer = true
a_writer (Party.Reader r) = false
a_writer (Party.Replica c) = false

abbrev pub a_reader : {F : Type 0} → State F → Party → Bool
a_reader s Party.Writer = false
a_reader s (Party.Reader r) = nat_lt r (length s.readers)
a_reader s (Party.Replica c) = false

abbrev pub a_replica : Rule → Party → Bool
a_replica rule Party.Writer = false
a_replica rule (Party.Reader r) = false
a_replica rule (Party.Replica c) = nat_lt c rule.size

abbrev pub suits : {F : Type 0} → Rule → State F → MessageKind → Party → Party → Bool
suits rule s MessageKind.Put from to = a_writer from && a_replica rule to
suits rule s MessageKind.PutAck from to = a_replica rule from && a_writer to
suits rule s MessageKind.Query from to = a_reader s from && a_replica rule to
suits rule s MessageKind.Have from to = a_replica rule from && a_reader s to
suits rule s MessageKind.Back from to = a_reader s from && a_replica rule to
suits rule s MessageKind.BackAck from to = a_replica rule from && a_reader s to
suits rule s MessageKind.Fan from to = a_reader s from && a_replica rule to
suits rule s MessageKind.Relay from to = a_replica rule from && a_replica rule to
suits rule s MessageKind.Reply from to = a_replica rule from && a_reader s to

abbrev pub in_journal : {F : Type 0} → State F → ℕ → Bool
in_journal s n = nat_le 1 n && nat_le n (length s.journal)

abbrev pub addressed : {F : Type 0} → Rule → State F → Message F → Bool
addressed rule s m = suits rule s m.kind m.sender m.receiver && in_journal s m.operation

unfoldable pub messages_addressed : {F : Type 0} → Rule → State F → Bool
messages_addressed rule s = list_all (addressed rule s) s.messages

-- A MESSAGE'S LINE is of the kind of operation that the message serves, and its owner is one who can have it.

abbrev pub is_write : OperationKind → Bool
is_write OperationKind.Write = true
is_write (OperationKind.Read k) = false

abbrev pub is_read : OperationKind → Bool
is_read OperationKind.Write = false
is_read (OperationKind.Read k) = true

abbrev pub relays : ReadKind → Bool
relays ReadKind.Quick = false
relays ReadKind.Settled = false
relays ReadKind.Relay = true

abbrev pub is_relay_read : OperationKind → Bool
is_relay_read OperationKind.Write = false
is_relay_read (OperationKind.Read k) = relays k

abbrev pub is_round_read : OperationKind → Bool
is_round_read OperationKind.Write = false
is_round_read (OperationKind.Read k) = not (relays k)

abbrev pub serves : MessageKind → OperationKind → Bool
serves MessageKind.Put k = is_write k
serves MessageKind.PutAck k = is_write k
serves MessageKind.Query k = is_round_read k
serves MessageKind.Have k = is_round_read k
serves MessageKind.Back k = is_round_read k
serves MessageKind.BackAck k = is_round_read k
serves MessageKind.Fan k = is_relay_read k
serves MessageKind.Relay k = is_relay_read k
serves MessageKind.Reply k = is_relay_read k

abbrev pub owned : {F : Type 0} → State F → OperationKind → Party → Bool
owned s OperationKind.Write p = a_writer p
owned s (OperationKind.Read k) p = a_reader s p

abbrev pub recorded : {F : Type 0} → State F → MessageKind → Operation F → Bool
recorded s kind o = serves kind o.kind && owned s o.kind o.owner

-- It looks the lines up with no test that they are there: right only beside `messages_addressed`, which says so.
unfoldable pub messages_recorded : {F : Type 0} → State F → Bool
messages_recorded s = list_all (λ m. recorded s m.kind (line s m.operation)) s.messages

-- A READER is idle with operation 0, or has a read of its own under way.

abbrev pub idle : Phase → Bool
idle Phase.Idle = true
idle Phase.First = false
idle Phase.Second = false
idle Phase.Relay = false

abbrev pub is_reader : ℕ → Party → Bool
is_reader r Party.Writer = false
is_reader r (Party.Reader k) = k == r
is_reader r (Party.Replica c) = false

abbrev pub own_read : {F : Type 0} → ℕ → Operation F → Bool
own_read r o = is_read o.kind && is_reader r o.owner

abbrev pub placed : {F : Type 0} → State F → ℕ → Reader F → Bool
placed s r d =
    (idle d.phase && d.operation == 0)
    || (not (idle d.phase) && in_journal s d.operation && own_read r (line s d.operation))

unfoldable pub readers_placed : {F : Type 0} → State F → Bool
readers_placed s = each_from 0 (placed s) s.readers

-- ALL OF IT

unfoldable pub sound : {F : Type 0} → Rule → State F → Bool
sound rule s = sets_within rule s && messages_addressed rule s && messages_recorded s && readers_placed s
