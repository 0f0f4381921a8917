-- What a deliverable message tells: its parties and its mark have their places, and its operation a line.
use Rattle.std.proofs.Common.{◌≡◌, ℕ, ◌+◌, ◌*◌, ◌<◌, ◌≤◌, true, ◌&&◌, leb, List, length, take, sym, ap, ◌∙◌, subst, arith, length-take}
use lib.Arith.{digits_lt}
use Rattle.std.proofs.lemmas.Nat.{mul-le}
use Rattle.std.proofs.lemmas.Bool.{false≢true, and_parts, ltb-true, leb-true}
use Rattle.quorum.specs.Sets.{Rule}
use Rattle.model.specs.declared.parties.Party.{Party}
use Rattle.model.specs.declared.messages.MessageKind.{MessageKind}
use Rattle.model.specs.declared.journal.OperationKind.{OperationKind}
use Rattle.model.specs.declared.replica.Replica.{Replica}
use Rattle.model.specs.declared.reader.Reader.{Reader}
use Rattle.model.specs.declared.messages.Message.{Message}
use Rattle.model.specs.declared.journal.Operation.{Operation}
use Rattle.model.specs.State.{State, index, replica, reader, line}
use Rattle.model.specs.Sound.{a_writer, a_reader, a_replica, suits, in_journal, serves, owned}
use Rattle.tables.specs.declared.numbers.Numbers.{Numbers}
use Rattle.reaction.specs.declared.reaction.Reaction.{Reaction}
use Rattle.reaction.specs.Reactions.{to_replica, to_reader, to_writer, reaction_of, reaction, Deliverable}

module _ {F : Type 0} (rule : Rule) (s : State F) where
  -- How many there are of the party's kind.
  abbrev bound : Party → ℕ
  bound Party.Writer = 1
  bound (Party.Reader r) = length s.readers
  bound (Party.Replica c) = rule.size

  abbrev Present : Party → Type 0
  Present p = index p < bound p

  writer_present : (p : Party) → a_writer p ≡ true → Present p
  writer_present Party.Writer e = omega arith
  writer_present (Party.Reader r) e = absurd (false≢true e)
  writer_present (Party.Replica c) e = absurd (false≢true e)

  reader_present : (p : Party) → a_reader s p ≡ true → Present p
  reader_present Party.Writer e = absurd (false≢true e)
  reader_present (Party.Reader r) e = ltb-true r (length s.readers) e
  reader_present (Party.Replica c) e = absurd (false≢true e)

  replica_present : (p : Party) → a_replica rule p ≡ true → Present p
  replica_present Party.Writer e = absurd (false≢true e)
  replica_present (Party.Reader r) e = absurd (false≢true e)
  replica_present (Party.Replica c) e = ltb-true c rule.size e

  to_a_replica : (from to : Party) → (a_reader s from && a_replica rule to) ≡ true → Present from × Present to
  to_a_replica from to e =
      let p = and_parts (a_reader s from) (a_replica rule to) e in
      (reader_present from p.0, replica_present to p.1)

  to_a_reader : (from to : Party) → (a_replica rule from && a_reader s to) ≡ true → Present from × Present to
  to_a_reader from to e =
      let p = and_parts (a_replica rule from) (a_reader s to) e in
      (replica_present from p.0, reader_present to p.1)

  present : (kind : MessageKind) (from to : Party) → suits rule s kind from to ≡ true → Present from × Present to
  present MessageKind.Put from to e =
      let p = and_parts (a_writer from) (a_replica rule to) e in
      (writer_present from p.0, replica_present to p.1)
  present MessageKind.PutAck from to e =
      let p = and_parts (a_replica rule from) (a_writer to) e in
      (replica_present from p.0, writer_present to p.1)
  present MessageKind.Query from to e = to_a_replica from to e
  present MessageKind.Have from to e = to_a_reader from to e
  present MessageKind.Back from to e = to_a_replica from to e
  present MessageKind.BackAck from to e = to_a_reader from to e
  present MessageKind.Fan from to e = to_a_replica from to e
  present MessageKind.Relay from to e =
      let p = and_parts (a_replica rule from) (a_replica rule to) e in
      (replica_present from p.0, replica_present to p.1)
  present MessageKind.Reply from to e = to_a_reader from to e

module _ {F : Type 0} {rule : Rule} {n : Numbers} {s : State F} {m : Message F} (d : Deliverable rule n s m)
    (size : rule.size ≡ n.replicas) where
  parties : Present rule s m.sender × Present rule s m.receiver
  parties =
      present rule s m.kind m.sender m.receiver
      (and_parts (suits rule s m.kind m.sender m.receiver) (in_journal s m.operation) d.addressed).0

  bound_small : (p : Party) → bound rule s p ≤ 32
  bound_small Party.Writer = omega arith
  bound_small (Party.Reader r) = omega (arith, d.readers, d.kept.few_readers)
  bound_small (Party.Replica c) = omega (arith, size, d.kept.few_replicas)

  pub sender_small : index m.sender < 32
  sender_small = omega (arith, parties.0, bound_small m.sender)

  pub replica_there : (c : ℕ) → m.receiver ≡ Party.Replica c → c < length s.replicas
  replica_there c e =
      let h : c < rule.size = subst (Present rule s) e parties.1 in omega (arith, size, d.replicas)

  pub reader_there : (r : ℕ) → m.receiver ≡ Party.Reader r → r < length s.readers
  reader_there r e = subst (Present rule s) e parties.1

  pub line_there : (1 ≤ m.operation) × (m.operation ≤ length s.journal)
  line_there =
      let j = (and_parts (suits rule s m.kind m.sender m.receiver) (in_journal s m.operation) d.addressed).1 in
      let p = and_parts (leb 1 m.operation) (leb m.operation (length s.journal)) j in
      (leb-true 1 m.operation p.0, leb-true m.operation (length s.journal) p.1)

  owner_below : (k : OperationKind) (p : Party) → owned s k p ≡ true → index p < n.readers
  owner_below OperationKind.Write Party.Writer e = omega (arith, d.kept.some_reader)
  owner_below OperationKind.Write (Party.Reader r) e = absurd (false≢true e)
  owner_below OperationKind.Write (Party.Replica c) e = absurd (false≢true e)
  owner_below (OperationKind.Read k) Party.Writer e = absurd (false≢true e)
  owner_below (OperationKind.Read k) (Party.Reader r) e =
      let h = ltb-true r (length s.readers) e in omega (arith, h, d.readers)
  owner_below (OperationKind.Read k) (Party.Replica c) e = absurd (false≢true e)

  pub mark_there : (c : ℕ) → m.receiver ≡ Party.Replica c
      → c * n.readers + index (line s m.operation).owner < length s.marks
  mark_there c e =
      let o = owner_below (line s m.operation).kind (line s m.operation).owner
      (and_parts (serves m.kind (line s m.operation).kind) _ d.recorded).1 in
      let k : c < n.replicas = omega (arith, replica_there c e, d.replicas) in
      let h = digits_lt k o in omega (arith, h, d.marks)

  pub few_marks : length s.marks ≤ 768
  few_marks =
      let h = mul-le n.replicas n.readers 24 32 d.kept.few_replicas d.kept.few_readers in
      omega (arith, h, d.marks)

pub within_front : {A : Type 0} (k n : ℕ) (l : List A) → k ≤ length (take n l) → (k ≤ n) × (k ≤ length l)
within_front k n l h = let e = length-take n l in (omega (arith, e), omega (arith, e))

-- The reaction is that of the party that receives the message.
module _ {F : Type 0} (rule : Rule) (s : State F) (m : Message F) (r : Reaction F) (o : Operation F)
    (its : o ≡ line s m.operation) where
  pub for_writer : m.receiver ≡ Party.Writer → r ≡ to_writer rule.round s.writer o m → r ≡ reaction rule s m
  unfolding reaction
  for_writer e h =
      h ∙ ap (λ l. to_writer rule.round s.writer l m) its ∙ ap (λ p. reaction_of rule s m p) (sym e)

  pub for_reader : (k : ℕ) → m.receiver ≡ Party.Reader k → (x : Reader F) → x ≡ reader s k
      → r ≡ to_reader rule.round rule.hold k x o.kind m → r ≡ reaction rule s m
  unfolding reaction
  for_reader k e x there h =
      h ∙ ap (λ y. to_reader rule.round rule.hold k y o.kind m) there
      ∙ ap (λ l. to_reader rule.round rule.hold k (reader s k) l.kind m) its
      ∙ ap (λ p. reaction_of rule s m p) (sym e)

  pub for_replica : (c : ℕ) → m.receiver ≡ Party.Replica c → (x : Replica F) → x ≡ replica s c → (width : ℕ)
      → width ≡ length s.readers
      → r ≡ to_replica rule.round s.start c x o.owner width s.marks m → r ≡ reaction rule s m
  unfolding reaction
  for_replica c e x there width wide h =
      h ∙ ap (λ y. to_replica rule.round s.start c y o.owner width s.marks m) there
      ∙ ap (λ l. to_replica rule.round s.start c (replica s c) l.owner width s.marks m) its
      ∙ ap (λ i. to_replica rule.round s.start c (replica s c) (line s m.operation).owner i s.marks m) wide
      ∙ ap (λ p. reaction_of rule s m p) (sym e)
