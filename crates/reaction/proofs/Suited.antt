-- The reaction to a deliverable message is applicable: it is about the message's operation.
use Rattle.std.proofs.Common.{◌≡◌, ℕ, ◌+◌, ◌*◌, not, ◌&&◌, ◌||◌, eqb, ltb, length, get_or, sym, refl, ◌∙◌, subst}
use Rattle.std.proofs.lemmas.Bool.{and_parts, eqb-true, cond_both}
use Rattle.quorum.specs.Sets.{Rule, Family, bits}
use Rattle.model.specs.declared.parties.Party.{Party}
use Rattle.model.specs.declared.reader.Phase.{Phase}
use Rattle.model.specs.declared.reader.Reader.{Reader}
use Rattle.model.specs.declared.messages.MessageKind.{MessageKind}
use Rattle.model.specs.declared.journal.OperationKind.{OperationKind}
use Rattle.model.specs.declared.marks.RelayMark.{RelayMark}
use Rattle.model.specs.declared.replica.Replica.{Replica}
use Rattle.model.specs.declared.journal.Operation.{Operation}
use Rattle.model.specs.declared.messages.Message.{Message}
use Rattle.model.specs.State.{State, index, new_mark, reader, replica, line}
use Rattle.model.specs.Stamps.{rank}
use Rattle.model.specs.Records.{acknowledged, heard, lowered, marked}
use Rattle.tables.specs.declared.numbers.Numbers.{Numbers}
use Rattle.reaction.specs.declared.reaction.Reaction.{Reaction}
use Rattle.reaction.specs.declared.reaction.Move.{Move}
use Rattle.reaction.specs.Reactions.{nothing, counts, hears, after_message, next_move, moved, after_heard, to_reader, acknowledges, to_writer}
use Rattle.reaction.specs.Reactions.{outdated, offered, after_mark, to_mark, replica_reaction, reaction_of, reaction}
use Rattle.reaction.specs.Applied.{HasLine, Applicable}

module _ {F : Type 0} (n : Numbers) (m : Message F) (there : HasLine n.lines m.operation) where
  abbrev Apt : Reaction F → Type 0
  Apt = Applicable n

  still : Apt nothing
  still = record { finish = tt; post = tt; writer = tt }

  -- THE WRITER

  writer_apt : (round : Family) (o : Operation F) → Apt (to_writer round n.writer o m)
  writer_apt round o =
      cond_both n.writer.halted _ _ Apt (λ _. still)
      (λ _. cond_both (acknowledges n.writer m) _ _ Apt
      (λ _. cond_both (round (bits (acknowledged n.writer (index m.sender)).acknowledgers)) _ _ Apt
      (λ _. record { finish = there; post = tt; writer = refl })
      (λ _. record { finish = tt; post = tt; writer = refl }))
      (λ _. still))

  -- READERS

  abbrev Same : Reader F → Reader F → Type 0
  Same d x = x.operation ≡ d.operation

  same_operation : (d : Reader F) (c : ℕ) (p : Phase) → Same d (hears d m c p)
  unfolding heard lowered
  same_operation d c Phase.Idle = refl
  same_operation d c Phase.First =
      cond_both (ltb (rank d.best_stamp) (rank m.stamp)) _ _ (Same d) (λ _. refl)
      (λ _. cond_both (eqb (rank d.best_stamp) (rank m.stamp)) _ _ (Same d) (λ _. refl) (λ _. refl))
  same_operation d c Phase.Second = refl
  same_operation d c Phase.Relay = cond_both (eqb d.replies 0 || ltb (rank m.stamp) (rank d.best_stamp)) _ _ (Same d) (λ _. refl) (λ _. refl)

  moved_apt : (r : ℕ) (d : Reader F) → HasLine n.lines d.operation → (v : Move) → Apt (moved r d v)
  moved_apt r d has Move.Wait = record { finish = tt; post = tt; writer = tt }
  moved_apt r d has Move.PlaceBest = record { finish = tt; post = has; writer = tt }
  moved_apt r d has (Move.Finish exchanges) = record { finish = has; post = tt; writer = tt }

  heard_apt : (round hold : Family) (r : ℕ) (d : Reader F) → HasLine n.lines d.operation → (kind : OperationKind)
      → Apt (after_heard round hold r d kind)
  heard_apt round hold r d has OperationKind.Write = still
  heard_apt round hold r d has (OperationKind.Read kind) = moved_apt r d has (next_move round hold kind d)

  reader_apt : (round hold : Family) (r : ℕ) (d : Reader F) (kind : OperationKind) → Apt (to_reader round hold r d kind m)
  reader_apt round hold r d kind =
      let c = index m.sender in
      cond_both d.halted _ _ Apt (λ _. still)
      (λ _. cond_both (counts d m c) _ _ Apt
      (λ e.
      let its = eqb-true d.operation m.operation (and_parts _ _ (and_parts _ _ e).0).0 in
      heard_apt round hold r (after_message d m c)
      (subst (HasLine n.lines) (sym (same_operation d c d.phase ∙ its)) there) kind)
      (λ _. still))

  -- REPLICAS

  reply_apt : (round : Family) (c : ℕ) (x : Replica F) (owner : Party) (place : ℕ) (k : RelayMark)
      → Apt (after_mark round c x owner m place k)
  reply_apt round c x owner place k =
      cond_both (round (bits k.relayers) && not k.replied) _ _ Apt
      (λ _. record { finish = tt; post = there; writer = tt }) (λ _. record { finish = tt; post = tt; writer = tt })

  mark_apt : (round : Family) (c : ℕ) (x : Replica F) (owner : Party) (place : ℕ) (k : RelayMark)
      → Apt (to_mark round c x owner m place k)
  mark_apt round c x owner place k =
      cond_both (outdated k m.operation) _ _ Apt (λ _. record { finish = tt; post = tt; writer = tt })
      (λ _. reply_apt round c x owner place (marked k m.operation (index m.sender)))

  replica_apt : (round : Family) (start : F) (c : ℕ) (x : Replica F) (owner : Party) (width : ℕ) (marks : _)
      (kind : MessageKind) → Apt (replica_reaction round start c x owner width marks m kind)
  replica_apt round start c x owner width marks MessageKind.Put = record { finish = tt; post = there; writer = tt }
  replica_apt round start c x owner width marks MessageKind.PutAck = still
  replica_apt round start c x owner width marks MessageKind.Query = record { finish = tt; post = there; writer = tt }
  replica_apt round start c x owner width marks MessageKind.Have = still
  replica_apt round start c x owner width marks MessageKind.Back = record { finish = tt; post = there; writer = tt }
  replica_apt round start c x owner width marks MessageKind.BackAck = still
  replica_apt round start c x owner width marks MessageKind.Fan = record { finish = tt; post = there; writer = tt }
  replica_apt round start c x owner width marks MessageKind.Relay =
      mark_apt round c (offered x m) owner (c * width + index owner) (get_or marks (c * width + index owner) new_mark)
  replica_apt round start c x owner width marks MessageKind.Reply = still

  -- ANY PARTY

  reaction_apt : (rule : Rule) (s : State F) → s.writer ≡ n.writer → (to : Party) → Apt (reaction_of rule s m to)
  reaction_apt rule s w Party.Writer =
      subst (λ v. Apt (to_writer rule.round v (line s m.operation) m)) (sym w)
      (writer_apt rule.round (line s m.operation))
  reaction_apt rule s w (Party.Reader r) =
      reader_apt rule.round rule.hold r (reader s r) (line s m.operation).kind
  reaction_apt rule s w (Party.Replica c) =
      cond_both (replica s c).halted _ _ Apt (λ _. still)
      (λ _. replica_apt rule.round s.start c (replica s c) (line s m.operation).owner (length s.readers)
      s.marks m.kind)

  pub applicable : (rule : Rule) (s : State F) → s.writer ≡ n.writer → Applicable n (reaction rule s m)
  unfolding reaction
  applicable rule s w = reaction_apt rule s w m.receiver
