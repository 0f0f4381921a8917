-- The model's step on a delivered message is what its reaction comes to.
use Rattle.std.proofs.Common.{◌≡◌, ℕ, Bool, true, false, cond, not, ◌&&◌, ◌||◌, eqb, ltb, List, [], ◌∷◌, length, Some, None, Option, sym, refl, ap, ◌∙◌}
use Rattle.std.proofs.lemmas.Bool.{false≢true, and_parts, eqb-true, cond_both}
use Rattle.quorum.specs.Sets.{Rule, bits, joined}
use Rattle.model.specs.declared.parties.Party.{Party}
use Rattle.model.specs.declared.reader.Phase.{Phase}
use Rattle.model.specs.declared.messages.MessageKind.{MessageKind}
use Rattle.model.specs.declared.journal.OperationKind.{OperationKind}
use Rattle.model.specs.declared.journal.ReadKind.{ReadKind}
use Rattle.model.specs.declared.writer.Writer.{Writer}
use Rattle.model.specs.declared.replica.Replica.{Replica}
use Rattle.model.specs.declared.marks.RelayMark.{RelayMark}
use Rattle.model.specs.declared.reader.Reader.{Reader}
use Rattle.model.specs.declared.messages.Message.{Message}
use Rattle.model.specs.Stamps.{Stamp, rank}
use Rattle.model.specs.State.{State, Held, index, unused, new_mark, reader, replica, line, mark, mark_place}
use Rattle.model.specs.State.{with_writer, with_held, with_mark, with_reader, with_messages}
use Rattle.model.specs.Records.{took, acknowledged, writer_freed, best, replied_by, heard, confirmed, lowered}
use Rattle.model.specs.Records.{marked, mark_replied}
use Rattle.model.specs.Deliveries.{Effect, quiet, sending, carried, answer, on_offer, on_query, on_fan, on_put_ack}
use Rattle.model.specs.Deliveries.{on_relay, after_relay, finishing, written, on_have, on_have_at, on_back_ack_at, on_reply_at, is_quick, second_round, read_finishing}
use Rattle.model.specs.Deliveries.{in_first, in_second, in_relay, after_have, after_last, on_back_ack, on_reply, on, received}
use Rattle.model.specs.Sound.{suits, serves, addressed, recorded, in_journal, owned}
use Rattle.reaction.specs.declared.reaction.Post.{Post}
use Rattle.reaction.specs.declared.reaction.Reaction.{Reaction}
use Rattle.reaction.specs.declared.reaction.Move.{Move}
use Rattle.reaction.specs.Reactions.{nothing, at_replica, at_writer, finish_with, move_in, next_move}
use Rattle.reaction.specs.Reactions.{holding, offered, answer_to, after_mark, to_mark, replica_reaction}
use Rattle.reaction.specs.Reactions.{hears, moved, after_heard, counts, reader_reaction}
use Rattle.reaction.specs.Reactions.{writer_reaction, reaction}
use Rattle.reaction.specs.Applied.{applied}

-- Two choices by one test agree where both ways do.
splits : {A B : Type 0} (g : A → B) (b : Bool) (x z : B) (y w : A) → (b ≡ true → x ≡ g y) → (b ≡ false → z ≡ g w)
    → cond b x z ≡ g (cond b y w)
splits g true x z y w p q = p refl
splits g false x z y w p q = q refl

splits_not : {A B : Type 0} (g : A → B) (b : Bool) (x z : B) (y w : A) → z ≡ g y → x ≡ g w
    → cond (not b) x z ≡ g (cond b y w)
splits_not g true x z y w p q = p
splits_not g false x z y w p q = q

never : {A : Type 0} (b : Bool) → (b && false) ≡ true → A
never b e = absurd (false≢true (and_parts b false e).1)

first_tells : (p : Phase) → in_first p ≡ true → p ≡ Phase.First
first_tells Phase.Idle e = absurd (false≢true e)
first_tells Phase.First e = refl
first_tells Phase.Second e = absurd (false≢true e)
first_tells Phase.Relay e = absurd (false≢true e)

second_tells : (p : Phase) → in_second p ≡ true → p ≡ Phase.Second
second_tells Phase.Idle e = absurd (false≢true e)
second_tells Phase.First e = absurd (false≢true e)
second_tells Phase.Second e = refl
second_tells Phase.Relay e = absurd (false≢true e)

relay_tells : (p : Phase) → in_relay p ≡ true → p ≡ Phase.Relay
relay_tells Phase.Idle e = absurd (false≢true e)
relay_tells Phase.First e = absurd (false≢true e)
relay_tells Phase.Second e = absurd (false≢true e)
relay_tells Phase.Relay e = refl

-- A reader after a reply is in the same phase of the same operation.
record Same {F : Type 0} (d e : Reader F) : Type 0 where
  pub phase : e.phase ≡ d.phase
  pub operation : e.operation ≡ d.operation

replied_same : {F : Type 0} (d : Reader F) (c : ℕ) (x : Held F) (holders : ℕ) → Same d (replied_by d c x holders)
replied_same d c x holders = record { phase = refl; operation = refl }

heard_same : {F : Type 0} (d : Reader F) (c : ℕ) (x : Held F) → Same d (heard d c x)
unfolding heard
heard_same d c x =
    cond_both (ltb (rank d.best_stamp) (rank x.stamp)) _ _ (Same d) (λ _. replied_same d c x (joined 0 c))
    (λ _. cond_both (eqb (rank d.best_stamp) (rank x.stamp)) _ _ (Same d)
    (λ _. replied_same d c (best d) (joined d.holders c)) (λ _. replied_same d c (best d) d.holders))

lowered_same : {F : Type 0} (d : Reader F) (c : ℕ) (x : Held F) → Same d (lowered d c x)
unfolding lowered
lowered_same d c x =
    cond_both (eqb d.replies 0 || ltb (rank x.stamp) (rank d.best_stamp)) _ _ (Same d) (λ _. replied_same d c x d.holders)
    (λ _. replied_same d c (best d) d.holders)

-- A replica that was offered something

module _ {F : Type 0} where
  -- The replica that holds what it takes.
  abbrev took_by : Replica F → Message F → Replica F
  took_by x m = record {
    stamp = (took (holding x) (carried m)).stamp;
    figure = (took (holding x) (carried m)).figure;
    halted = x.halted;
  }

  took_offered : (x : Replica F) (m : Message F) → took_by x m ≡ offered x m
  took_offered x m = go (ltb (rank x.stamp) (rank m.stamp))
    where
      go : (b : Bool) → record {
        stamp = (cond b (carried m) (holding x)).stamp;
        figure = (cond b (carried m) (holding x)).figure;
        halted = x.halted;
      } ≡ cond b (record { stamp = m.stamp; figure = m.figure; halted = x.halted }) x
      go true = refl
      go false = refl

module _ {F : Type 0} (rule : Rule) (s : State F) where
  abbrev come : Reaction F → Effect F
  come r = applied s rule.size r

  idle : quiet s ≡ come nothing
  unfolding applied
  idle = refl

  -- A message of which all is known but its kind and its parties.
  module _ (n : ℕ) (from : Party) (t : Stamp) (f : F) where
    abbrev sent : MessageKind → Party → Message F
    sent kind to =
        record { kind = kind; operation = n; sender = from; receiver = to; stamp = t; figure = f }

    -- TO A REPLICA

    module _ (c : ℕ) where
      abbrev reacting : MessageKind → Reaction F
      reacting kind =
          replica_reaction rule.round s.start c (replica s c) (line s n).owner (length s.readers) s.marks
          (sent kind (Party.Replica c)) kind

      abbrev taken : Replica F
      taken = took_by (replica s c) (sent MessageKind.Relay (Party.Replica c))

      -- The replica has taken what was relayed, and its mark is k: it replies, or only keeps the mark, or keeps none.
      module _ (k : RelayMark) where
        abbrev relayed : Option (ℕ × RelayMark) → Post F → Reaction F
        relayed = at_replica c taken

        abbrev owner : Party
        owner = (line s n).owner

        answers : sending (with_mark (with_held s c (holding taken)) c (index owner) (mark_replied k))
            (answer s (sent MessageKind.Relay (Party.Replica c)) MessageKind.Reply (holding taken) ∷ [])
            ≡ come (relayed (Some (mark_place s c (index owner), mark_replied k))
            (answer_to owner (sent MessageKind.Relay (Party.Replica c)) MessageKind.Reply (holding taken)))
        unfolding applied
        answers = refl

        waits : quiet (with_mark (with_held s c (holding taken)) c (index owner) k)
            ≡ come (relayed (Some (mark_place s c (index owner), k)) Post.Nothing)
        unfolding applied
        waits = refl

        ends : quiet (with_held s c (holding taken)) ≡ come (relayed None Post.Nothing)
        unfolding applied
        ends = refl

        after : after_relay rule (with_held s c (holding taken)) (sent MessageKind.Relay (Party.Replica c)) c
            (holding taken) (index owner) k
            ≡ come (after_mark rule.round c taken owner (sent MessageKind.Relay (Party.Replica c))
            (mark_place s c (index owner)) k)
        after =
            splits come (rule.round (bits k.relayers) && not k.replied) _ _ _ _ (λ _. answers) (λ _. waits)

      relay_reacts : on_relay rule s (sent MessageKind.Relay (Party.Replica c)) ≡ come (reacting MessageKind.Relay)
      unfolding on_relay
      relay_reacts =
          splits come (ltb n (mark s c (index (line s n).owner)).operation) _ _ _ _ (λ _. ends new_mark)
          (λ _. after (marked (mark s c (index (line s n).owner)) n (index from)))
          ∙ ap (λ x. come (to_mark rule.round c x (line s n).owner (sent MessageKind.Relay (Party.Replica c))
          (mark_place s c (index (line s n).owner)) (mark s c (index (line s n).owner))))
          (took_offered (replica s c) (sent MessageKind.Relay (Party.Replica c)))

      offer_reacts : (kind ack : MessageKind) → on_offer s (sent kind (Party.Replica c)) ack
          ≡ come (at_replica c (offered (replica s c) (sent kind (Party.Replica c))) None
          (answer_to (line s n).owner (sent kind (Party.Replica c)) ack (unused s.start)))
      unfolding applied on_offer
      offer_reacts kind ack =
          ap (λ x. come (at_replica c x None
          (answer_to (line s n).owner (sent kind (Party.Replica c)) ack (unused s.start))))
          (took_offered (replica s c) (sent kind (Party.Replica c)))

      replica_reacts : (kind : MessageKind) → suits rule s kind from (Party.Replica c) ≡ true
          → on rule kind s (sent kind (Party.Replica c)) ≡ come (reacting kind)
      unfolding applied on on_query on_fan
      replica_reacts MessageKind.Put e = offer_reacts MessageKind.Put MessageKind.PutAck
      replica_reacts MessageKind.PutAck e = never _ e
      replica_reacts MessageKind.Query e = refl
      replica_reacts MessageKind.Have e = never _ e
      replica_reacts MessageKind.Back e = offer_reacts MessageKind.Back MessageKind.BackAck
      replica_reacts MessageKind.BackAck e = never _ e
      replica_reacts MessageKind.Fan e = refl
      replica_reacts MessageKind.Relay e = relay_reacts
      replica_reacts MessageKind.Reply e = never _ e

    -- TO THE WRITER

    abbrev acked : Writer
    acked = acknowledged s.writer (index from)

    ack_finishes : finishing (with_writer s (writer_freed acked)) n (written s n) 2
        ≡ come (at_writer (writer_freed acked) (Some (finish_with n (written s n) 2)))
    unfolding applied
    ack_finishes = refl

    ack_waits : quiet (with_writer s acked) ≡ come (at_writer acked None)
    unfolding applied
    ack_waits = refl

    writer_reacts : on_put_ack rule s (sent MessageKind.PutAck Party.Writer)
        ≡ come (writer_reaction rule.round s.writer (line s n) (sent MessageKind.PutAck Party.Writer) (index from))
    unfolding on_put_ack
    writer_reacts =
        splits_not come (eqb s.writer.operation n) _ _ _ _
        (splits come (rule.round (bits acked.acknowledgers)) _ _ _ _ (λ _. ack_finishes) (λ _. ack_waits)) idle

    -- TO A READER

    module _ (r : ℕ) where
      -- Reader r, now d, has counted the message.
      module _ (d : Reader F) where
        abbrev moving : Move → Effect F
        moving v = come (moved r d v)

        keeps : quiet (with_reader s r d) ≡ moving Move.Wait
        unfolding applied
        keeps = refl

        places : second_round rule s r d ≡ moving Move.PlaceBest
        unfolding applied
        places = refl

        finishes : (exchanges : ℕ) → read_finishing s r d exchanges ≡ moving (Move.Finish exchanges)
        unfolding applied
        finishes exchanges = refl

        abbrev move : ReadKind → Phase → Move
        move kind p = move_in rule.round rule.hold kind d p

        after_first : (kind : ReadKind) → (line s d.operation).kind ≡ OperationKind.Read kind
            → after_have rule s r d ≡ moving (move kind Phase.First)
        after_first kind k =
            ap (λ K. cond (rule.round (bits d.replies))
            (cond (is_quick K && rule.hold (bits d.holders)) (read_finishing s r d 2) (second_round rule s r d))
            (quiet (with_reader s r d))) k
            ∙ splits moving (rule.round (bits d.replies)) _ _ _ _
            (λ _. splits moving (is_quick (OperationKind.Read kind) && rule.hold (bits d.holders)) _ _ _ _
            (λ _. finishes 2) (λ _. places)) (λ _. keeps)

        after_round : (exchanges : ℕ) → after_last rule s r d exchanges
            ≡ moving (cond (rule.round (bits d.replies)) (Move.Finish exchanges) Move.Wait)
        after_round exchanges =
            splits moving (rule.round (bits d.replies)) _ _ _ _ (λ _. finishes exchanges) (λ _. keeps)

      module _ (d : Reader F) (kind : ReadKind) (read : (line s n).kind ≡ OperationKind.Read kind) where
        abbrev hearing : MessageKind → Reaction F
        hearing message =
            reader_reaction rule.round rule.hold r d (line s n).kind (sent message (Party.Reader r)) (index from)

        -- The reader after the message, if it was in phase p.
        abbrev then : MessageKind → Phase → Reader F
        then message p = hears d (sent message (Party.Reader r)) (index from) p

        -- What is shown of phase p, in which the reader was and is, holds of its own phase.
        in_phase : (message : MessageKind) (p : Phase) (x : Effect F) → d.phase ≡ p → Same d (then message p)
            → x ≡ moving (then message p) (move (then message p) kind p)
            → x ≡ come (after_heard rule.round rule.hold r (then message d.phase) (line s n).kind)
        in_phase message p x was same e =
            e ∙ ap (λ q. moving (then message p) (move (then message p) kind q)) (sym (same.phase ∙ was))
            ∙ ap (λ q. moving (then message q) (next_move rule.round rule.hold kind (then message q))) (sym was)
            ∙ ap (λ k. come (after_heard rule.round rule.hold r (then message d.phase) k)) (sym read)

        -- What a test tells that a message counts.
        counting : (meant : Bool) → (eqb d.operation n && meant && not (bits d.replies (index from))) ≡ true
            → (d.operation ≡ n) × (meant ≡ true)
        counting meant e =
            let a = and_parts (eqb d.operation n && meant) (not (bits d.replies (index from))) e in
            let b = and_parts (eqb d.operation n) meant a.0 in
            (eqb-true d.operation n b.0, b.1)

        have_reacts : on_have_at rule s (sent MessageKind.Have (Party.Reader r)) r d ≡ come (hearing MessageKind.Have)
        have_reacts =
            splits come (counts d (sent MessageKind.Have (Party.Reader r)) (index from)) _ _ _ _ (λ e.
            let x : Held F = record { stamp = t; figure = f } in
            let was = counting (in_first d.phase) e in
            let same = heard_same d (index from) x in
            in_phase MessageKind.Have Phase.First _ (first_tells d.phase was.1) same
            (after_first (heard d (index from) x) kind (ap (λ k. (line s k).kind) (same.operation ∙ was.0) ∙ read)))
            (λ _. idle)

        back_ack_reacts : on_back_ack_at rule s (sent MessageKind.BackAck (Party.Reader r)) r d
            ≡ come (hearing MessageKind.BackAck)
        back_ack_reacts =
            splits come (counts d (sent MessageKind.BackAck (Party.Reader r)) (index from)) _ _ _ _ (λ e.
            in_phase MessageKind.BackAck Phase.Second _
            (second_tells d.phase (counting (in_second d.phase) e).1)
            (replied_same d (index from) (best d) d.holders) (after_round (confirmed d (index from)) 4))
            (λ _. idle)

        reply_reacts : on_reply_at rule s (sent MessageKind.Reply (Party.Reader r)) r d ≡ come (hearing MessageKind.Reply)
        reply_reacts =
            splits come (counts d (sent MessageKind.Reply (Party.Reader r)) (index from)) _ _ _ _ (λ e.
            let x : Held F = record { stamp = t; figure = f } in
            in_phase MessageKind.Reply Phase.Relay _ (relay_tells d.phase (counting (in_relay d.phase) e).1)
            (lowered_same d (index from) x) (after_round (lowered d (index from) x) 3))
            (λ _. idle)

      -- The line is a read, since a message to a reader serves one.
      module _ (kind : ReadKind) (read : (line s n).kind ≡ OperationKind.Read kind) where
        reader_reacts : (message : MessageKind) → suits rule s message from (Party.Reader r) ≡ true
            → on rule message s (sent message (Party.Reader r)) ≡ come (hearing (reader s r) kind read message)
        unfolding on on_have on_back_ack on_reply
        reader_reacts MessageKind.Put e = never _ e
        reader_reacts MessageKind.PutAck e = never _ e
        reader_reacts MessageKind.Query e = never _ e
        reader_reacts MessageKind.Have e = have_reacts (reader s r) kind read
        reader_reacts MessageKind.Back e = never _ e
        reader_reacts MessageKind.BackAck e = back_ack_reacts (reader s r) kind read
        reader_reacts MessageKind.Fan e = never _ e
        reader_reacts MessageKind.Relay e = never _ e
        reader_reacts MessageKind.Reply e = reply_reacts (reader s r) kind read

      read_line : (k : OperationKind) (message : MessageKind) → suits rule s message from (Party.Reader r) ≡ true
          → serves message k ≡ true → (kind : ReadKind) × (k ≡ OperationKind.Read kind)
      read_line (OperationKind.Read kind) message e h = (kind, refl)
      read_line OperationKind.Write MessageKind.Put e h = never _ e
      read_line OperationKind.Write MessageKind.PutAck e h = never _ e
      read_line OperationKind.Write MessageKind.Query e h = absurd (false≢true h)
      read_line OperationKind.Write MessageKind.Have e h = absurd (false≢true h)
      read_line OperationKind.Write MessageKind.Back e h = absurd (false≢true h)
      read_line OperationKind.Write MessageKind.BackAck e h = absurd (false≢true h)
      read_line OperationKind.Write MessageKind.Fan e h = absurd (false≢true h)
      read_line OperationKind.Write MessageKind.Relay e h = absurd (false≢true h)
      read_line OperationKind.Write MessageKind.Reply e h = absurd (false≢true h)

    -- The writer is sent nothing but acknowledgements.
    ack_reacts : (message : MessageKind) → suits rule s message from Party.Writer ≡ true
        → on rule message s (sent message Party.Writer)
        ≡ come (writer_reaction rule.round s.writer (line s n) (sent message Party.Writer) (index from))
    unfolding on
    ack_reacts MessageKind.Put e = never _ e
    ack_reacts MessageKind.PutAck e = writer_reacts
    ack_reacts MessageKind.Query e = never _ e
    ack_reacts MessageKind.Have e = never _ e
    ack_reacts MessageKind.Back e = never _ e
    ack_reacts MessageKind.BackAck e = never _ e
    ack_reacts MessageKind.Fan e = never _ e
    ack_reacts MessageKind.Relay e = never _ e
    ack_reacts MessageKind.Reply e = never _ e

    -- TO ANY PARTY

    all_react : (message : MessageKind) (to : Party) → suits rule s message from to ≡ true
        → serves message (line s n).kind ≡ true
        → received rule s (sent message to) ≡ come (reaction rule s (sent message to))
    unfolding received reaction
    all_react message Party.Writer e h =
        splits come s.writer.halted _ _ _ _ (λ _. idle) (λ _. ack_reacts message e)
    all_react message (Party.Reader r) e h =
        let k = read_line r (line s n).kind message e h in
        splits come (reader s r).halted _ _ _ _ (λ _. idle) (λ _. reader_reacts r k.0 k.1 message e)
    all_react message (Party.Replica c) e h =
        splits come (replica s c).halted _ _ _ _ (λ _. idle) (λ _. replica_reacts c message e)

  -- s is the state without the message m, and m one that sound tables have.
  pub reacts : (m : Message F) → addressed rule s m ≡ true → recorded s m.kind (line s m.operation) ≡ true
      → received rule s m ≡ applied s rule.size (reaction rule s m)
  reacts m a b =
      all_react m.operation m.sender m.stamp m.figure m.kind m.receiver
      (and_parts (suits rule s m.kind m.sender m.receiver) (in_journal s m.operation) a).0
      (and_parts (serves m.kind (line s m.operation).kind)
      (owned s (line s m.operation).kind (line s m.operation).owner) b).0

  -- No reaction depends on the messages that wait.
  pub same_reaction : (l : List (Message F)) (m : Message F) → reaction rule (with_messages s l) m ≡ reaction rule s m
  unfolding reaction
  same_reaction l m = refl
