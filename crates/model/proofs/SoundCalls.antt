-- Every call leaves sound tables sound.
use Rattle.std.proofs.Common.{◌≡◌, ℕ, ◌+◌, ◌<◌, Bool, true, false, cond, not, ◌&&◌, [], ◌∷◌, length, Some, None, Option, sym, refl, ap, ◌∙◌, arith}
use lib.ListN.{length-replicate}
use Rattle.std.specs.List.{AllByRecursion as All}
use Rattle.std.proofs.lemmas.List.{get_or_push, get_or-replicate, length_push}
use Rattle.std.proofs.ByRecursion.{All-get_or, All-weaker}
use Rattle.std.proofs.lemmas.Bool.{and_from, cond_both, eq-eqb, leb-false, lt-ltb}
use Rattle.quorum.specs.Sets.{Rule}
use Rattle.model.specs.declared.parties.Party.{Party}
use Rattle.model.specs.declared.messages.MessageKind.{MessageKind}
use Rattle.model.specs.declared.journal.OperationKind.{OperationKind}
use Rattle.model.specs.declared.journal.ReadKind.{ReadKind}
use Rattle.model.specs.declared.reader.Reader.{Reader}
use Rattle.model.specs.declared.calls.Call.{Call}
use Rattle.model.specs.declared.answers.Refusal.{Refusal}
use Rattle.model.specs.State.{State, Held, unused, new_reader, new_mark, no_message, no_line, fresh, reader, message}
use Rattle.model.specs.State.{line, with_reader, without_message}
use Rattle.model.specs.Records.{reading, reader_halted}
use Rattle.model.specs.Sound.{a_reader, suits, in_journal, serves, owned, is_read, is_reader, idle, own_read, sound}
use Rattle.model.specs.Deliveries.{Effect, to_all, received}
use Rattle.model.specs.Steps.{Outcome, declined, posted, outcome, next_number, with_line, to_write, write}
use Rattle.model.specs.Steps.{opening_phase, opening_message, read, deliver, dropped, duplicated, stopped, halt, done}
use Rattle.model.specs.Steps.{absent, no_place, tests, first_of, refusal, overfull, settled, step}
use Rattle.model.proofs.Items.{all_alike}
use Rattle.model.proofs.SoundTables.{Fits, ReaderIn, MarkIn, Placed, Tables, sound_tells, tables_sound, identity}
use Rattle.model.proofs.SoundTables.{in_journal_from, fits_later}
use Rattle.model.proofs.SoundChanges.{later_reader, parties_changed, reader_changed, line_added, message_taken}
use Rattle.model.proofs.SoundChanges.{messages_added, sent_posted}
use Rattle.model.proofs.SoundDeliveries.{Safe, within_none, all_addressed, received_safe}

-- A new register

pub fresh_sound : {F : Type 0} (rule : Rule) (start : F) (readers message_room journal_room : ℕ)
    → sound rule (fresh rule start readers message_room journal_room) ≡ true
unfolding fresh
fresh_sound rule start readers message_room journal_room = tables_sound rule _ (record {
  readers_in = all_alike (ReaderIn rule) readers (new_reader start) (and_from _ _ (within_none rule) (within_none rule));
  marks_in = all_alike (MarkIn rule) _ new_mark (within_none rule);
  all_fit = tt;
  all_placed = λ r h. rw
      (get_or-replicate readers r (new_reader start) (new_reader start)
      (omega (arith, length-replicate readers (new_reader start)))) refl;
})

module _ {F : Type 0} (rule : Rule) (s : State F) (tables : Tables rule s) where
  -- A safe effect, with its messages sent, is sound.
  sent_sound : (e : Effect F) → Safe rule e → Tables rule (posted e.next e.sent)
  sent_sound e (next, fit) = sent_posted rule e.next next e.sent fit

  -- A new operation

  module _ (kind : OperationKind) (owner : Party) (x : Held F) where
    abbrev begun : State F
    begun = with_line s kind owner x

    new_line : identity (line begun (next_number s)) ≡ (kind, owner)
    new_line = ap identity (get_or_push s.journal _ (no_line s.start) (length s.journal) refl)

    new_number : in_journal begun (next_number s) ≡ true
    new_number =
        let longer : length begun.journal ≡ length s.journal + 1 = length_push s.journal _ in
        in_journal_from begun (next_number s) (omega arith) (omega arith)

    opening_fits : (sort : MessageKind) (from : Party) (y : Held F)
        → ((c : ℕ) → c < rule.size → suits rule s sort from (Party.Replica c) ≡ true) → serves sort kind ≡ true
        → owned s kind owner ≡ true
        → All (Fits rule begun) (to_all rule.size sort (next_number s) from y)
    opening_fits sort from y to b own =
        all_addressed rule begun sort (next_number s) from y to new_number
        (ap (λ (i : OperationKind × Party). serves sort i.0 && owned s i.0 i.1) new_line ∙ and_from _ _ b own)

  write_sound : (f : F) → Tables rule (outcome [] (write rule s f)).next
  unfolding write
  write_sound f =
      let x : Held F = to_write s f in
      sent_sound (write rule s f) (
        parties_changed rule _ (line_added rule s tables OperationKind.Write Party.Writer x) _ s.replicas,
        opening_fits OperationKind.Write Party.Writer x MessageKind.Put Party.Writer x
            (λ c l. lt-ltb c rule.size l) refl refl,
      )

  opening_works : (kind : ReadKind) → idle (opening_phase kind) ≡ false
  opening_works ReadKind.Quick = refl
  opening_works ReadKind.Settled = refl
  opening_works ReadKind.Relay = refl

  opening_serves : (kind : ReadKind) → serves (opening_message kind) (OperationKind.Read kind) ≡ true
  opening_serves ReadKind.Quick = refl
  opening_serves ReadKind.Settled = refl
  opening_serves ReadKind.Relay = refl

  opening_suits : (kind : ReadKind) (from : Party) (c : ℕ) → a_reader s from ≡ true → c < rule.size
      → suits rule s (opening_message kind) from (Party.Replica c) ≡ true
  opening_suits ReadKind.Quick from c e l = and_from _ _ e (lt-ltb c rule.size l)
  opening_suits ReadKind.Settled from c e l = and_from _ _ e (lt-ltb c rule.size l)
  opening_suits ReadKind.Relay from c e l = and_from _ _ e (lt-ltb c rule.size l)

  read_sound : (r : ℕ) (kind : ReadKind) → r < length s.readers → Tables rule (outcome [] (read rule s r kind)).next
  unfolding read
  read_sound r kind inside =
      let x : Held F = unused s.start in
      let t : State F = with_line s (OperationKind.Read kind) (Party.Reader r) x in
      let d : Reader F = reading s.start (reader s r) (next_number s) (opening_phase kind) in
      let known : a_reader s (Party.Reader r) ≡ true = lt-ltb r (length s.readers) inside in
      let own : own_read r (line t (next_number s)) ≡ true =
      ap (λ (i : OperationKind × Party). is_read i.0 && is_reader r i.1)
      (new_line (OperationKind.Read kind) (Party.Reader r) x) ∙ eq-eqb r r refl in
      let works : Placed t r d =
      rw (opening_works kind) (and_from _ _ (new_number (OperationKind.Read kind) (Party.Reader r) x) own) in
      let fit = opening_fits (OperationKind.Read kind) (Party.Reader r) x (opening_message kind) (Party.Reader r) x
      (λ c l. opening_suits kind (Party.Reader r) c known l) (opening_serves kind) known in
      sent_sound (read rule s r kind) (
        reader_changed rule t (line_added rule s tables (OperationKind.Read kind) (Party.Reader r) x) r d
            (and_from _ _ (within_none rule) (within_none rule)) works,
        All-weaker (Fits rule t) (Fits rule (with_reader t r d))
            (fits_later rule t (with_reader t r d) (later_reader t r d)) _ fit,
      )

  -- Messages

  message_fits : (place : ℕ) → place < length s.messages → Fits rule s (message s place)
  message_fits place l = All-get_or (Fits rule s) s.messages place (no_message s.start) l tables.all_fit

  deliver_sound : (place : ℕ) → place < length s.messages
      → Tables rule (outcome (message s place ∷ []) (deliver rule s place)).next
  unfolding deliver
  deliver_sound place l =
      sent_sound (received rule (without_message s place) (message s place))
      (received_safe rule (without_message s place) (message_taken rule s tables place) (message s place)
      (message_fits place l))

  duplicate_sound : (place : ℕ) → place < length s.messages → Tables rule (duplicated s place).next
  unfolding duplicated
  duplicate_sound place l = messages_added rule s tables (message s place ∷ []) (message_fits place l, tt)

  stopped_sound : (p : Party) → absent rule s p ≡ false → Tables rule (stopped s p)
  stopped_sound Party.Writer e = parties_changed rule s tables _ s.replicas
  stopped_sound (Party.Reader r) e =
      let inside : r < length s.readers = leb-false (length s.readers) r e in
      reader_changed rule s tables r (reader_halted (reader s r))
      (All-get_or (ReaderIn rule) s.readers r (new_reader s.start) inside tables.readers_in)
      (tables.all_placed r inside)
  stopped_sound (Party.Replica c) e = parties_changed rule s tables s.writer _

  -- Any call that passes its tests

  passed : (b : Bool) (e : Refusal) (rest : Option Refusal) → cond b (Some e) rest ≡ None → b ≡ false
  passed true e rest h = cc
  passed false e rest h = refl

  in_place : (place : ℕ) (rest : Option Refusal) → cond (no_place s place) (Some Refusal.NoMessage) rest ≡ None
      → place < length s.messages
  in_place place rest e = leb-false (length s.messages) place (passed (no_place s place) Refusal.NoMessage rest e)

  done_sound : (c : Call F) → first_of (tests rule s c) ≡ None → Tables rule (done rule s c).next
  unfolding done tests dropped halt
  done_sound (Call.Write f) e = write_sound f
  done_sound (Call.Read r kind) e =
      read_sound r kind (leb-false (length s.readers) r (passed (absent rule s (Party.Reader r)) _ _ e))
  done_sound (Call.Deliver place) e = deliver_sound place (in_place place _ e)
  done_sound (Call.Drop place) e = message_taken rule s tables place
  done_sound (Call.Duplicate place) e = duplicate_sound place (in_place place _ e)
  done_sound (Call.Halt p) e = stopped_sound p (passed (absent rule s p) _ _ e)

  settled_sound : (o : Outcome F) (e : Option Refusal) → (e ≡ None → Tables rule o.next)
      → Tables rule (settled s e o).next
  settled_sound o (Some e) h = tables
  settled_sound o None h =
      cond_both (overfull s o) (declined s Refusal.NoRoom) o (λ (p : Outcome F). Tables rule p.next) (λ _. tables)
      (λ _. h refl)

-- Whatever the rule, the tables and the call.
pub sound_kept : {F : Type 0} (rule : Rule) (s : State F) (c : Call F) → sound rule s ≡ true
    → sound rule (step rule s c).next ≡ true
unfolding step refusal
sound_kept rule s c h =
    let tables = sound_tells rule s h in
    tables_sound rule _ (settled_sound rule s tables (done rule s c) (refusal rule s c)
    (λ e. done_sound rule s tables c
    (ap (λ b. cond (not b) (Some Refusal.Unsound) (first_of (tests rule s c))) (sym h) ∙ e)))
