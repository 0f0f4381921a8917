-- Soundness goes by the size of the rule, the readers and the lines alone, and one pass over each table tests it.
use Rattle.std.proofs.Common.{◌≡◌, ℕ, suc, Bool, true, false, ◌&&◌, List, [], ◌∷◌, sym, refl, ap, ◌∙◌, ap₂}
use Rattle.std.specs.List.{list_all}
use mathlib.Core.Path.{fun_ext}
use mathlib.Core.Bool.{and_assoc, and-true, and-false}
use Rattle.quorum.specs.Sets.{Rule}
use Rattle.model.specs.declared.parties.Party.{Party}
use Rattle.model.specs.declared.messages.MessageKind.{MessageKind}
use Rattle.model.specs.declared.journal.OperationKind.{OperationKind}
use Rattle.model.specs.declared.reader.Reader.{Reader}
use Rattle.model.specs.declared.marks.RelayMark.{RelayMark}
use Rattle.model.specs.declared.messages.Message.{Message}
use Rattle.model.specs.declared.journal.Operation.{Operation}
use Rattle.model.specs.State.{State, line}
use Rattle.model.specs.Sound.{each_from, reader_within, mark_within, sets_within, a_writer, a_reader, a_replica}
use Rattle.model.specs.Sound.{suits, in_journal, addressed, messages_addressed, serves, owned, recorded, messages_recorded}
use Rattle.model.specs.Sound.{placed, readers_placed, sound}
use Rattle.tables.specs.Judged.{of_size, register_of, reader_sound, message_sound}
use Rattle.tables.proofs.Listed.{all_placed}

-- TWO TESTS OF EACH ITEM are one

and_swapped : (a b c d : Bool) → ((a && b) && (c && d)) ≡ ((a && c) && (b && d))
and_swapped false b c d = refl
and_swapped true false c d = sym (and-false c)
and_swapped true true c d = refl

each_from_both : {A : Type 0} (f g : ℕ → A → Bool) (n : ℕ) (xs : List A)
    → (each_from n f xs && each_from n g xs) ≡ each_from n (λ k x. f k x && g k x) xs
unfolding each_from
each_from_both f g n [] = refl
each_from_both f g n (x ∷ xs) =
    and_swapped (f n x) (each_from (suc n) f xs) (g n x) (each_from (suc n) g xs)
    ∙ ap (λ b. (f n x && g n x) && b) (each_from_both f g (suc n) xs)

each_both : {A : Type 0} (f g : A → Bool) (xs : List A) → (list_all f xs && list_all g xs) ≡ list_all (λ x. f x && g x) xs
each_both f g xs =
    ap₂ (λ a b. a && b) (all_placed f 0 xs) (all_placed g 0 xs) ∙ each_from_both (λ k. f) (λ k. g) 0 xs
    ∙ sym (all_placed (λ x. f x && g x) 0 xs)

each_and_from : {A : Type 0} (f : A → Bool) (g : ℕ → A → Bool) (xs : List A)
    → (list_all f xs && each_from 0 g xs) ≡ each_from 0 (λ k x. f x && g k x) xs
each_and_from f g xs =
    ap (λ b. b && each_from 0 g xs) (all_placed f 0 xs) ∙ each_from_both (λ k. f) g 0 xs

-- sets of readers and of marks, messages addressed, messages recorded, readers placed: by table
by_table : (r k a b p : Bool) → ((((r && k) && a) && b) && p) ≡ (((r && p) && k) && (a && b))
by_table false k a b p = refl
by_table true k a b true = and-true ((k && a) && b) ∙ and_assoc k a b
by_table true k a b false = and-false ((k && a) && b)

-- WHAT A MESSAGE is judged by

module _ {F : Type 0} (rule : Rule) (s : State F) where
  -- all of the rule and of the register that counts
  abbrev sized : Rule
  sized = of_size rule.size

  abbrev parts : State F
  parts = register_of s.start s.readers s.journal

  a_replica_sized : (p : Party) → a_replica rule p ≡ a_replica sized p
  a_replica_sized Party.Writer = refl
  a_replica_sized (Party.Reader r) = refl
  a_replica_sized (Party.Replica c) = refl

  a_reader_parts : (p : Party) → a_reader s p ≡ a_reader parts p
  a_reader_parts Party.Writer = refl
  a_reader_parts (Party.Reader r) = refl
  a_reader_parts (Party.Replica c) = refl

  suits_parts : (kind : MessageKind) (from to : Party) → suits rule s kind from to ≡ suits sized parts kind from to
  suits_parts MessageKind.Put from to = ap (λ b. a_writer from && b) (a_replica_sized to)
  suits_parts MessageKind.PutAck from to = ap (λ b. b && a_writer to) (a_replica_sized from)
  suits_parts MessageKind.Query from to = ap₂ (λ a b. a && b) (a_reader_parts from) (a_replica_sized to)
  suits_parts MessageKind.Have from to = ap₂ (λ a b. a && b) (a_replica_sized from) (a_reader_parts to)
  suits_parts MessageKind.Back from to = ap₂ (λ a b. a && b) (a_reader_parts from) (a_replica_sized to)
  suits_parts MessageKind.BackAck from to = ap₂ (λ a b. a && b) (a_replica_sized from) (a_reader_parts to)
  suits_parts MessageKind.Fan from to = ap₂ (λ a b. a && b) (a_reader_parts from) (a_replica_sized to)
  suits_parts MessageKind.Relay from to = ap₂ (λ a b. a && b) (a_replica_sized from) (a_replica_sized to)
  suits_parts MessageKind.Reply from to = ap₂ (λ a b. a && b) (a_replica_sized from) (a_reader_parts to)

  owned_parts : (kind : OperationKind) (owner : Party) → owned s kind owner ≡ owned parts kind owner
  owned_parts OperationKind.Write owner = refl
  owned_parts (OperationKind.Read k) owner = a_reader_parts owner

  message_parts : (m : Message F) → message_sound rule s m ≡ message_sound sized parts m
  message_parts m =
      let o = line s m.operation in
      ap₂ (λ a b. (a && in_journal s m.operation) && (serves m.kind o.kind && b))
      (suits_parts m.kind m.sender m.receiver) (owned_parts o.kind o.owner)

-- ALL OF IT, under a rule of this size: one test of each reader and each mark, and one of each message

module _ {F : Type 0} (size : ℕ) (start : F) (readers : List (Reader F)) where
  abbrev pub all_parties : List RelayMark → List (Operation F) → Bool
  all_parties marks lines =
      each_from 0 (reader_sound (of_size size) (register_of start readers lines)) readers && list_all (mark_within (of_size size)) marks

  abbrev pub all_messages : List (Operation F) → List (Message F) → Bool
  all_messages lines messages = list_all (message_sound (of_size size) (register_of start readers lines)) messages

  abbrev all_tables : List RelayMark → List (Operation F) → List (Message F) → Bool
  all_tables marks lines messages = all_parties marks lines && all_messages lines messages

sound_by_table : {F : Type 0} (rule : Rule) (s : State F)
    → sound rule s ≡ all_tables rule.size s.start s.readers s.marks s.journal s.messages
unfolding sound sets_within messages_addressed messages_recorded readers_placed
sound_by_table rule s =
    by_table (list_all (reader_within rule) s.readers) (list_all (mark_within rule) s.marks)
    (list_all (addressed rule s) s.messages) (list_all (λ m. recorded s m.kind (line s m.operation)) s.messages)
    (each_from 0 (placed s) s.readers)
    ∙ ap₂ (λ a b. (a && list_all (mark_within rule) s.marks) && b)
    (each_and_from (reader_within rule) (placed s) s.readers)
    (each_both (addressed rule s) (λ m. recorded s m.kind (line s m.operation)) s.messages
    ∙ ap (λ test. list_all test s.messages) (fun_ext (message_parts rule s)))

-- What the two tests of the parts in use answered, joined.
pub sound_judged : {F : Type 0} (rule : Rule) (size : ℕ) (s : State F) (lines : List (Operation F))
    (waiting : List (Message F)) (parties messages : Bool)
    → rule.size ≡ size → lines ≡ s.journal → waiting ≡ s.messages
    → parties ≡ all_parties size s.start s.readers s.marks lines
    → messages ≡ all_messages size s.start s.readers lines waiting
    → (parties && messages) ≡ sound rule s
sound_judged rule size s lines waiting parties messages e l w p m =
    ap₂ (λ a b. a && b) p m
    ∙ ap₂ (all_tables size s.start s.readers s.marks) l w
    ∙ ap (λ n. all_tables n s.start s.readers s.marks s.journal s.messages) (sym e)
    ∙ sym (sound_by_table rule s)
