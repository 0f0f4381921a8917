-- How sent messages are counted in the journal.
use Rattle.std.proofs.Common.{◌≡◌, ℕ, zero, suc, pred, ◌+◌, ◌<◌, min, List, [], ◌∷◌, ◌++◌, length, get_or, set, refl, ap, ◌∙◌, arith, get_or-set_same}
use Rattle.std.proofs.lemmas.List.{set-set}
use Rattle.model.specs.declared.messages.Message.{Message}
use Rattle.model.specs.declared.messages.MessageKind.{MessageKind}
use Rattle.model.specs.declared.parties.Party.{Party}
use Rattle.model.specs.declared.journal.Operation.{Operation}
use Rattle.model.specs.State.{Held, no_line, new_message}
use Rattle.model.specs.Records.{one_sent}
use Rattle.model.specs.Deliveries.{to_all}
use Rattle.model.specs.Steps.{counted}
use Rattle.steps.specs.Posting.{sent_more}

module _ {F : Type 0} (f : F) where
  -- the last of the messages is counted last
  counted_push : (j : List (Operation F)) (l : List (Message F)) (m : Message F)
      → counted f j (l ++ m ∷ [])
      ≡ set (counted f j l) (pred m.operation) (one_sent (get_or (counted f j l) (pred m.operation) (no_line f)))
  unfolding counted
  counted_push j [] m = refl
  counted_push j (a ∷ l) m = counted_push (set j (pred a.operation) (one_sent (get_or j (pred a.operation) (no_line f)))) l m

  -- one message more
  one_more_sent : (o : Operation F) (k : ℕ) → one_sent (sent_more o (suc k)) ≡ sent_more o (suc (suc k))
  one_more_sent o k =
      let e : min (min (o.sent + suc k) 65535 + 1) 65535 ≡ min (o.sent + suc (suc k)) 65535 = omega arith in
      rw e

  -- as many messages of one operation as there are replicas
  pub counted_all : (j : List (Operation F)) (kind : MessageKind) (n : ℕ) (from : Party) (x : Held F) → pred n < length j
      → (k : ℕ) → counted f j (to_all (suc k) kind n from x) ≡ set j (pred n) (sent_more (get_or j (pred n) (no_line f)) (suc k))
  unfolding to_all counted
  counted_all j kind n from x lt zero = refl
  counted_all j kind n from x lt (suc k) =
      let o = get_or j (pred n) (no_line f) in
      let ih = counted_all j kind n from x lt k in
      counted_push j (to_all (suc k) kind n from x) (new_message kind n from (Party.Replica (suc k)) x)
      ∙ ap (λ (l : List (Operation F)). set l (pred n) (one_sent (get_or l (pred n) (no_line f)))) ih
      ∙ rw (get_or-set_same j (pred n) (sent_more o (suc k)) (no_line f) lt, set-set, one_more_sent)
