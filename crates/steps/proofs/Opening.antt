-- The start of an operation: the view of the new line and the new messages.
use Rattle.std.proofs.Common.{◌≡◌, ℕ, suc, ◌-◌, ◌≤◌, List, [], ◌∷◌, ◌++◌, length, get_or, take, drop, set, refl, ap, ◌∙◌, arith}
use Rattle.std.proofs.lemmas.List.{length_push, take_at, set-append_right, get_or-append_right}
use Rattle.model.specs.declared.messages.MessageKind.{MessageKind}
use Rattle.model.specs.declared.parties.Party.{Party}
use Rattle.model.specs.declared.journal.Operation.{Operation}
use Rattle.model.specs.declared.journal.OperationKind.{OperationKind}
use Rattle.model.specs.State.{Held, stored, new_line, no_line}
use Rattle.model.specs.Deliveries.{to_all}
use Rattle.model.specs.Steps.{counted}
use Rattle.steps.specs.Posting.{sent_more}
use Rattle.steps.proofs.Counting.{counted_all}

-- the front that is stored is what is in use
pub take_stored : {A : Type 0} (front t : List A) (n : ℕ) → length front ≡ n → take n (stored front t) ≡ front
take_stored front t n e = take_at front (drop (length front) t) n e

module _ {F : Type 0} (f : F) where
  -- a new line counts the messages that go to every replica
  pub counted_new : (j : List (Operation F)) (kind : OperationKind) (message : MessageKind) (from : Party) (event : ℕ)
      (x : Held F) (k : ℕ) → suc k ≤ 65535
      → counted f (j ++ new_line kind from event x ∷ []) (to_all (suc k) message (suc (length j)) from x)
      ≡ j ++ sent_more (new_line kind from event x) (suc k) ∷ []
  counted_new j kind message from event x k few =
      let line = new_line kind from event x in
      let l = length_push j line in
      let z : length j - length j ≡ 0 = omega arith in
      let at : get_or (j ++ line ∷ []) (length j) (no_line f) ≡ line = get_or-append_right j (line ∷ []) (length j) (length j) (no_line f) refl (omega arith) ∙ ap (λ (i : ℕ). get_or (line ∷ []) i (no_line f)) z in
      counted_all f (j ++ line ∷ []) message (suc (length j)) from x (omega arith) k
      ∙ ap (λ (o : Operation F). set (j ++ line ∷ []) (length j) (sent_more o (suc k))) at
      ∙ set-append_right j (line ∷ []) (length j) (length j) (sent_more line (suc k)) refl (omega arith)
      ∙ ap (λ (i : ℕ). j ++ set (line ∷ []) i (sent_more line (suc k))) z
