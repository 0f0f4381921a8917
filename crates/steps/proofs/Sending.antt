-- Messages to every replica.
use Rattle.std.proofs.Common.{◌≡◌, ℕ, zero, suc, ◌+◌, ◌<◌, List, [], ◌∷◌, ◌++◌, length, take, set, sym, refl, ap, ◌∙◌, add-one, arith, length-append, length-take}
use Rattle.std.proofs.lemmas.List.{length_push, append_assoc, append-nil}
use Rattle.model.specs.declared.messages.Message.{Message}
use Rattle.model.specs.declared.messages.MessageKind.{MessageKind}
use Rattle.model.specs.declared.parties.Party.{Party}
use Rattle.model.specs.State.{Held, stored, new_message}
use Rattle.model.specs.Deliveries.{to_all}
use Rattle.steps.proofs.Fronts.{stored_own, stored_more}

module _ {F : Type 0} (kind : MessageKind) (n : ℕ) (from : Party) (x : Held F) where
  pub length_to_all : (size : ℕ) → length (to_all size kind n from x) ≡ size
  unfolding to_all
  length_to_all zero = refl
  length_to_all (suc c) = length_push (to_all c kind n from x) _ ∙ omega (arith, length_to_all c)

  to_all_more : (c : ℕ) → to_all (c + 1) kind n from x ≡ to_all c kind n from x ++ new_message kind n from (Party.Replica c) x ∷ []
  unfolding to_all
  to_all_more c = ap (λ (k : ℕ). to_all k kind n from x) (add-one c)

  module _ (used : ℕ) (t : List (Message F)) where
    pub sends_none : t ≡ stored (take used t ++ to_all 0 kind n from x) t
    unfolding to_all
    sends_none = sym (ap (λ (l : List _). stored l t) (append-nil (take used t)) ∙ stored_own used t)

    pub sends_more : (c : ℕ) → used + c < length t
        → set (stored (take used t ++ to_all c kind n from x) t) (used + c) (new_message kind n from (Party.Replica c) x)
        ≡ stored (take used t ++ to_all (c + 1) kind n from x) t
    sends_more c lt =
        let l = length_to_all c in
        let e : length (take used t ++ to_all c kind n from x) ≡ used + c = simp (length-append, length-take) (omega arith) in
        stored_more (take used t ++ to_all c kind n from x) t (used + c) _ e lt
        ∙ ap (λ (front : List _). stored front t)
        (append_assoc (take used t) (to_all c kind n from x) _ ∙ ap (λ (l : List _). take used t ++ l) (sym (to_all_more c)))
