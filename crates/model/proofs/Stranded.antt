-- Finishing is claimed of reads too, with a replica halted, of whose messages one still waits, and with a message of another
-- operation dropped.
use Rattle.std.proofs.Common.{◌≡◌, ℕ, zero, suc, true, sym, subst, refl, ap, inl, inr, arith, Ok}
use Rattle.model.specs.declared.messages.Message.{Message}
use Rattle.model.specs.declared.parties.Party.{Party}
use Rattle.model.specs.declared.journal.OperationKind.{OperationKind}
use Rattle.model.specs.declared.journal.ReadKind.{ReadKind}
use Rattle.model.specs.declared.calls.Call.{Call}
use Rattle.model.specs.declared.answers.Reply.{Reply}
use Rattle.model.specs.State.{Held, halted}
use Rattle.model.specs.History.{Event}
use Rattle.model.specs.Claims.{At, In, Finishing}
use Rattle.model.specs.Refuted.{three_replicas, stranded, one_left}
use Rattle.model.proofs.Opened.{opened}

module _ (kind : ReadKind) where
  unfinished : (m n : ℕ) (x : Held ℕ) (sent exchanges : ℕ) (e : Event ℕ) → At (stranded kind) m e
      → e.reply ≡ Ok (Reply.Finished n x.stamp x.figure sent exchanges) → ⊥
  unfinished zero n x sent exchanges e at reply = cc
  unfinished (suc zero) n x sent exchanges e at reply = cc
  unfinished (suc (suc zero)) n x sent exchanges e at reply = cc
  unfinished (suc (suc (suc zero))) n x sent exchanges e at reply = cc
  unfinished (suc (suc (suc (suc m)))) n x sent exchanges e at reply = absurd at

  spared : (m place : ℕ) (e : Event ℕ) (a : Message ℕ) → At (stranded kind) m e → e.call ≡ Call.Drop place → In a e.taken
      → a.operation ≡ 2 → ⊥
  spared zero place e a at call i o = cc
  spared (suc zero) place e a at call i o = cc
  spared (suc (suc zero)) place e a at call i o = elim (subst (λ (x : Event ℕ). In a x.taken) (sym at) i) [
    | inl p ↦ omega (arith, ap (λ (y : Message ℕ). y.operation) p, o)
    | inr u ↦ absurd u
  ]
  spared (suc (suc (suc zero))) place e a at call i o = cc
  spared (suc (suc (suc (suc m)))) place e a at call i o = absurd at

awaited_in_vain : (a : Message ℕ) → In a one_left.messages → a.operation ≡ 2 → halted one_left a.receiver ≡ true
unfolding opened
awaited_in_vain a (inl p) o = subst (λ (y : Message ℕ). halted one_left y.receiver ≡ true) p refl
awaited_in_vain a (inr (inl p)) o = absurd (omega (arith, ap (λ (y : Message ℕ). y.operation) p, o))
awaited_in_vain a (inr (inr u)) o = absurd u

pub not_stranded : (kind : ReadKind) → Finishing three_replicas (stranded kind) one_left → ⊥
unfolding opened
not_stranded kind finishing =
    let (m, x, (e, place, sent, exchanges, at, call, reply)) =
    finishing 1 2 (Party.Reader 0) (OperationKind.Read kind) (_, refl, refl, refl) refl refl (spared kind) awaited_in_vain in
    unfinished kind m 2 x sent exchanges e at reply
