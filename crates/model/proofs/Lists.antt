-- Lists as tables.
use Rattle.std.proofs.Common.{◌≡◌, ℕ, zero, suc, ◌<◌, ◌≤◌, ◌⊎◌, List, [], ◌∷◌, ◌++◌, length, get_or, set, replicate, sym, refl, ap, ◌∙◌, subst, inl, inr, arith}
use Rattle.std.specs.List.{AllByRecursion as All}
use Rattle.std.proofs.lemmas.Bool.{cases_eq}
use Rattle.std.proofs.lemmas.List.{get_or_past}
use Rattle.std.proofs.ByRecursion.{All-push}
use Rattle.model.specs.declared.parties.Party.{Party}
use Rattle.model.specs.declared.messages.MessageKind.{MessageKind}
use Rattle.model.specs.declared.messages.Message.{Message}
use Rattle.model.specs.State.{Held, without}
use Rattle.model.specs.Deliveries.{to_all}
use Rattle.model.specs.Claims.{At, In}

module _ {A : Type 0} where
  -- Place i now holds x.
  pub each_set : (P : ℕ → A → Type 0) (l : List A) (i : ℕ) (x d : A) → P i x → (length l ≤ i → P i d)
      → ((k : ℕ) → (k ≡ i → ⊥) → P k (get_or l k d)) → (k : ℕ) → P k (get_or (set l i x) k d)
  each_set P [] zero x d h u o zero = u (omega arith)
  each_set P [] (suc i) x d h u o zero = o zero (λ e. omega arith)
  each_set P [] zero x d h u o (suc k) = o (suc k) (λ e. omega arith)
  each_set P [] (suc i) x d h u o (suc k) =
      each_set (λ n. P (suc n)) [] i x d h (λ _. u (omega arith)) (λ n e. o (suc n) (λ s. e (omega arith))) k
  each_set P (y ∷ l) zero x d h u o zero = h
  each_set P (y ∷ l) zero x d h u o (suc k) = o (suc k) (λ e. omega arith)
  each_set P (y ∷ l) (suc i) x d h u o zero = o zero (λ e. omega arith)
  each_set P (y ∷ l) (suc i) x d h u o (suc k) =
      each_set (λ n. P (suc n)) l i x d h (λ b. u (omega arith)) (λ n e. o (suc n) (λ s. e (omega arith))) k

  pub each_set_all : (P : ℕ → A → Type 0) (l : List A) (i : ℕ) (x d : A) → P i x → ((k : ℕ) → P k (get_or l k d))
      → (k : ℕ) → P k (get_or (set l i x) k d)
  each_set_all P l i x d h o = each_set P l i x d h (λ u. subst (P i) (get_or_past l i d u) (o i)) (λ k _. o k)

  pub each_replicate : (P : ℕ → A → Type 0) (n : ℕ) (x d : A) → ((k : ℕ) → P k x) → ((k : ℕ) → P k d) → (k : ℕ)
      → P k (get_or (replicate n x) k d)
  each_replicate P zero x d h u k = u k
  each_replicate P (suc n) x d h u zero = h zero
  each_replicate P (suc n) x d h u (suc k) = each_replicate (λ i. P (suc i)) n x d (λ i. h (suc i)) (λ i. u (suc i)) k

  pub length_push : (l : List A) (x : A) → length (l ++ x ∷ []) ≡ suc (length l)
  length_push [] x = refl
  length_push (y ∷ l) x = ap suc (length_push l x)

  pub at_old : (l : List A) (x : A) (m : ℕ) (y : A) → At l m y → At (l ++ x ∷ []) m y
  at_old [] x m y s = absurd s
  at_old (z ∷ l) x zero y s = s
  at_old (z ∷ l) x (suc m) y s = at_old l x m y s

  pub at_new : (l : List A) (x : A) → At (l ++ x ∷ []) (length l) x
  at_new [] x = refl
  at_new (z ∷ l) x = at_new l x

  pub at_cases : (l : List A) (x : A) (m : ℕ) (y : A) → At (l ++ x ∷ []) m y → At l m y ⊎ ((m ≡ length l) × (x ≡ y))
  at_cases [] x zero y s = inr (refl, s)
  at_cases [] x (suc m) y s = absurd s
  at_cases (z ∷ l) x zero y s = inl s
  at_cases (z ∷ l) x (suc m) y s = elim (at_cases l x m y s) [ inl o ↦ inl o | inr n ↦ inr (ap suc n.0, n.1) ]

  pub at_same : (l : List A) (m : ℕ) (x y : A) → At l m x → At l m y → x ≡ y
  at_same [] m x y a b = absurd a
  at_same (z ∷ l) zero x y a b = sym a ∙ b
  at_same (z ∷ l) (suc m) x y a b = at_same l m x y a b

  pub all_without : (P : A → Type 0) (l : List A) (i : ℕ) → All P l → All P (without l i)
  unfolding without
  all_without P [] i h = tt
  all_without P (x ∷ l) zero h = h.1
  all_without P (x ∷ l) (suc i) h = (h.0, all_without P l i h.1)

  pub all_in : (P : A → Type 0) (l : List A) (x : A) → All P l → In x l → P x
  all_in P [] x h i = absurd i
  all_in P (y ∷ l) x h (inl e) = subst P e h.0
  all_in P (y ∷ l) x h (inr i) = all_in P l x h.1 i

  pub in_left : (l t : List A) (x : A) → In x l → In x (l ++ t)
  in_left [] t x i = absurd i
  in_left (y ∷ l) t x (inl e) = inl e
  in_left (y ∷ l) t x (inr i) = inr (in_left l t x i)

  pub in_right : (l t : List A) (x : A) → In x t → In x (l ++ t)
  in_right [] t x i = i
  in_right (y ∷ l) t x i = inr (in_right l t x i)

  pub in_without : (l : List A) (p : ℕ) (d x : A) → In x l → In x (without l p) ⊎ (x ≡ get_or l p d)
  unfolding without
  in_without [] p d x i = absurd i
  in_without (y ∷ l) zero d x (inl e) = inr (sym e)
  in_without (y ∷ l) zero d x (inr i) = inl i
  in_without (y ∷ l) (suc p) d x (inl e) = inl (inl e)
  in_without (y ∷ l) (suc p) d x (inr i) = elim (in_without l p d x i) [ inl a ↦ inl (inr a) | inr b ↦ inr b ]

module _ {F : Type 0} (kind : MessageKind) (n : ℕ) (from : Party) (x : Held F) where
  abbrev pub one : ℕ → Message F
  one c = record {
    kind = kind;
    operation = n;
    sender = from;
    receiver = Party.Replica c;
    stamp = x.stamp;
    figure = x.figure;
  }

  pub all_to_all : (P : Message F → Type 0) (size : ℕ) → ((c : ℕ) → c < size → P (one c))
      → All P (to_all size kind n from x)
  unfolding to_all
  all_to_all P zero h = tt
  all_to_all P (suc size) h =
      All-push P (to_all size kind n from x) _ (all_to_all P size (λ c l. h c (omega arith))) (h size (omega arith))

  pub in_to_all : (size c : ℕ) → c < size → In (one c) (to_all size kind n from x)
  unfolding to_all
  in_to_all zero c l = absurd (omega arith)
  in_to_all (suc size) c l = go (to_all size kind n from x) (in_to_all size c)
    where
      go : (t : List (Message F)) → (c < size → In (one c) t) → In (one c) (t ++ one size ∷ [])
      go t i = elim (cases_eq c size) [
        | inl e ↦ in_right t (one size ∷ []) (one c) (inl (ap one (sym e)))
        | inr e ↦ in_left t (one size ∷ []) (one c) (i (omega arith))
      ]
