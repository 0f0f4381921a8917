-- What a row says of what its reads show, and what the events of a small history tell.
use Rattle.std.proofs.Common.{◌≡◌, ℕ, zero, suc, ◌⊎◌, List, [], ◌∷◌, sym, refl, ◌∙◌, subst, inl, inr, Ok}
use Rattle.std.specs.List.{AllByRecursion as All}
use Rattle.model.specs.declared.parties.Party.{Party}
use Rattle.model.specs.declared.messages.Message.{Message}
use Rattle.model.specs.declared.journal.OperationKind.{OperationKind}
use Rattle.model.specs.declared.journal.ReadKind.{ReadKind}
use Rattle.model.specs.declared.calls.Call.{Call}
use Rattle.model.specs.declared.answers.Reply.{Reply}
use Rattle.model.specs.Stamps.{Stamp}
use Rattle.model.specs.State.{Held}
use Rattle.model.specs.History.{Event, History}
use Rattle.model.specs.Claims.{At, In, Once, Before, Starts, Finishes, Put, Writes, Shows, Plays}
use Rattle.model.specs.Refuted.{value, put, write_starts, read_starts, finishes}

module _ {A : Type 0} where
  -- What holds of every item holds at each place.
  at_all : (P : A → Type 0) (l : List A) → All P l → (m : ℕ) (x : A) → At l m x → P x
  at_all P [] h m x a = absurd a
  at_all P (y ∷ l) h zero x a = subst P a h.0
  at_all P (y ∷ l) h (suc m) x a = at_all P l h.1 m x a

  before_in : (x y : A) (l : List A) → Before x y l → In y l
  before_in x y [] b = absurd b
  before_in x y (z ∷ l) (inl b) = inr b.1
  before_in x y (z ∷ l) (inr b) = inr (before_in x y l b)

  -- Of items that stand once
  not_again : (x z : A) (l : List A) → Once (z ∷ l) → z ≡ x → In x l → ⊥
  not_again x z l once e i = once.0 (rw e i)

  pub before_trans : (x y z : A) (l : List A) → Once l → Before x y l → Before y z l → Before x z l
  before_trans x y z [] once b c = absurd b
  before_trans x y z (w ∷ l) once (inl b) (inl c) = absurd (not_again y w l once c.0 b.1)
  before_trans x y z (w ∷ l) once (inl b) (inr c) = inl (b.0, before_in y z l c)
  before_trans x y z (w ∷ l) once (inr b) (inl c) = absurd (not_again y w l once c.0 (before_in x y l b))
  before_trans x y z (w ∷ l) once (inr b) (inr c) = inr (before_trans x y z l once.1 b c)

module _ {F : Type 0} (h : History F) (b : ℕ) (no_write : (y : Held F) → Writes h b y → ⊥) where
  -- Read b shows what only write n puts on the slate, so it stands behind write n.
  pub shown_after : (n : ℕ) (Other : Held F → Type 0) → ((k : ℕ) (y : Held F) → Writes h k y → (k ≡ n) ⊎ Other y)
      → ((y : Held F) → Shows h b y → Other y → ⊥)
      → (row : List ℕ) (x : Held F) → Other x → Plays h x row → In b row → Before n b row
  shown_after n Other only differs [] x o p i = absurd i
  shown_after n Other only differs (m ∷ row) x o (inl (y, w, p)) (inl e) =
      absurd (no_write y (subst (λ k. Writes h k y) e w))
  shown_after n Other only differs (m ∷ row) x o (inl (y, w, p)) (inr i) = elim (only m y w) [
    | inl e ↦ inl (e, i)
    | inr q ↦ inr (shown_after n Other only differs row y q p i)
  ]
  shown_after n Other only differs (m ∷ row) x o (inr (s, p)) (inl e) =
      absurd (differs x (subst (λ k. Shows h k x) e s) o)
  shown_after n Other only differs (m ∷ row) x o (inr (s, p)) (inr i) = inr (shown_after n Other only differs row x o p i)

  module _ (P : Held F → Type 0) where
    abbrev pub WritesOnly : List ℕ → Type 0
    WritesOnly row = (k : ℕ) (y : Held F) → In k row → Writes h k y → P y

    -- What is true of the slate, and of all that is written on it, is true of what read b showed.
    shows_so : (row : List ℕ) (x : Held F) → P x → WritesOnly row → Plays h x row → In b row
        → (z : Held F) × Shows h b z × P z
    shows_so [] x q all p i = absurd i
    shows_so (m ∷ row) x q all (inl (y, w, p)) (inl e) = absurd (no_write y (subst (λ k. Writes h k y) e w))
    shows_so (m ∷ row) x q all (inl (y, w, p)) (inr i) =
        shows_so row y (all m y (inl refl) w) (λ k z j. all k z (inr j)) p i
    shows_so (m ∷ row) x q all (inr (s, p)) (inl e) = (x, subst (λ k. Shows h k x) e s, q)
    shows_so (m ∷ row) x q all (inr (s, p)) (inr i) = shows_so row x q (λ k z j. all k z (inr j)) p i

    -- the same where write n, which stands before read b, makes it true
    pub shows_after : (n : ℕ) → ((y : Held F) → Shows h n y → P y)
        → (row : List ℕ) (x : Held F) → WritesOnly row → Plays h x row → Before n b row
        → (z : Held F) × Shows h b z × P z
    shows_after n shown [] x all p f = absurd f
    shows_after n shown (m ∷ row) x all (inl (y, w, p)) (inl f) =
        shows_so row y (all m y (inl refl) w) (λ k z j. all k z (inr j)) p f.1
    shows_after n shown (m ∷ row) x all (inr (s, p)) (inl f) =
        shows_so row x (shown x (subst (λ k. Shows h k x) f.0 s)) (λ k z j. all k z (inr j)) p f.1
    shows_after n shown (m ∷ row) x all (inl (y, w, p)) (inr f) = shows_after n shown row y (λ k z j. all k z (inr j)) p f
    shows_after n shown (m ∷ row) x all (inr (s, p)) (inr f) = shows_after n shown row x (λ k z j. all k z (inr j)) p f

-- Behind operation i, which stands before n and before nothing else of its kind, the row goes on without i.
pub past : {F : Type 0} (h : History F) (i n b : ℕ) → (i ≡ n → ⊥) → (row : List ℕ) (x : Held F) → Once row
    → Plays h x row → Before i n row → Before n b row
    → (rest : List ℕ) × (z : Held F) × Plays h z rest × (In i rest → ⊥) × Before n b rest
past h i n b apart [] x once p f g = absurd f
past h i n b apart (m ∷ row) x once p (inl f) (inl g) = absurd (apart (sym f.0 ∙ g.0))
past h i n b apart (m ∷ row) x once (inl (y, w, p)) (inl f) (inr g) = (row, y, p, not_again i m row once f.0, g)
past h i n b apart (m ∷ row) x once (inr (s, p)) (inl f) (inr g) = (row, x, p, not_again i m row once f.0, g)
past h i n b apart (m ∷ row) x once p (inr f) (inl g) = absurd (not_again n m row once g.0 (before_in i n row f))
past h i n b apart (m ∷ row) x once (inl (y, w, p)) (inr f) (inr g) = past h i n b apart row y once.1 p f g
past h i n b apart (m ∷ row) x once (inr (s, p)) (inr f) (inr g) = past h i n b apart row x once.1 p f g

-- EVENTS. Who did what in a history, by what each event of it tells: the figures and the stamps of the writes, and
-- what finishes with which stamp and figure.

module _ (Figure : ℕ → ℕ → Type 0) (Stamps : ℕ → Stamp → Type 0) (Ending : ℕ → Stamp → ℕ → Type 0) where
  pub record Tells (e : Event ℕ) : Type 0 where
    pub starts : (n f : ℕ) → e.call ≡ Call.Write f → e.reply ≡ Ok (Reply.Started n) → Figure n f
    pub stamps : (a : Message ℕ) → In a e.sent → Stamps a.operation a.stamp
    pub ends : (n : ℕ) (x : Held ℕ) (sent exchanges : ℕ)
        → e.reply ≡ Ok (Reply.Finished n x.stamp x.figure sent exchanges) → Ending n x.stamp x.figure

  pub write_tells : (n : ℕ) (t : Stamp) (f : ℕ) → Figure n f → Stamps n t → Tells (write_starts n f (put n t f ∷ []))
  write_tells n t f h g = record {
    starts = λ k v c r. let a : n ≡ k = cc in let b : f ≡ v = cc in rw (← a, ← b) h;
    stamps = λ a i. elim i [ inl e ↦ rw (← e) g | inr u ↦ absurd u ];
    ends = λ k x sent exchanges r. cc;
  }

  pub read_tells : (n r : ℕ) → Tells (read_starts n r)
  read_tells n r = record {
    starts = λ k v c q. cc;
    stamps = λ a i. absurd i;
    ends = λ k x sent exchanges q. cc;
  }

  pub finish_tells : (n : ℕ) (t : Stamp) (f : ℕ) → Ending n t f → Tells (finishes n t f)
  finish_tells n t f h = record {
    starts = λ k v c q. cc;
    stamps = λ a i. absurd i;
    ends = λ k x sent exchanges r.
        let a : n ≡ k = cc in
        let b : t ≡ x.stamp = cc in
        let c : f ≡ x.figure = cc in
        rw (← a, ← b, ← c) h;
  }

  module _ (h : History ℕ) (all : All Tells h) where
    stamped : (n : ℕ) (a : Message ℕ) → Put h n a → Stamps n a.stamp
    stamped n a (m, e, at, i, kind, own) = subst (λ k. Stamps k a.stamp) own ((at_all Tells h all m e at).stamps a i)

    pub written : (n : ℕ) (x : Held ℕ) → Writes h n x → Figure n x.figure × Stamps n x.stamp
    written n x (m, e, at, call, reply, ((a, of_n), same)) =
        ((at_all Tells h all m e at).starts n x.figure call reply, subst (Stamps n) (same a of_n) (stamped n a of_n))

    -- A write, by its start, where its number has one stamp.
    pub writes_from : (n : ℕ) (t : Stamp) (f m : ℕ) → ((u : Stamp) → Stamps n u → u ≡ t)
        → At h m (write_starts n f (put n t f ∷ [])) → Writes h n (value t f)
    writes_from n t f m one at = (
      m,
      _,
      at,
      refl,
      refl,
      ((put n t f, (m, _, at, inl refl, refl, refl)), λ a of_n. one a.stamp (stamped n a of_n)),
    )

    pub ended : (n : ℕ) (x : Held ℕ) → (m : ℕ) × Finishes h m n x → Ending n x.stamp x.figure
    ended n x (m, (e, place, sent, exchanges, at, call, reply)) = (at_all Tells h all m e at).ends n x sent exchanges reply

module _ (h : History ℕ) (n : ℕ) where
  pub finish_at : (m : ℕ) (t : Stamp) (f : ℕ) → At h m (finishes n t f) → Finishes h m n (value t f)
  finish_at m t f at = (_, 0, 2, 2, at, refl, refl)

  pub write_at : (m f : ℕ) (sent : List (Message ℕ)) → At h m (write_starts n f sent)
      → Starts h m n Party.Writer OperationKind.Write
  write_at m f sent at = (_, at, refl, refl)

  pub read_at : (m r : ℕ) → At h m (read_starts n r) → Starts h m n (Party.Reader r) (OperationKind.Read ReadKind.Quick)
  read_at m r at = (_, at, refl, refl)
