-- No read shows a write that starts after the read has finished.
use Rattle.std.proofs.Common.{◌≡◌, ℕ, ◌≤◌, ◌⊎◌, List, [], ◌∷◌, refl, ap, inl, inr, arith}
use Rattle.std.specs.List.{AllByRecursion as All}
use Rattle.model.specs.Stamps.{Stamp, rank, no_stamp}
use Rattle.model.specs.State.{Held, unused}
use Rattle.model.specs.Claims.{Once, Before, Finishes, Writes, Shows, Row}
use Rattle.model.specs.Refuted.{first, read_ahead}
use Rattle.model.proofs.Ranks.{rank_next}
use Rattle.model.proofs.Slate.{before_trans, shown_after, Tells, write_tells, read_tells}
use Rattle.model.proofs.Slate.{finish_tells, written, ended, finish_at, write_at}

not_before_itself : {A : Type 0} (x : A) (l : List A) → Once l → Before x x l → ⊥
not_before_itself x [] once b = absurd b
not_before_itself x (z ∷ l) once (inl b) = once.0 (rw (b.0) (b.1))
not_before_itself x (z ∷ l) once (inr b) = not_before_itself x l once.1 b

abbrev Figure : ℕ → ℕ → Type 0
Figure n g = (n ≡ 2) × (g ≡ 10)

abbrev Stamps : ℕ → Stamp → Type 0
Stamps n u = (n ≡ 2) × (u ≡ first)

abbrev Ending : ℕ → Stamp → ℕ → Type 0
Ending n u g = ((n ≡ 1) × (u ≡ first)) ⊎ ((n ≡ 2) × (u ≡ first))

all_tell : All (Tells Figure Stamps Ending) read_ahead
all_tell = (
  read_tells Figure Stamps Ending 1 0,
  (
    finish_tells Figure Stamps Ending 1 first 10 (inl (refl, refl)),
    (
      write_tells Figure Stamps Ending 2 first 10 (refl, refl) (refl, refl),
      (
        finish_tells Figure Stamps Ending 2 first 10 (inr (refl, refl)),
        tt,
      ),
    ),
  ),
)

writes : (n : ℕ) (x : Held ℕ) → Writes read_ahead n x → Figure n x.figure × Stamps n x.stamp
writes = written Figure Stamps Ending read_ahead all_tell

ends : (n : ℕ) (x : Held ℕ) → (m : ℕ) × Finishes read_ahead m n x → Ending n x.stamp x.figure
ends = ended Figure Stamps Ending read_ahead all_tell

new : (y : Held ℕ) → Shows read_ahead 1 y → rank y.stamp ≤ rank no_stamp → ⊥
new y s o =
    let e = ends 1 y s.1 in
    let is_first : y.stamp ≡ first = omega arith in
    omega (arith, ap rank is_first, rank_next no_stamp)

pub never_ahead : Row 0 read_ahead → ⊥
never_ahead r =
    let in_1 = r.every 1 (inl (1, _, finish_at read_ahead 1 1 first 10 refl)) in
    let in_2 = r.every 2 (inl (3, _, finish_at read_ahead 2 3 first 10 refl)) in
    let before_12 = r.in_time 1 2 in_1 in_2
    (1, 2, _, _, _, finish_at read_ahead 1 1 first 10 refl, write_at read_ahead 2 2 10 _ refl, omega arith) in
    let before_21 = shown_after read_ahead 1 (λ y w. let e = writes 1 y w in omega arith) 2
    (λ y. rank y.stamp ≤ rank no_stamp) (λ k y w. inl (writes k y w).0.0) new
    r.row (unused 0) (omega arith) r.plays in_1 in
    not_before_itself 1 r.row r.once (before_trans 1 2 1 r.row r.once before_12 before_21)
