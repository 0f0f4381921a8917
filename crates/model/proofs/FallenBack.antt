-- Once a read has shown an unfinished write, a later read shows no older one.
use Rattle.std.proofs.Common.{◌≡◌, ℕ, ◌≤◌, ◌⊎◌, List, refl, ap, subst, inl, inr, arith}
use Rattle.std.specs.List.{AllByRecursion as All}
use Rattle.model.specs.Stamps.{Stamp, rank, no_stamp}
use Rattle.model.specs.State.{Held, unused}
use Rattle.model.specs.History.{History}
use Rattle.model.specs.Claims.{In, Finishes, Writes, Shows, Belongs, Row}
use Rattle.model.specs.Refuted.{value, first, second, second_read}
use Rattle.model.proofs.Ranks.{rank_next}
use Rattle.model.proofs.Slate.{before_trans, shown_after, shows_after, past, Tells, write_tells, read_tells}
use Rattle.model.proofs.Slate.{finish_tells, written, writes_from, ended, finish_at, write_at, read_at}

module _ (t : Stamp) (f : ℕ) where
  abbrev Figure : ℕ → ℕ → Type 0
  Figure n g = ((n ≡ 1) × (g ≡ 10)) ⊎ ((n ≡ 2) × (g ≡ 20))

  abbrev Stamps : ℕ → Stamp → Type 0
  Stamps n u = ((n ≡ 1) × (u ≡ first)) ⊎ ((n ≡ 2) × (u ≡ second))

  abbrev Ending : ℕ → Stamp → ℕ → Type 0
  Ending n u g =
      ((n ≡ 1) × (u ≡ first) × (g ≡ 10)) ⊎ (((n ≡ 3) × (u ≡ second) × (g ≡ 20)) ⊎ ((n ≡ 4) × (u ≡ t) × (g ≡ f)))

  abbrev h : History ℕ
  h = second_read t f

  all_tell : All (Tells Figure Stamps Ending) h
  all_tell = (
    write_tells Figure Stamps Ending 1 first 10 (inl (refl, refl)) (inl (refl, refl)),
    (
      finish_tells Figure Stamps Ending 1 first 10 (inl (refl, refl, refl)),
      (
        write_tells Figure Stamps Ending 2 second 20 (inr (refl, refl)) (inr (refl, refl)),
        (
          read_tells Figure Stamps Ending 3 0,
          (
            finish_tells Figure Stamps Ending 3 second 20 (inr (inl (refl, refl, refl))),
            (
              read_tells Figure Stamps Ending 4 1,
              (
                finish_tells Figure Stamps Ending 4 t f (inr (inr (refl, refl, refl))),
                tt,
              ),
            ),
          ),
        ),
      ),
    ),
  )

  writes : (n : ℕ) (x : Held ℕ) → Writes h n x → Figure n x.figure × Stamps n x.stamp
  writes = written Figure Stamps Ending h all_tell

  ends : (n : ℕ) (x : Held ℕ) → (m : ℕ) × Finishes h m n x → Ending n x.stamp x.figure
  ends = ended Figure Stamps Ending h all_tell

  shows_3 : Shows h 3 (value second 20)
  shows_3 = ((3, _, _, read_at h 3 3 0 refl), (4, finish_at h 3 4 second 20 refl))

  -- write 2 stands in the row since read 3 showed it
  belongs_2 : Belongs h 2
  belongs_2 = inr (
    λ (m, x, e). let u = ends 2 x (m, e) in omega arith,
    (value second 20, writes_from Figure Stamps Ending h all_tell 2 second 20 2 (λ u w. omega arith) refl, (3, shows_3)),
  )

  -- and before read 3, since nothing else puts a stamp above the first on the slate
  newer : (k : ℕ) (y : Held ℕ) → Writes h k y → (k ≡ 2) ⊎ (rank y.stamp ≤ rank first)
  newer k y w = elim (writes k y w).1 [
    | inl one ↦ inr (omega (arith, ap rank one.1))
    | inr two ↦ inl two.0
  ]

  second_above : (y : Held ℕ) → Shows h 3 y → rank y.stamp ≤ rank first → ⊥
  second_above y s o =
      let e = ends 3 y s.1 in
      let is_second : y.stamp ≡ second = omega arith in
      omega (arith, ap rank is_second, rank_next first)

  -- behind write 1, all that is written is write 2
  newest : (rest : List ℕ) → (In 1 rest → ⊥) → (k : ℕ) (y : Held ℕ) → In k rest → Writes h k y
      → (y.stamp ≡ second) × (y.figure ≡ 20)
  newest rest out k y i w = elim (writes k y w).0 [
    | inl one ↦ absurd (out (subst (λ (n : ℕ). In n rest) one.0 i))
    | inr two ↦ let u = (writes k y w).1 in omega arith
  ]

  reads_only : (n : ℕ) → 3 ≤ n → (y : Held ℕ) → Writes h n y → ⊥
  reads_only n b y w = let e = (writes n y w).0 in omega arith

  pub only_newest : Row 0 h → (t ≡ second) × (f ≡ 20)
  only_newest r =
      let in_1 = r.every 1 (inl (1, _, finish_at h 1 1 first 10 refl)) in
      let in_3 = r.every 3 (inl (4, _, finish_at h 3 4 second 20 refl)) in
      let in_4 = r.every 4 (inl (6, _, finish_at h 4 6 t f refl)) in
      let before_12 = r.in_time 1 2 in_1 (r.every 2 belongs_2)
      (1, 2, _, _, _, finish_at h 1 1 first 10 refl, write_at h 2 2 20 _ refl, omega arith) in
      let before_34 = r.in_time 3 4 in_3 in_4
      (4, 5, _, _, _, finish_at h 3 4 second 20 refl, read_at h 4 5 1 refl, omega arith) in
      let before_23 = shown_after h 3 (reads_only 3 (omega arith)) 2
      (λ y. rank y.stamp ≤ rank first) newer second_above
      r.row (unused 0) (omega (arith, rank_next no_stamp)) r.plays in_3 in
      let before_24 = before_trans 2 3 4 r.row r.once before_23 before_34 in
      let (rest, z, plays, out, before) =
      past h 1 2 4 (λ e. omega arith) r.row (unused 0) r.once r.plays before_12 before_24 in
      let (x, shows, new) = shows_after h 4 (reads_only 4 (omega arith)) (λ y. (y.stamp ≡ second) × (y.figure ≡ 20)) 2
      (λ y s. let e = ends 2 y s.1 in absurd (omega arith)) rest z (newest rest out) plays before in
      let shown = ends 4 x shows.1 in
      omega arith
