-- Behind two finished writes a read shows the last.
use Rattle.std.proofs.Common.{◌≡◌, ℕ, ◌⊎◌, List, refl, subst, inl, inr, arith}
use Rattle.std.specs.List.{AllByRecursion as All}
use Rattle.model.specs.Stamps.{Stamp}
use Rattle.model.specs.State.{Held, unused}
use Rattle.model.specs.History.{History}
use Rattle.model.specs.Claims.{In, Finishes, Writes, Row}
use Rattle.model.specs.Refuted.{first, second, read_after_two}
use Rattle.model.proofs.Slate.{shows_after, past, Tells, write_tells, read_tells}
use Rattle.model.proofs.Slate.{finish_tells, written, ended, finish_at, write_at, read_at}

module _ (t : Stamp) (f : ℕ) where
  abbrev Figure : ℕ → ℕ → Type 0
  Figure n g = ((n ≡ 1) × (g ≡ 10)) ⊎ ((n ≡ 2) × (g ≡ 20))

  abbrev Stamps : ℕ → Stamp → Type 0
  Stamps n u = ((n ≡ 1) × (u ≡ first)) ⊎ ((n ≡ 2) × (u ≡ second))

  abbrev Ending : ℕ → Stamp → ℕ → Type 0
  Ending n u g =
      ((n ≡ 1) × (u ≡ first) × (g ≡ 10)) ⊎ (((n ≡ 2) × (u ≡ second) × (g ≡ 20)) ⊎ ((n ≡ 3) × (u ≡ t) × (g ≡ f)))

  abbrev h : History ℕ
  h = read_after_two t f

  all_tell : All (Tells Figure Stamps Ending) h
  all_tell = (
    write_tells Figure Stamps Ending 1 first 10 (inl (refl, refl)) (inl (refl, refl)),
    (
      finish_tells Figure Stamps Ending 1 first 10 (inl (refl, refl, refl)),
      (
        write_tells Figure Stamps Ending 2 second 20 (inr (refl, refl)) (inr (refl, refl)),
        (
          finish_tells Figure Stamps Ending 2 second 20 (inr (inl (refl, refl, refl))),
          (
            read_tells Figure Stamps Ending 3 0,
            (
              finish_tells Figure Stamps Ending 3 t f (inr (inr (refl, refl, refl))),
              tt,
            ),
          ),
        ),
      ),
    ),
  )

  writes : (n : ℕ) (x : Held ℕ) → Writes h n x → Figure n x.figure × Stamps n x.stamp
  writes = written Figure Stamps Ending h all_tell

  ends : (n : ℕ) (x : Held ℕ) → (m : ℕ) × Finishes h m n x → Ending n x.stamp x.figure
  ends = ended Figure Stamps Ending h all_tell

  -- behind write 1, all that is written is write 2
  newest : (rest : List ℕ) → (In 1 rest → ⊥) → (k : ℕ) (y : Held ℕ) → In k rest → Writes h k y
      → (y.stamp ≡ second) × (y.figure ≡ 20)
  newest rest out k y i w = elim (writes k y w).0 [
    | inl one ↦ absurd (out (subst (λ (n : ℕ). In n rest) one.0 i))
    | inr two ↦ let u = (writes k y w).1 in omega arith
  ]

  pub only_last : Row 0 h → (t ≡ second) × (f ≡ 20)
  only_last r =
      let in_1 = r.every 1 (inl (1, _, finish_at h 1 1 first 10 refl)) in
      let in_2 = r.every 2 (inl (3, _, finish_at h 2 3 second 20 refl)) in
      let in_3 = r.every 3 (inl (5, _, finish_at h 3 5 t f refl)) in
      let before_12 = r.in_time 1 2 in_1 in_2
      (1, 2, _, _, _, finish_at h 1 1 first 10 refl, write_at h 2 2 20 _ refl, omega arith) in
      let before_23 = r.in_time 2 3 in_2 in_3
      (3, 4, _, _, _, finish_at h 2 3 second 20 refl, read_at h 3 4 0 refl, omega arith) in
      let (rest, z, plays, out, before) =
      past h 1 2 3 (λ e. omega arith) r.row (unused 0) r.once r.plays before_12 before_23 in
      let (x, shows, new) = shows_after h 3 (λ y w. let e = (writes 3 y w).0 in omega arith)
      (λ y. (y.stamp ≡ second) × (y.figure ≡ 20)) 2
      (λ y s. let e = ends 2 y s.1 in omega arith) rest z (newest rest out) plays before in
      let shown = ends 3 x shows.1 in
      omega arith
