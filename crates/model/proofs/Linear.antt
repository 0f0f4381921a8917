-- What is known at the end of a history puts its operations in a row.
use Rattle.std.proofs.Common.{◌≡◌, ℕ, zero, suc, ◌+◌, ◌<◌, ◌≤◌, max, Bool, true, false, not, ◌&&◌, ◌||◌, eqb, leb, ◌⊎◌, List, sym, ap, ◌∙◌, subst, inl, inr, arith}
use Rattle.std.proofs.lemmas.Bool.{cases_eq, cases_lt, both_ways, eqb-true, or_cases, not-true, not_from_false, and_parts, and_from, or_left, or_right, leb-true, le-leb, eq-eqb}
use Rattle.quorum.specs.Sets.{Rule}
use Rattle.quorum.specs.Laws.{Lawful}
use Rattle.model.specs.State.{State, unused}
use Rattle.model.specs.History.{History}
use Rattle.model.specs.Claims.{In, Once, Before, Precedes, Shows, Belongs, Plays, Row}
use Rattle.model.proofs.Rows.{Pairwise, pairwise_weaker, either_way, at_before, Le, arrange, arranged, arranges, once_arrange, le_arrange, Fits, Source, Ready, row_plays}
use Rattle.model.proofs.World.{held, Op, World}
use Rattle.model.proofs.Good.{shown, Good}
use Rattle.model.proofs.Tellings.{ends_at, begins_at, writes, shows, write_is, read_is}

-- Some number up to n passes.
some : (ℕ → Bool) → ℕ → Bool
some p zero = p zero
some p (suc n) = p (suc n) || some p n

some_true : (p : ℕ → Bool) (n : ℕ) → some p n ≡ true → (k : ℕ) × (p k ≡ true)
unfolding some
some_true p zero e = (zero, e)
some_true p (suc n) e = elim (or_cases (p (suc n)) (some p n) e) [ inl a ↦ (suc n, a) | inr b ↦ some_true p n b ]

true_some : (p : ℕ → Bool) (n k : ℕ) → k ≤ n → p k ≡ true → some p n ≡ true
unfolding some
true_some p zero k l e = ap p (sym (zero_is k l)) ∙ e
  where
    zero_is : (k : ℕ) → k ≤ zero → k ≡ zero
    zero_is k l = omega arith
true_some p (suc n) k l e = elim (cases_eq k (suc n)) [
  | inl d ↦ or_left (p (suc n)) (some p n) (ap p (sym d) ∙ e)
  | inr d ↦ or_right (p (suc n)) (some p n) (true_some p n k (omega arith) e)
]

abbrev late : Bool → ℕ
late true = 1
late false = 0

module _ {F : Type 0} (q : Rule) (R : ℕ) (law : Lawful q) (start : F) (w : World F) (s : State F) (h : History F)
    (g : Good q R start w s h) where
  abbrev reads_of : ℕ → Bool
  reads_of j = (w.ops j).reading

  abbrev aim_of : ℕ → ℕ
  aim_of j = (w.ops j).aim

  abbrev op : ℕ → Op
  op = w.ops

  abbrev point : ℕ → ℕ
  point j = max (op j).begun (w.since (op j).aim)

  abbrev key : ℕ → ℕ
  key j = (op j).aim + (op j).aim + late (op j).reading

  abbrev answers : ℕ → ℕ → Bool
  answers t i = leb 3 (op i).stage && ((op i).reading && eqb (op i).aim t)

  abbrev keep : ℕ → Bool
  keep j =
      leb 3 (op j).stage ||
      (leb 2 (op j).stage && (not (op j).reading && some (answers (op j).aim) w.count))

  row : List ℕ
  row = arrange point key keep w.count

  -- An operation of the row.
  record Kept (j : ℕ) : Type 0 where
    settled : 2 ≤ (op j).stage
    held_aim : held q w.at (op j).aim ≡ true
    why : (3 ≤ (op j).stage) ⊎ (((op j).stage ≤ 2) × ((op j).reading ≡ false) × ((i : ℕ) × (3 ≤ (op i).stage) × ((op i).reading ≡ true) × ((op i).aim ≡ (op j).aim)))

  answered : (t i : ℕ) → answers t i ≡ true → (3 ≤ (op i).stage) × ((op i).reading ≡ true) × ((op i).aim ≡ t)
  answered t i e =
      let a = and_parts (leb 3 (op i).stage) ((op i).reading && eqb (op i).aim t) e in
      let b = and_parts (op i).reading (eqb (op i).aim t) a.1 in
      (leb-true 3 (op i).stage a.0, b.0, eqb-true (op i).aim t b.1)

  kept : (j : ℕ) → keep j ≡ true → Kept j
  kept j e = elim (or_cases (leb 3 (op j).stage) (leb 2 (op j).stage && (not (op j).reading && some (answers (op j).aim) w.count)) e) [
    | inl a ↦ let l =
        leb-true 3 (op j).stage a in record {
          settled = omega arith;
          held_aim = (g.core.op j).kept l;
          why = inl l;
        }
    | inr a ↦
        let b = and_parts (leb 2 (op j).stage) (not (op j).reading && some (answers (op j).aim) w.count) a
        in
        let c = and_parts (not (op j).reading) (some (answers (op j).aim) w.count) b.1 in
        let r = not-true (op j).reading c.0 in
        let i = some_true (answers (op j).aim) w.count c.1 in
        let k = answered (op j).aim i.0 i.1 in
        record {
          settled = leb-true 2 (op j).stage b.0;
          held_aim = subst (λ t. held q w.at t ≡ true) k.2 ((g.core.op i.0).kept k.0);
          why = elim (cases_lt (op j).stage 3) [
            | inl z ↦ inr (omega arith, r, (i.0, k.0, k.1, k.2))
            | inr z ↦ inl z
          ];
        }
  ]

  keep_over : (j : ℕ) → 3 ≤ (op j).stage → keep j ≡ true
  keep_over j l = or_left (leb 3 (op j).stage) _ (le-leb 3 (op j).stage l)

  keep_seen : (j i : ℕ) → 2 ≤ (op j).stage → (op j).reading ≡ false → 3 ≤ (op i).stage → (op i).reading ≡ true
      → (op i).aim ≡ (op j).aim → keep j ≡ true
  keep_seen j i b r l x a =
      or_right (leb 3 (op j).stage) _
      (and_from (leb 2 (op j).stage) _ (le-leb 2 (op j).stage b)
      (and_from (not (op j).reading) _ (not_from_false (op j).reading r)
      (true_some (answers (op j).aim) w.count i ((g.core.op i).counted (omega arith))
      (and_from (leb 3 (op i).stage) _ (le-leb 3 (op i).stage l)
      (and_from (op i).reading _ x (eq-eqb (op i).aim (op j).aim a))))))

  in_row : (j : ℕ) → In j row → Kept j
  unfolding row
  in_row j i = kept j (arranged point key keep w.count j i).2

  to_row : (j : ℕ) → 1 ≤ (op j).stage → keep j ≡ true → In j row
  unfolding row
  to_row j b e = arranges point key keep w.count j ((g.core.op j).named b) ((g.core.op j).counted b) e

  -- A write's point is when its stamp came to be held.
  write_point : (j : ℕ) → Kept j → (op j).reading ≡ false → (op j).begun ≤ w.since (op j).aim
  write_point j k r =
      let b : 1 ≤ (op j).stage = omega (arith, k.settled) in
      (g.core.op j).fresh_since b (op j).aim ((g.core.op j).write_aim k.settled r (op j).aim (omega arith))
      k.held_aim

  late_true : (j : ℕ) → (op j).reading ≡ true → late (op j).reading ≡ 1
  late_true j e = ap late e

  late_false : (j : ℕ) → (op j).reading ≡ false → late (op j).reading ≡ 0
  late_false j e = ap late e

  module _ (x y : ℕ) (kx : Kept x) (ky : Kept y) (n : x ≡ y → ⊥) (le : Le point key x y) where
    aims_differ : (op x).reading ≡ false → (op y).reading ≡ false → (op x).aim ≡ (op y).aim → ⊥
    aims_differ a b e =
        n
        (sym ((g.core.op x).write_own kx.settled a) ∙ ap w.wrote e ∙ (g.core.op y).write_own ky.settled b)

    write_write : (op x).reading ≡ false → (op y).reading ≡ false → (op x).aim < (op y).aim
    write_write a b = elim (cases_lt (op x).aim (op y).aim) [
      | inl l ↦ l
      | inr l ↦ absurd (aims_differ a b (omega (arith, le.points, le.ranks, late_false x a, late_false y b, write_point x kx a, write_point y ky b, g.core.paced (op y).aim (op x).aim l kx.held_aim)))
    ]

    write_read : (op x).reading ≡ false → (op y).reading ≡ true → (op x).aim ≤ (op y).aim
    write_read a b = elim (cases_lt (op y).aim (op x).aim) [
      | inr l ↦ l
      | inl l ↦
          let u = (g.core.op y).read_aim ky.settled b (op x).aim l in
          let f = (g.core.op y).fresh_since (omega (arith, ky.settled)) (op x).aim u kx.held_aim in
          omega (
            arith,
            le.points,
            le.ranks,
            late_false x a,
            late_true y b,
            f,
            g.core.paced (op y).aim (op x).aim
                (omega arith) kx.held_aim,
          )
    ]

    read_write : (op x).reading ≡ true → (op y).reading ≡ false → (op x).aim < (op y).aim
    read_write a b = elim (cases_lt (op x).aim (op y).aim) [
      | inl l ↦ l
      | inr l ↦ omega (arith, le.points, le.ranks, late_true x a, late_false y b, write_point y ky b, g.core.paced (op y).aim (op x).aim l kx.held_aim)
    ]

    fits : Fits reads_of aim_of x y
    fits = record { write_write = write_write; write_read = write_read; read_write = read_write }

  once : Once row
  unfolding row
  once = once_arrange point key keep w.count

  pairs_le : Pairwise (Le point key) row
  unfolding row
  pairs_le = le_arrange point key keep w.count

  pairs : Pairwise (Fits reads_of aim_of) row
  pairs =
      pairwise_weaker (Le point key) (Fits reads_of aim_of) row once
      (λ x y i j n l. fits x y (in_row x i) (in_row y j) n l) pairs_le

  -- A read showed a write of the row, or the start.
  source : (n : ℕ) → In n row → (op n).reading ≡ true → (0 ≡ (op n).aim) ⊎ Source reads_of aim_of n row
  source n i r =
      let k = in_row n i in
      elim (cases_eq (op n).aim 0) [
        | inl z ↦ inl (sym z)
        | inr z ↦ elim k.why [
          | inr f ↦ absurd (both_ways (op n).reading f.1 r)
          | inl l ↦
              let a = w.wrote (op n).aim in
              let o = g.core.source (op n).aim (((g.core.op n).aim_written k.settled).by_one (omega arith)) in
              let b : 2 ≤ (op a).stage = o.settled in
              let m = to_row a (omega arith) (keep_seen a n b o.writing l r (sym o.aims)) in
              inr (a, m, o.writing, o.aims)
        ]
      ]

  ready : Ready reads_of aim_of 0 row
  ready = record {
    pairs = pairs;
    later = λ n i e. let k = in_row n i in (g.core.op n).write_positive k.settled e;
    source = source;
  }

  plays : Plays h (unused start) row
  plays = subst (λ y. Plays h y row) g.first_value
      (row_plays reads_of aim_of h w.value 0 row ready
      (λ n i r. writes q R law start w s h g n (in_row n i).settled r)
      (λ n i r. elim (in_row n i).why
      [ inl l ↦ shows q R law start w s h g n l r | inr f ↦ absurd (both_ways (op n).reading f.1 r) ]))

  only : (n : ℕ) → In n row → Belongs h n
  only n i =
      let k = in_row n i in
      elim k.why [
        | inl l ↦ inl ((op n).ended, shown w n, g.ended n l)
        | inr r ↦
            let j = r.2 in
            inr (
              (λ f. let y = ends_at q R law start w s h g f.0 n f.1 f.2 in omega (arith, y.stage_is, r.0)),
              (
                shown w n,
                writes q R law start w s h g n k.settled r.1,
                (
                  j.0,
                  subst (λ t. Shows h j.0 (w.value t)) j.3
                      (shows q R law start w s h g j.0 j.1 j.2),
                ),
              ),
            )
      ]

  every : (n : ℕ) → Belongs h n → In n row
  every n (inl f) = let y = ends_at q R law start w s h g f.0 n f.1 f.2 in to_row n (omega (arith, y.stage_is)) (keep_over n y.stage_is)
  every n (inr d) =
      let x = d.1.0 in
      let v = write_is q R law start w s h g n x d.1.1 in
      let i = d.1.2.0 in
      let sh = d.1.2.1 in
      let y = ends_at q R law start w s h g sh.1.0 i x sh.1.1 in
      to_row n (omega (arith, v.0))
      (keep_seen n i v.0 v.1 y.stage_is (read_is q R law start w s h g i x sh) (y.aim_is ∙ v.2))

  in_time : (i j : ℕ) → In i row → In j row → Precedes h i j → Before i j row
  in_time i j p r v =
      let x = ends_at q R law start w s h g v.0 i v.2 v.5 in
      let y = begins_at q R law start w s h g v.1 v.6.0 j v.6.1 v.6.3 in
      let l = v.7 in
      let e = (g.core.op i).ended_after x.stage_is in
      let o = (g.core.op i).kept_since x.stage_is in
      elim (either_way row i j (λ d. omega (arith, x.ended_is, y.begun_is, ap (λ z. (op z).begun) d)) p r) [
        | inl c ↦ c
        | inr c ↦ let n =
            at_before (Le point key) row j i pairs_le c in absurd (omega (arith, n.points, x.ended_is, y.begun_is))
      ]

  pub in_a_row : Row start h
  in_a_row = record { row = row; once = once; only = only; every = every; in_time = in_time; plays = plays }
