-- A table that begins somewhere in a buffer.
use Rattle.std.proofs.Common.{◌≡◌, ℕ, zero, suc, ◌+◌, ◌-◌, ◌<◌, ◌≤◌, List, [], ◌∷◌, ◌++◌, length, take, drop, sym, refl, ap, ◌∙◌, one-add, arith, length-drop, length-take-le, take_all, take-take, drop-drop, drop_at}
use lib.Seq.{paste, take-append-le, drop-append-le}
use borrow.Rule.Slice.PartMut.{put_mid}
use Rattle.model.specs.State.{stored, without}
use Rattle.steps.specs.Queueing.{window}
use Rattle.steps.proofs.Fronts.{without_is, length_without}
use Rattle.steps.proofs.Opening.{take_stored}

module _ {A : Type 0} where
  -- those before a place moved back by one
  pub moved_back : (xs : List A) (at : ℕ) → at < length xs → drop 1 (paste xs 1 xs at) ≡ without xs at
  moved_back [] at lt = absurd (omega arith)
  moved_back (x ∷ xs) at lt =
      ap (λ (k : ℕ). take at (x ∷ xs) ++ drop k (x ∷ xs)) (one-add at) ∙ sym (without_is (x ∷ xs) at lt)

  front : (xs : List A) (u at : ℕ) → at ≤ u → suc u ≤ length xs → take u (without xs at) ≡ without (take (suc u) xs) at
  unfolding without
  front [] u at le fits = absurd (omega arith)
  front (x ∷ xs) u zero le fits = refl
  front (x ∷ xs) zero (suc at) le fits = absurd (omega arith)
  front (x ∷ xs) (suc u) (suc at) le fits = ap (λ (l : List A). x ∷ l) (front xs u at (omega arith) (omega arith))

  -- what is taken out of a list is taken out of its front
  without_front : (xs : List A) (used at : ℕ) → at < used → used ≤ length xs
      → take (used - 1) (without xs at) ≡ without (take used xs) at
  without_front xs used at lt le =
      let u : ℕ = used - 1 in
      let e : used ≡ suc u = omega arith in
      front xs u at (omega arith) (omega arith) ∙ ap (λ (k : ℕ). without (take k xs) at) (sym e)

  -- a part of a buffer that was lent, from a on, and came back as ys
  pub part_front : (a k n : ℕ) (xs ys : List A) → a ≤ length xs → n ≤ length ys → take n (drop a (put_mid a k xs ys)) ≡ take n ys
  part_front a k n xs ys le fits =
      ap (λ (l : List A). take n l) (drop_at (take a xs) (ys ++ drop k (drop a xs)) a (length-take-le a xs le))
      ∙ take-append-le n ys (drop k (drop a xs)) fits

  module _ (xs : List A) (head used at : ℕ) (lt : at < used) (le : head + used ≤ length xs) where
    there : used ≤ length (drop head xs)
    there = omega (arith, length-drop head xs)

    -- the later ones moved up
    pub taken_up : (k : ℕ) (ys : List A) → ys ≡ stored (without (take used (drop head xs)) at) (drop head xs) → length ys ≡ length (drop head xs)
        → take (used - 1) (drop head (put_mid head k xs ys)) ≡ without (take used (drop head xs)) at
    taken_up k ys is long =
        let w = length-take-le used (drop head xs) there in
        let l = length_without (take used (drop head xs)) at (omega arith) in
        part_front head k (used - 1) xs ys (omega arith) (omega (arith, there))
        ∙ ap (λ (l : List A). take (used - 1) l) is
        ∙ take_stored (without (take used (drop head xs)) at) (drop head xs) (used - 1) (omega arith)

    -- the earlier ones moved back
    pub taken_back : (k : ℕ) (ys : List A) → drop 1 ys ≡ without (drop head xs) at → length ys ≡ length (drop head xs)
        → take (used - 1) (drop (head + 1) (put_mid head k xs ys)) ≡ without (take used (drop head xs)) at
    taken_back k ys is long =
        let d = length-drop 1 ys in
        ap (λ (l : List A). take (used - 1) l)
        (sym (drop-drop 1 head (put_mid head k xs ys))
        ∙ ap (λ (l : List A). drop 1 l) (drop_at (take head xs) (ys ++ drop k (drop head xs)) head (length-take-le head xs (omega arith)))
        ∙ drop-append-le 1 ys (drop k (drop head xs)) (omega (arith, there)))
        ∙ take-append-le (used - 1) (drop 1 ys) (drop k (drop head xs)) (omega (arith, there))
        ∙ ap (λ (l : List A). take (used - 1) l) is
        ∙ without_front (drop head xs) used at lt there

  -- A TABLE LENT OUT OF A BUFFER

  -- it is where it was
  pub window_back : (head room k : ℕ) (xs ys : List A) → head ≤ length xs → length ys ≡ room
      → window head room (put_mid head k xs ys) ≡ ys
  window_back head room k xs ys le long =
      part_front head k room xs ys le (omega arith) ∙ take_all room ys (omega arith)

  -- the first of it, without what was taken out
  pub window_gone : (xs ys : List A) (head next room k used at : ℕ) → k ≡ room → used ≤ room
      → take (used - 1) (drop next ys) ≡ without (take used (drop head xs)) at
      → take (used - 1) (take k (drop next ys)) ≡ without (take used (window head room xs)) at
  window_gone xs ys head next room k used at e le gone =
      ap (λ (i : ℕ). take (used - 1) (take i (drop next ys))) e
      ∙ take-take (used - 1) room (drop next ys) (omega arith) ∙ gone
      ∙ ap (λ (l : List A). without l at) (sym (take-take used room (drop head xs) le))

  pub part_long : (xs : List A) (head room : ℕ) → head + room ≤ length xs → length (take (head + room - head) (drop head xs)) ≡ room
  part_long xs head room le =
      let d = length-drop head xs in
      length-take-le (head + room - head) (drop head xs) (omega arith) ∙ omega arith

  pub window_long : (head room : ℕ) (xs : List A) → head + room ≤ length xs → length (window head room xs) ≡ room
  window_long head room xs le = let d = length-drop head xs in length-take-le room (drop head xs) (omega arith)
