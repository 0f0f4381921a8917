-- Where the lines of a text end.
use Rattle.std.proofs.Common.{◌≡◌, ℕ, suc, ◌<◌, ◌≤◌, true, false, cond, eqb, List, [], ◌∷◌, ◌++◌, append-nil, length, Some, None, Option, refl, ap, ◌∙◌, arith, ne_eqb}
use Rattle.std.specs.Borrow.{Bor}
use Rattle.std.specs.List.{onto_first}
use Rattle.text.specs.Cuts.{Without, CutAt}
use Rattle.text.specs.Lines.{lines}

lines_plain : (c : ℕ) (cs : List ℕ) → (c ≡ 10 → ⊥) → lines (c ∷ cs) ≡ onto_first c (lines cs)
lines_plain c cs h = rw (ne_eqb c 10 h)

-- a text with no line end is its one line
lines_last : (a : List ℕ) → 0 < length a → Without 10 a → lines a ≡ a ∷ []
lines_last [] p h = absurd (omega arith)
lines_last (c ∷ []) p h = lines_plain c [] h.0
lines_last (c ∷ (d ∷ ds)) p h = lines_plain c (d ∷ ds) h.0 ∙ ap (onto_first c) (lines_last (d ∷ ds) (omega arith) h.1)

-- the first line end ends the first line
lines_then : (a b : List ℕ) → Without 10 a → lines (a ++ (10 ∷ b)) ≡ a ∷ lines b
lines_then [] b h = refl
lines_then (c ∷ cs) b h = lines_plain c (cs ++ (10 ∷ b)) h.0 ∙ ap (onto_first c) (lines_then cs b h.1)

-- the text behind a cut, which is empty where there is none
abbrev pub after : Option (Bor (List ℕ)) → List ℕ
after None = []
after (Some rest) = rest.now

-- the lines of a text, of which the first is cut off
pub cut_lines : (text first : List ℕ) (rest : Option (Bor (List ℕ))) → 0 < length text → CutAt 10 text first rest
    → lines text ≡ first ∷ lines (after rest)
cut_lines text first None p h =
    let one : text ≡ first = h.whole ∙ append-nil first in
    ap lines one ∙ lines_last first (rw one at p) h.first
cut_lines text first (Some rest) p h = ap lines h.whole ∙ lines_then first rest.now h.first

onto_few : (c : ℕ) (fs : List (List ℕ)) → length (onto_first c fs) ≤ suc (length fs)
onto_few c [] = omega arith
onto_few c (f ∷ fs) = omega arith

-- a text has no more lines than bytes
pub lines_few : (l : List ℕ) → length (lines l) ≤ length l
lines_few [] = omega arith
lines_few (c ∷ cs) =
    let ih = lines_few cs in
    let o = onto_few c (lines cs) in
    elim (eqb c 10) as (λ t. length (cond t ([] ∷ lines cs) (onto_first c (lines cs))) ≤ suc (length cs)) [ true ↦ omega arith | false ↦ omega arith ]
