-- Where a text is cut.
use Rattle.std.proofs.Common.{◌≡◌, ℕ, zero, suc, ◌<◌, List, [], ◌∷◌, ◌++◌, length, get_or, take, drop, sym, ap, ◌∙◌, arith, drop-cons}
use Rattle.std.proofs.lemmas.List.{take_all, take-append-drop}
use Rattle.text.specs.Cuts.{Without}

-- a byte that stands at no place below an index does not stand in the text up to there
pub without_take : (byte : ℕ) (l : List ℕ) (n : ℕ) → ((k : ℕ) → k < n → get_or l k 0 ≡ byte → ⊥) → Without byte (take n l)
without_take byte l zero b = tt
without_take byte [] (suc n) b = tt
without_take byte (c ∷ cs) (suc n) b = (b 0 (omega arith), without_take byte cs n (λ k lt. b (suc k) (omega arith)))

-- nor in the whole, if it stands at no place of that
pub without_all : (byte : ℕ) (l : List ℕ) → ((k : ℕ) → k < length l → get_or l k 0 ≡ byte → ⊥) → Without byte l
without_all byte l b = rw (take_all (length l) l (omega arith)) at (without_take byte l (length l) b)

-- a text is what stands before a place, the byte there and what is behind it
pub parted : (byte : ℕ) (l : List ℕ) (n : ℕ) → n < length l → get_or l n 0 ≡ byte → l ≡ take n l ++ (byte ∷ drop (suc n) l)
parted byte l n h e =
    let rest : byte ∷ drop (suc n) l ≡ drop n l = ap (λ c. c ∷ drop (suc n) l) (sym e) ∙ sym (drop-cons l n 0 h) in
    sym (ap (λ x. take n l ++ x) rest ∙ take-append-drop n l)
