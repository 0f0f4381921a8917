-- How tabs part a text into fields.
use Rattle.std.proofs.Common.{◌≡◌, ℕ, List, [], ◌∷◌, ◌++◌, append-nil, Some, None, Option, refl, ap, ◌∙◌, eq-eqb, ne_eqb}
use Rattle.std.specs.Borrow.{Bor}
use Rattle.std.specs.List.{onto_first}
use Rattle.text.specs.Cuts.{Without, CutAt}
use Rattle.text.specs.Fields.{fields, pending}

pub fields_plain : (c : ℕ) (cs : List ℕ) → (c ≡ 9 → ⊥) → fields (c ∷ cs) ≡ onto_first c (fields cs)
fields_plain c cs h = rw (ne_eqb c 9 h)

pub fields_tab : (c : ℕ) (cs : List ℕ) → c ≡ 9 → fields (c ∷ cs) ≡ [] ∷ fields cs
fields_tab c cs h = rw (eq-eqb c 9 h)

-- a text without a tab
abbrev pub Tabless : List ℕ → Type 0
Tabless = Without 9

-- a text without a tab, a tab and what follows it
pub fields_then : (a b : List ℕ) → Tabless a → fields (a ++ (9 ∷ b)) ≡ a ∷ fields b
fields_then [] b t = refl
fields_then (c ∷ cs) b t = fields_plain c (cs ++ (9 ∷ b)) t.0 ∙ ap (onto_first c) (fields_then cs b t.1)

-- a text without a tab is its one field
pub fields_last : (a : List ℕ) → Tabless a → fields a ≡ a ∷ []
fields_last [] t = refl
fields_last (c ∷ cs) t = fields_plain c cs t.0 ∙ ap (onto_first c) (fields_last cs t.1)

-- the fields of a text, of which the first is cut off
pub cut_fields : (text first : List ℕ) (rest : Option (Bor (List ℕ))) → CutAt 9 text first rest → fields text ≡ first ∷ pending rest
cut_fields text first None h = ap fields (h.whole ∙ append-nil first) ∙ fields_last first h.first
cut_fields text first (Some rest) h = ap fields h.whole ∙ fields_then first rest.now h.first
