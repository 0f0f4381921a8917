-- The fields of a call line, by how the line begins.
use Rattle.std.proofs.Common.{◌≡◌, ℕ, ◌<◌, Bool, true, false, cond, eqb, List, [], ◌∷◌, length, get_or, drop, Err, sym, refl, ap, ◌∙◌, arith, eqb-true}
use Rattle.figure.specs.declared.kind.FigureKind.{Ghosts}
use Rattle.std.specs.List.{onto_first}
use Rattle.text.specs.Fields.{fields}
use Rattle.text.proofs.Parting.{fields_tab, fields_plain}
use Rattle.script.specs.declared.fault.TextFault.{TextFault}
use Rattle.script.specs.Calls.{lettered_call, call_in}

-- a byte alone in the first field is the letter; where the byte is itself a tab, both sides refuse it
first_by : {F : Type 0} (k : Ghosts F) (b : ℕ) (fs : List (List ℕ)) (t : Bool) → eqb b 9 ≡ t
    → call_in k (cond t ([] ∷ ([] ∷ fs)) (onto_first b ([] ∷ fs))) ≡ lettered_call k b fs
first_by k b fs true e = ap (λ x. lettered_call k x fs) (sym (eqb-true b 9 e))
first_by k b fs false e = refl

-- a letter, a tab and the rest
pub call_tabbed : {F : Type 0} (k : Ghosts F) (line : List ℕ) → 1 < length line → get_or line 1 0 ≡ 9
    → lettered_call k (get_or line 0 0) (fields (drop 2 line)) ≡ call_in k (fields line)
call_tabbed k [] h e = absurd (omega arith)
call_tabbed k (b ∷ []) h e = absurd (omega arith)
call_tabbed k (b ∷ (t ∷ rest)) h e =
    sym (ap (λ fs. call_in k (cond (eqb b 9) ([] ∷ fs) (onto_first b fs))) (fields_tab t rest e)
    ∙ first_by k b (fields rest) (eqb b 9) refl)

-- a letter alone
pub call_alone : {F : Type 0} (k : Ghosts F) (line : List ℕ) → length line ≡ 1
    → lettered_call k (get_or line 0 0) [] ≡ call_in k (fields line)
call_alone k [] h = absurd (omega arith)
call_alone k (b ∷ []) h = sym (first_by k b [] (eqb b 9) refl)
call_alone k (b ∷ (c ∷ cs)) h = absurd (omega arith)

-- a first field that is empty or goes on behind its first byte is no letter
longer : {F : Type 0} (k : Ghosts F) (b c : ℕ) (fs : List (List ℕ)) (t : Bool)
    → call_in k (cond t ([] ∷ onto_first c fs) (onto_first b (onto_first c fs))) ≡ Err (TextFault.UnknownWord 0)
longer k b c fs true = refl
longer k b c [] false = refl
longer k b c (f ∷ fs) false = refl

-- any other line
pub call_other : {F : Type 0} (k : Ghosts F) (line : List ℕ) → (length line ≡ 1 → ⊥)
    → (1 < length line → get_or line 1 0 ≡ 9 → ⊥) → Err (TextFault.UnknownWord 0) ≡ call_in k (fields line)
call_other k [] h e = refl
call_other k (b ∷ []) h e = absurd (h refl)
call_other k (b ∷ (c ∷ cs)) h e =
    sym (ap (λ fs. call_in k (cond (eqb b 9) ([] ∷ fs) (onto_first b fs))) (fields_plain c cs (e (omega arith)))
    ∙ longer k b c (fields cs) (eqb b 9))
