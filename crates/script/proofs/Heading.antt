use Rattle.std.proofs.Common.{◌≡◌, ℕ, ◌+◌, ◌≤◌, true, List, length, drop, Some, codes, le-ltb, eq-eqb}
use Rattle.std.specs.Str.{bytes_eq}
use Rattle.text.specs.Fields.{fields, field_at}
use Rattle.script.specs.declared.header.RuleWord.{RuleWord}
use Rattle.text.specs.Lines.{is_text}
use Rattle.script.specs.Headers.{rule_word, rule_numbers, header_rest, header_of}

-- a header whose number of fields is right is read from the left
pub header_goes : (line : List ℕ) (k : RuleWord) → is_text line ≡ true
    → bytes_eq (field_at (fields line) 0) (codes "plant") ≡ true → 4 ≤ length (fields line)
    → rule_word (field_at (fields line) 3) ≡ Some k → length (fields line) ≡ 4 + rule_numbers k
    → header_rest (field_at (fields line) 1) (field_at (fields line) 2) k (drop 4 (fields line))
    ≡ header_of line
header_goes line k t p l r n =
    let few = le-ltb (length (fields line)) 4 l in
    let right = eq-eqb (length (fields line)) (4 + rule_numbers k) n in
    rw (t, p, few, r, right)
