-- The first line of a script.
use Rattle.std.specs.Prelude.{ℕ, ◌+◌, cond, List, length, drop, Some, None, Ok, Err, codes, Option, Result, ◌==◌, nat_lt}
use Rattle.std.specs.Option.{ok_or}
use Rattle.std.specs.Str.{bytes_eq}
use Rattle.text.specs.Fields.{fields, field_at}
use Rattle.text.specs.Partial.{ok_then}
use Rattle.script.specs.declared.fault.TextFault.{TextFault}
use Rattle.script.specs.declared.header.Header.{Header}
use Rattle.script.specs.declared.header.Kind.{Kind}
use Rattle.script.specs.declared.header.RuleText.{RuleText}
use Rattle.script.specs.declared.header.RuleWord.{RuleWord}
use Rattle.text.specs.Lines.{is_text}
use Rattle.script.specs.Words.{number_in}

-- The rule that a word names.
unfoldable pub rule_word : List ℕ → Option RuleWord
rule_word w =
    cond (bytes_eq w (codes "count")) (Some RuleWord.Count)
    (cond (bytes_eq w (codes "grid")) (Some RuleWord.Grid)
    (cond (bytes_eq w (codes "lead")) (Some RuleWord.Lead)
    (cond (bytes_eq w (codes "groups")) (Some RuleWord.Groups) None)))

-- The kind of figure that a word names.
unfoldable pub kind_word : List ℕ → Option Kind
kind_word w =
    cond (bytes_eq w (codes "tide")) (Some Kind.Tide)
    (cond (bytes_eq w (codes "order")) (Some Kind.Order) None)

-- How many numbers follow a rule's word.
abbrev pub rule_numbers : RuleWord → ℕ
rule_numbers RuleWord.Count = 2
rule_numbers RuleWord.Grid = 2
rule_numbers RuleWord.Lead = 3
rule_numbers RuleWord.Groups = 4

-- The rule of its first two numbers and the fields of the others.
abbrev pub rule_rest : RuleWord → ℕ → ℕ → List (List ℕ) → Result RuleText TextFault
rule_rest RuleWord.Count a b fs = Ok (RuleText.Count a b)
rule_rest RuleWord.Grid a b fs = Ok (RuleText.Grid a b)
rule_rest RuleWord.Lead a b fs = ok_then (number_in (field_at fs 0) 6) (λ c. Ok (RuleText.Lead a b c))
rule_rest RuleWord.Groups a b fs =
    ok_then (number_in (field_at fs 0) 6) (λ c.
    ok_then (number_in (field_at fs 1) 7) (λ d. Ok (RuleText.Groups a b c d)))

-- The rule of the fields of its numbers, which begin at field 4 of the line.
unfoldable pub rule_text : RuleWord → List (List ℕ) → Result RuleText TextFault
rule_text k fs =
    ok_then (number_in (field_at fs 0) 4) (λ a.
    ok_then (number_in (field_at fs 1) 5) (λ b. rule_rest k a b (drop 2 fs)))

-- The kind, the readers and the numbers of the rule, from the left.
unfoldable pub header_rest : (kind readers : List ℕ) → RuleWord → List (List ℕ) → Result Header TextFault
header_rest kind readers k fs =
    ok_then (ok_or (kind_word kind) (TextFault.UnknownWord 1)) (λ figures.
    ok_then (number_in readers 2) (λ n.
    ok_then (rule_text k fs) (λ rule. Ok (record { kind = figures; readers = n; rule = rule }))))

-- What the fields of a line say whose rule has this word: their number first.
abbrev pub header_counted : List (List ℕ) → RuleWord → Result Header TextFault
header_counted fs k =
    cond (length fs == 4 + rule_numbers k) (header_rest (field_at fs 1) (field_at fs 2) k (drop 4 fs))
    (Err TextFault.FieldCount)

-- The words that fix the number of fields, that number, then the rest from the left.
abbrev pub header_by : List (List ℕ) → Result Header TextFault
header_by fs =
    cond (bytes_eq (field_at fs 0) (codes "plant"))
    (cond (nat_lt (length fs) 4) (Err TextFault.FieldCount)
    (ok_then (ok_or (rule_word (field_at fs 3)) (TextFault.UnknownWord 3)) (header_counted fs)))
    (Err (TextFault.UnknownWord 0))

-- What the first line of a script says.
abbrev pub header_of : List ℕ → Result Header TextFault
header_of line = cond (is_text line) (header_by (fields line)) (Err TextFault.NotText)
