-- What the first line of a script answers once it is read: its rule is made, those below it first, then the draft.
use Rattle.std.specs.Prelude.{ℕ, ◌&&◌, List, Some, None, Ok, Err, Option, Result, nat_le}
use Rattle.std.specs.Option.{option_or}
use Rattle.std.specs.Result.{result_map_both}
use Rattle.quorum.specs.Refusals.{limited, count_refusal, lead_refusal, product_refusal}
use Rattle.quorum.specs.declared.refusal.RuleRefusal.{RuleRefusal}
use Rattle.text.specs.Partial.{ok_then}
use Rattle.script.specs.declared.fault.ScriptFault.{ScriptFault}
use Rattle.script.specs.declared.header.Header.{Header}
use Rattle.script.specs.declared.header.RuleText.{RuleText}
use Rattle.script.specs.Headers.{header_of}

-- The first refusal that the makings of a rule meet.
abbrev pub rule_refusal : RuleText → Option RuleRefusal
rule_refusal (RuleText.Count s f) = count_refusal s f
rule_refusal (RuleText.Grid r c) = product_refusal r c
rule_refusal (RuleText.Lead k s f) = option_or (count_refusal s f) (lead_refusal s k)
rule_refusal (RuleText.Groups g f n e) =
    option_or (count_refusal g f) (option_or (count_refusal n e) (product_refusal g n))

-- A draft has 1 to 32 readers. The register tests its rule's size too, which no rule that is made fails (`draft` of player).
abbrev pub draft_refusal : ℕ → Option RuleRefusal
draft_refusal readers = limited (nat_le 1 readers && nat_le readers 32) None

-- The first refusal: of the rule, or else of the draft.
abbrev pub opening : Header → Option RuleRefusal
opening h = option_or (rule_refusal h.rule) (draft_refusal h.readers)

-- A header, unless it is refused.
abbrev pub accepted : Header → Option RuleRefusal → Result Header ScriptFault
accepted h None = Ok h
accepted h (Some e) = Err (ScriptFault.Rule e)

-- What the first line comes to: its header, or the first fault.
abbrev pub opening_of : List ℕ → Result Header ScriptFault
opening_of line = ok_then (result_map_both (λ h. h) ScriptFault.Text (header_of line)) (λ h. accepted h (opening h))
