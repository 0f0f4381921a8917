-- The rules that a script can name.
use Rattle.quorum.specs.Sets.{Rule}
use Rattle.quorum.specs.Families.{count_rule, grid_rule, lead_rule, grouped_rule}
use Rattle.quorum.specs.declared.by_count.Count.{Count}
use Rattle.script.specs.declared.header.RuleText.{RuleText}
use Rattle.script.specs.declared.rule.ScriptRule.{ScriptRule}

-- The rule that a first line says.
abbrev pub rule_said : RuleText → Rule
rule_said (RuleText.Count s f) = count_rule s f
rule_said (RuleText.Grid r c) = grid_rule r c
rule_said (RuleText.Lead k s f) = lead_rule s (count_rule s f) k
rule_said (RuleText.Groups g f n e) = grouped_rule g n (count_rule g f) (count_rule n e)

abbrev pub count_of : Count → Rule
count_of c = count_rule c.size c.faults

-- What a rule that was made means.
abbrev pub meaning_of : ScriptRule → Rule
meaning_of (ScriptRule.Count c) = count_of c
meaning_of (ScriptRule.Grid g) = grid_rule g.rows g.columns
meaning_of (ScriptRule.Lead l) = lead_rule l.size (count_of l.below) l.lead
meaning_of (ScriptRule.Groups g) = grouped_rule g.groups g.places (count_of g.outer) (count_of g.inner)
