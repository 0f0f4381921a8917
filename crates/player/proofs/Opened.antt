-- A first line that is accepted: its rule and its draft can be made, and the rule is lawful.
use Rattle.std.proofs.Common.{◌≡◌, ℕ, Bool, true, false, ◌&&◌, ltb, List, Some, None, Ok, Err, Option, Result, refl, arith}
use Rattle.std.proofs.lemmas.Bool.Decides.{nat_tests}
use Rattle.std.proofs.lemmas.Bool.{and_parts, ltb-true}
use Rattle.std.specs.Option.{option_or}
use Rattle.std.specs.Result.{result_map_both}
use Rattle.quorum.specs.Laws.{Lawful}
use Rattle.quorum.specs.Families.{count_rule}
use Rattle.quorum.specs.Refusals.{limited, sized, product_fits, count_refusal}
use Rattle.quorum.specs.declared.refusal.RuleRefusal.{RuleRefusal}
use Rattle.quorum.proofs.CountLaws.{count_lawful}
use Rattle.quorum.proofs.GridLaws.{grid_lawful}
use Rattle.quorum.proofs.LeadLaws.{lead_lawful}
use Rattle.quorum.proofs.GroupLaws.{grouped_lawful}
use Rattle.quorum.proofs.Products.{limits}
use Rattle.text.specs.Partial.{ok_then}
use Rattle.script.specs.declared.fault.ScriptFault.{ScriptFault}
use Rattle.script.specs.declared.fault.TextFault.{TextFault}
use Rattle.script.specs.declared.header.Header.{Header}
use Rattle.script.specs.declared.header.RuleText.{RuleText}
use Rattle.script.specs.Headers.{header_of}
use Rattle.script.specs.Openings.{rule_refusal, draft_refusal, opening, accepted, opening_of}
use Rattle.script.specs.Rules.{rule_said}

-- THE HEADER

opens_at : (h h' : Header) (o : Option RuleRefusal) → opening h ≡ o → accepted h o ≡ Ok h' → opening h' ≡ None
opens_at h h' None is e = cc
opens_at h h' (Some x) is e = cc

opens_by : (r : Result Header TextFault) (h : Header)
    → ok_then (result_map_both (λ g. g) ScriptFault.Text r) (λ g. accepted g (opening g)) ≡ Ok h → opening h ≡ None
opens_by (Ok g) h e = opens_at g h (opening g) refl e
opens_by (Err x) h e = cc

pub opens : (line : List ℕ) (h : Header) → opening_of line ≡ Ok h → opening h ≡ None
opens line h e = opens_by (header_of line) h e

-- ITS RULE

both : (o next : Option RuleRefusal) → option_or o next ≡ None → (o ≡ None) × (next ≡ None)
both None next e = (refl, e)
both (Some x) next e = cc

holds : (b : Bool) (o : Option RuleRefusal) → limited b o ≡ None → (b ≡ true) × (o ≡ None)
holds true o e = (refl, e)
holds false o e = cc

count_laws : (s f : ℕ) → count_refusal s f ≡ None → Lawful (count_rule s f)
count_laws s f e = count_lawful s f (grind (arith, nat_tests)) (grind (arith, nat_tests)) (grind (arith, nat_tests))

laws_said : (t : RuleText) → rule_refusal t ≡ None → Lawful (rule_said t)
laws_said (RuleText.Count s f) e = count_laws s f e
laws_said (RuleText.Grid r c) e = grid_lawful r c (limits r c (holds (product_fits r c) None e).0)
laws_said (RuleText.Lead k s f) e =
    let parts = both (count_refusal s f) _ e in
    let fits = (holds (sized s && ltb k s) None parts.1).0 in
    lead_lawful (count_rule s f) k (count_laws s f parts.0) (ltb-true k s (and_parts (sized s) (ltb k s) fits).1)
laws_said (RuleText.Groups g f n i) e =
    let outer = both (count_refusal g f) _ e in
    let inner = both (count_refusal n i) _ outer.1 in
    let fits = (holds (product_fits g n) None inner.1).0 in
    grouped_lawful (count_rule g f) (count_rule n i) (count_laws g f outer.0) (count_laws n i inner.0) (limits g n fits).2

pub laws : (h : Header) → opening h ≡ None → Lawful (rule_said h.rule)
laws h e = laws_said h.rule (both (rule_refusal h.rule) (draft_refusal h.readers) e).0
