use Rattle.std.proofs.Common.{◌≡◌, ◌<◌, length, get_or, ap, ◌∙◌, rules}
use Rattle.std.proofs.lemmas.List.{take_rest}
use Rattle.text.specs.Cursors.{ahead}
use Rattle.text.specs.Fields.{fields}
use Rattle.script.specs.Calls.{lettered_call}
use Rattle.script.proofs.Lettered.{call_tabbed, call_alone, call_other}
use Rattle.script.proofs.calls.call_in.Goals as goal

pub returns-in-len1 : goal.returns-in-len1
returns-in-len1 g c =
    let l = c.args.line.now in
    let k = g.F.FigureKind in
    let h : length l ≡ 1 = search rules in
    c.lettered_call.ensures
    ∙ ap (λ x. lettered_call k x (ahead c.empty.result)) c.from.ensures
    ∙ ap (lettered_call k (get_or l 0 0)) c.empty.ensures
    ∙ call_alone k l h

pub returns-in-9 : goal.returns-in-9
returns-in-9 g c =
    let l = c.args.line.now in
    let k = g.F.FigureKind in
    let h : 1 < length l = search rules in
    let t : get_or l 1 0 ≡ 9 = search rules in
    c.lettered_call-in-9.ensures
    ∙ ap (λ x. lettered_call k x (ahead c.over.result)) c.from-in-9.ensures
    ∙ ap (lettered_call k (get_or l 0 0)) (c.over.ensures ∙ ap fields (take_rest l 2))
    ∙ call_tabbed k l h t

pub returns-in_default : goal.returns-in_default
returns-in_default g c =
    let l = c.args.line.now in
    let n : length l ≡ 1 → ⊥ = search rules in
    let t : 1 < length l → get_or l 1 0 ≡ 9 → ⊥ = search rules in
    call_other g.F.FigureKind l n t
