use Rattle.std.proofs.Common.{◌≡◌, ◌+◌, [], length, drop, Some, codes, sym, ap, ◌∙◌, arith, rules}
use Rattle.std.specs.Str.{bytes_eq}
use Rattle.std.proofs.lemmas.List.{drop-drop, get_or-drop}
use Rattle.text.specs.Fields.{fields, field_at}
use Rattle.text.specs.Cursors.{ahead}
use Rattle.script.specs.Headers.{rule_word, header_rest}
use Rattle.script.proofs.Heading.{header_goes}
use Rattle.script.proofs.header.read_header.Goals as goal

pub returns : goal.returns
returns c =
    let line = c.args.line.now in
    let fs = fields line in
    let k = c.in_ok-rule.rule in
    let p0 = c.over-fields.ensures in
    let p1 : ahead c.next_field-plant.new.self ≡ drop 1 fs = c.next_field-plant.ensures.rest ∙ ap (drop 1) p0 in
    let p2 : ahead c.next_field-kind.new.self ≡ drop 2 fs = c.next_field-kind.ensures.rest ∙ ap (drop 1) p1 ∙ drop-drop 1 1 fs in
    let p3 : ahead c.next_field-readers.new.self ≡ drop 3 fs = c.next_field-readers.ensures.rest ∙ ap (drop 1) p2 ∙ drop-drop 1 2 fs in
    let p4 : ahead c.next_field-word.new.self ≡ drop 4 fs = c.next_field-word.ensures.rest ∙ ap (drop 1) p3 ∙ drop-drop 1 3 fs in
    let w0 : c.next_field-plant.result.now ≡ field_at fs 0 = c.next_field-plant.ensures.field ∙ ap (λ x. field_at x 0) p0 in
    let w1 : c.next_field-kind.result.now ≡ field_at fs 1 = c.next_field-kind.ensures.field ∙ ap (λ x. field_at x 0) p1 ∙ get_or-drop 1 fs 0 [] in
    let w2 : c.next_field-readers.result.now ≡ field_at fs 2 = c.next_field-readers.ensures.field ∙ ap (λ x. field_at x 0) p2 ∙ get_or-drop 2 fs 0 [] in
    let w3 : c.next_field-word.result.now ≡ field_at fs 3 = c.next_field-word.ensures.field ∙ ap (λ x. field_at x 0) p3 ∙ get_or-drop 3 fs 0 [] in
    let n : c.count-count.result ≡ length fs = c.count-count.ensures ∙ ap length p0 in
    let known : c.rule_word.result ≡ Some k = search rules in
    c.header_rest.ensures
    ∙ ap (λ x. header_rest x c.next_field-readers.result.now k (ahead c.next_field-word.new.self)) w1
    ∙ ap (λ x. header_rest (field_at fs 1) x k (ahead c.next_field-word.new.self)) w2
    ∙ ap (λ x. header_rest (field_at fs 1) (field_at fs 2) k x) p4
    ∙ header_goes line k (sym c.if-not-is_text.ensures)
    (sym (c.if-not-is_word.ensures ∙ ap (λ x. bytes_eq x (codes "plant")) w0))
    (omega (arith, n))
    (ap rule_word (sym w3) ∙ sym c.rule_word.ensures ∙ known)
    (sym n ∙ c.if-count-rule_numbers.false ∙ ap (λ x. 4 + x) c.rule_numbers.ensures)
