use Rattle.std.proofs.Common.{◌≡◌, ℕ, ◌^◌, ◌<◌, ◌≤◌, false, ltb, [], ◌∷◌, ◌++◌, length, Ok, decimal, sym, ap, ◌∙◌, zero-add, arith, length-append, le-ltb}
use Rattle.std.proofs.lemmas.Fmt.{length-decimal-le}
use Rattle.std.proofs.lemmas.Bool.{cond-false}
use Rattle.text.proofs.Placed.{then_put}
use Rattle.script.specs.Answers.{answer_shown}
use Rattle.script.proofs.answer.print_answer.Goals as goal

ten : (n : ℕ) → n < 2 ^ 32 → length (decimal n) ≤ 10
ten n h = length-decimal-le 10 n (omega arith) (omega arith) (omega arith)

pub put_number-at-requires : goal.put_number-at-requires
put_number-at-requires g c = omega (arith, ten c.args.number (omega arith), c.if-buffer-lt80.false)

pub put_bytes-at-requires : goal.put_bytes-at-requires
put_bytes-at-requires g c = omega (arith, ten c.args.number (omega arith), c.if-buffer-lt80.false, c.put_number-at.ensures.stop, c.put_number-at.auto.buffer)

pub put_answer-at-requires : goal.put_answer-at-requires
put_answer-at-requires g c = omega (arith, ten c.args.number (omega arith), c.if-buffer-lt80.false, c.put_number-at.ensures.stop, c.put_number-at.auto.buffer, c.put_bytes-at.ensures.stop, c.put_bytes-at.auto.buffer)

pub put_bytes-at-requires-2 : goal.put_bytes-at-requires-2
put_bytes-at-requires-2 g c = omega (arith, ten c.args.number (omega arith), c.if-buffer-lt80.false, c.put_number-at.ensures.stop, c.put_number-at.auto.buffer, c.put_bytes-at.ensures.stop, c.put_bytes-at.auto.buffer, c.put_answer-at.ensures.short, c.put_answer-at.auto.buffer)

pub returns : goal.returns
returns g c =
    let xs = c.args.buffer.now in
    let a = decimal c.args.number in
    let b = answer_shown g.F.FigureKind.shown c.args.answer in
    let t = ten c.args.number (omega arith) in
    let l1 = length-append a (9 ∷ []) in
    let l2 = length-append (a ++ (9 ∷ [])) b in
    let p1 = then_put {bs = a} {cs = 9 ∷ []} (omega (arith, c.if-buffer-lt80.false)) c.put_number-at.ensures c.put_bytes-at.ensures in
    let p2 = then_put {bs = a ++ (9 ∷ [])} {cs = b} (omega (arith, c.if-buffer-lt80.false)) p1 c.put_answer-at.ensures.all in
    let p3 = then_put {bs = (a ++ (9 ∷ [])) ++ b} {cs = 10 ∷ []} (omega (arith, c.if-buffer-lt80.false, p2.stop, c.put_answer-at.ensures.short, p1.stop)) p2 c.put_bytes-at-2.ensures in
    let few : ltb (length xs) 80 ≡ false = le-ltb (length xs) 80 c.if-buffer-lt80.false in
    record {
      prints = record {
        answer = ap Ok (p3.stop ∙ zero-add _) ∙ sym (cond-false (ltb (length xs) 80) _ _ few);
        buffer = p3.all ∙ sym (cond-false (ltb (length xs) 80) _ _ few);
      };
      short = omega (arith, t, c.put_number-at.ensures.stop, c.put_bytes-at.ensures.stop, c.put_answer-at.ensures.short, c.put_bytes-at-2.ensures.stop);
    }
