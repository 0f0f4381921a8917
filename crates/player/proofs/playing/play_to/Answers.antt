use Rattle.std.proofs.Common.{◌++◌, ap, ◌∙◌, sym, take}
use Rattle.std.proofs.lemmas.Result.{on_ok_weaker}
use Rattle.text.specs.LineCursors.{lines_ahead}
use Rattle.player.specs.Sessions.{ahead, answers_ahead}
use Rattle.player.proofs.Sessions.{played_lines}
use Rattle.player.proofs.Writing.{printed_front, both}
use Rattle.player.proofs.playing.play_to.Goals as goal

pub returns-in-Some-session-clause-writes : goal.returns-in-Some-session-clause-writes
returns-in-Some-session-clause-writes g c =
    let ls = lines_ahead c.next.new.self in
    let opening = c.in_ok-opening.opening in
    let o = c.in_ok-opening.ensures in
    let front = take opening.printed c.open.new.buffer in
    on_ok_weaker c.play_lines.result
    (both _ _ _ front _ _
    (played_lines c.args.script.now c.in-Some.first.now ls c.if-script-gt-MOST_BYTES.false (sym c.over-lines.ensures ∙ c.in-Some.ensures.steps)
    ∙ o.onward ls ∙ ap (λ x. x ++ answers_ahead opening.session ls) (sym (printed_front _ _ _ _ o.answer))
    ∙ ap (λ s. front ++ answers_ahead s ls) c.in-Some-session.is
    ∙ ap (λ s. front ++ ahead s ls) (sym c.in-Some-session.session-is))
    c.in_ok-write_all.ensures.bytes)
    c.play_lines.ensures
