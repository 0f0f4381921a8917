use Rattle.std.proofs.Common.{ℕ, List, ◌∷◌, subst}
use Rattle.player.specs.Served.{served_script}
use Rattle.player.proofs.Serving.{by_lines}
use Rattle.player.proofs.Sessions.{accepted_prints, declined_prints, declined_onward, accepted_onward}
use Rattle.player.proofs.session.Session.open.Goals as goal

pub returns-in_ok-session-in-Ok-clause-answer : goal.returns-in_ok-session-in-Ok-clause-answer
returns-in_ok-session-in-Ok-clause-answer c = accepted_prints _ _ _ _ _ c.in-Ok.ensures c.print_line-printed.ensures

pub returns-in_ok-session-in-Ok-clause-onward : goal.returns-in_ok-session-in-Ok-clause-onward
returns-in_ok-session-in-Ok-clause-onward c = λ ls. accepted_onward _ _ _ ls c.in-Ok.ensures c.in_ok-session-in-Ok.ensures

pub returns-in_ok-session-in-Ok-clause-serves : goal.returns-in_ok-session-in-Ok-clause-serves
returns-in_ok-session-in-Ok-clause-serves c = λ ls.
    subst (λ (out : List ℕ). served_script (c.args.first.now ∷ ls) out)
    (accepted_onward _ _ _ ls c.in-Ok.ensures c.in_ok-session-in-Ok.ensures) (by_lines (c.args.first.now ∷ ls))

pub returns-in-Err-clause-answer : goal.returns-in-Err-clause-answer
returns-in-Err-clause-answer c = declined_prints _ _ _ _ _ c.in-Err.ensures c.print_line-printed-in-Err.ensures

pub returns-in-Err-clause-onward : goal.returns-in-Err-clause-onward
returns-in-Err-clause-onward c = λ ls. declined_onward _ _ ls c.in-Err.ensures

pub returns-in-Err-clause-serves : goal.returns-in-Err-clause-serves
returns-in-Err-clause-serves c = λ ls.
    subst (λ (out : List ℕ). served_script (c.args.first.now ∷ ls) out)
    (declined_onward _ _ ls c.in-Err.ensures) (by_lines (c.args.first.now ∷ ls))
