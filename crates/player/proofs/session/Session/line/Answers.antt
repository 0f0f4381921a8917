use Rattle.std.proofs.Common.{◌+◌, [], ◌∷◌, ap, ◌∙◌, ◌++◌, sym}
use Rattle.figure.specs.contracts.order.DigOrderFigureKind.TheImpl.{ghosts as order_kind}
use Rattle.figure.specs.contracts.tide.TideFigureKind.TheImpl.{ghosts as tide_kind}
use Rattle.player.specs.declared.session.AnyCluster.{AnyCluster}
use Rattle.player.specs.Sessions.{cluster_ahead}
use Rattle.player.proofs.Sessions.{prints_answer, onward}
use Rattle.player.proofs.session.Session.line.Goals as goal

pub returns-in-Tide-clause-answer : goal.returns-in-Tide-clause-answer
returns-in-Tide-clause-answer c =
    prints_answer tide_kind _ _ _ _ _ _ _ _ _ (ap (λ p. cluster_ahead p c.args.self.now.number (c.args.line.now ∷ [])) c.in-Tide.is)
    c.play_line.ensures.answer c.print_line.ensures

pub returns-in-Tide-clause-onward : goal.returns-in-Tide-clause-onward
returns-in-Tide-clause-onward c = λ ls.
    let n = c.args.self.now.number in
    ap (λ p. cluster_ahead p n (c.args.line.now ∷ ls)) c.in-Tide.is
    ∙ onward tide_kind _ _ _ _ n c.args.line.now ls c.play_line.ensures.rule c.play_line.ensures.state
    ∙ ap (λ b. b ++ cluster_ahead (AnyCluster.Tide c.play_line.new.cluster) (n + 1) ls)
    (sym (ap (λ p. cluster_ahead p n (c.args.line.now ∷ [])) c.in-Tide.is))

pub returns-in-Order-clause-answer : goal.returns-in-Order-clause-answer
returns-in-Order-clause-answer c =
    prints_answer order_kind _ _ _ _ _ _ _ _ _ (ap (λ p. cluster_ahead p c.args.self.now.number (c.args.line.now ∷ [])) c.in-Order.is)
    c.play_line-in-Order.ensures.answer c.print_line-in-Order.ensures

pub returns-in-Order-clause-onward : goal.returns-in-Order-clause-onward
returns-in-Order-clause-onward c = λ ls.
    let n = c.args.self.now.number in
    ap (λ p. cluster_ahead p n (c.args.line.now ∷ ls)) c.in-Order.is
    ∙ onward order_kind _ _ _ _ n c.args.line.now ls c.play_line-in-Order.ensures.rule c.play_line-in-Order.ensures.state
    ∙ ap (λ b. b ++ cluster_ahead (AnyCluster.Order c.play_line-in-Order.new.cluster) (n + 1) ls)
    (sym (ap (λ p. cluster_ahead p n (c.args.line.now ∷ [])) c.in-Order.is))
