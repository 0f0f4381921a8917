use Rattle.std.proofs.Common.{sym, []}
use Rattle.register.proofs.Founding.{service, state_is, new_cluster}
use Rattle.register.proofs.Running.{cluster_runs}
use Rattle.register.proofs.service.Draft.found.Goals as goal

pub invariant_of-result : goal.invariant_of-result
invariant_of-result g c =
    new_cluster g.R.QuorumSystem c.args.self _ _ (sym c.if-not-rooms_fit.ensures) c.in-Ok.tables c.in-Ok.ensures c.open.result c.open.ensures

pub returns-in-Ok : goal.returns-in-Ok
returns-in-Ok g c =
    let fit = sym c.if-not-rooms_fit.ensures in
    let s = service g.R.QuorumSystem c.args.self _ _ fit c.in-Ok.tables c.in-Ok.ensures c.open.result c.open.ensures in (
      fit,
      record {
        rule = s.same_meaning;
        start = s.opened.start;
        state = state_is g.R.QuorumSystem c.args.self _ _ fit c.in-Ok.tables c.in-Ok.ensures c.open.result c.open.ensures;
        begins = s.begins;
        serves = λ cs rs x' ran. cluster_runs g.R.QuorumSystem _ cs rs x' ran [] s.begins;
      },
    )
