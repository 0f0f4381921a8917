use Rattle.std.proofs.Common.{rules, ◌≡◌, sym, refl, ◌∙◌}
use Rattle.model.specs.State.{new_mark}
use Rattle.register.proofs.Filling.{filled_with}
use Rattle.register.proofs.Commissions.{in_service}
use Rattle.register.proofs.service.Draft.commission.Goals as goal

pub returns : goal.returns
returns g c =
    let fit = sym c.accepts.ensures ∙ c.if-not-accepts.false in
    let mark : c.default.result ≡ new_mark = search rules in (
      fit,
      in_service c.args.self g.R.QuorumSystem _ (rw (c.fill_with.ensures.len, c.fill_with-2.ensures.len, c.fill.ensures.len) fit)
          (record {
            replicas = filled_with _ _ _ (λ y h ran. search rules) _ _ c.fill_with.ensures.ran.1;
            readers = filled_with _ _ _ (λ y h ran. search rules) _ _ c.fill_with-2.ensures.ran.1;
            marks = c.fill.ensures.after (λ y e. search rules) ∙ rw (c.fill.ensures.len, mark) refl;
          })
          _ c.open.ensures,
      refl,
      refl,
    )
