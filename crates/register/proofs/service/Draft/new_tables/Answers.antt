use Rattle.std.proofs.Common.{rules, ◌≡◌}
use Rattle.model.specs.State.{new_mark}
use Rattle.register.proofs.service.Draft.new_tables.Goals as goal

pub returns : goal.returns
returns g c =
    let mark : c.default.result ≡ new_mark = search rules in
    search rules
