use Rattle.register.proofs.Commissions.{kept_first}
use Rattle.register.proofs.service.Draft.open.Goals as goal

pub invariant_of-result : goal.invariant_of-result
invariant_of-result g c = record { kept = kept_first c.args.self _ _ c.requires _ c.new_numbers-numbers.ensures }
