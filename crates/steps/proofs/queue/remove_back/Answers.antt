use Rattle.std.proofs.Common.{ℕ, List, drop, ap, ◌∙◌}
use native.Mathlib.Nat.{sub-zero}
use lib.Seq.{paste}
use Rattle.steps.proofs.Queues.{moved_back}
use Rattle.steps.proofs.queue.remove_back.Goals as goal

pub returns : goal.returns
returns g c =
    let xs = c.args.table.now in
    ap (λ (l : List _). drop 1 l) (c.copy_within.ensures.after ∙ ap (λ (k : ℕ). paste xs 1 xs k) (sub-zero c.args.at))
    ∙ moved_back xs c.args.at c.requires
