use Rattle.std.proofs.Common.{List, length, take, ap, ◌∙◌, arith}
use Rattle.std.proofs.lemmas.List.{take_rest}
use Rattle.model.specs.State.{stored, without}
use Rattle.steps.proofs.Queues.{taken_up, taken_back}
use Rattle.steps.proofs.queue.take_out.Goals as goal

pub returns-then-used-at : goal.returns-then-used-at
returns-then-used-at g c =
    let xs = c.args.buffer.now in
    let head = c.args.head in
    let part = take_rest xs head in
    record {
      within = c.requires.within;
      gone =
          taken_up xs head c.args.used c.args.at c.requires.there (omega (arith, c.requires.within, c.requires.fits)) _ c.remove_at.new.table
          (c.remove_at.ensures ∙ ap (λ (l : List _). stored (without (take c.args.used l) c.args.at) l) part)
          (c.remove_at.auto.table ∙ ap length part);
    }

pub returns : goal.returns
returns g c =
    let xs = c.before_end-head.new.buffer in
    let head = c.before_end-head.result in
    let part = take_rest xs head in
    let same = c.before_end-head.auto.buffer in
    let within = c.before_end-head.ensures.within in
    record {
      within = omega (arith, within);
      gone =
          taken_back xs head c.args.used c.args.at c.requires.there (omega (arith, within, same, c.requires.fits)) _ c.remove_back.new.table
          (c.remove_back.ensures ∙ ap (λ (l : List _). without l c.args.at) part)
          (c.remove_back.auto.table ∙ ap length part)
          ∙ ap (λ (l : List _). without l c.args.at) c.before_end-head.ensures.same;
    }
