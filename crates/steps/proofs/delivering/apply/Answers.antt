use Rattle.std.proofs.Common.{◌≡◌, length, sym, ap, ◌∙◌, subst, arith, Ok}
use Rattle.tables.specs.declared.numbers.Numbers.{Numbers}
use Rattle.tables.specs.View.{Kept, tables}
use Rattle.steps.specs.Doing.{SameSizes}
use Rattle.steps.specs.Renumbered.{with_writer}
use Rattle.reaction.specs.Applied.{writer_changed, changed, sent_by, post_within}
use Rattle.steps.specs.Applying.{numbers_ended}
use Rattle.steps.proofs.Parts.{kept_writer, ended_kept, ended_same, applies}
use Rattle.steps.proofs.delivering.apply.Goals as goal

pub post-requires : goal.post-requires
post-requires g c =
    let n = c.args.numbers.now in
    let r = c.args.reaction in
    let n₁ : Numbers = with_writer n (writer_changed n.writer r.writer) in
    let m : Numbers = c.finish_operation-reply.new.numbers in
    let e : m ≡ numbers_ended n₁ r.finish
    = c.finish_operation-reply.ensures.numbers
    ∙ ap (λ w. numbers_ended (with_writer n w) r.finish) c.unwrap_or-numbers.ensures in
    let same : SameSizes n₁ m × (m.waiting ≡ n.waiting) × (m.lines ≡ n.lines)
    = subst (λ (x : Numbers). SameSizes n₁ x × (x.waiting ≡ n.waiting) × (x.lines ≡ n.lines)) (sym e) (ended_same n₁ r.finish) in
    record {
      kept = subst Kept (sym e) (ended_kept n₁ r.finish (kept_writer n c.requires.kept r.writer c.requires.applicable.writer));
      messages_fit = c.requires.messages_fit ∙ sym same.0.message_room;
      journal_fits = c.finish_operation-reply.auto.journal ∙ c.requires.journal_fits ∙ sym same.0.journal_room;
      room = let long = ap (λ k. length (sent_by k r.post)) same.0.replicas in omega (arith, long, same.1, same.0.message_room, c.requires.room);
      within = subst (λ k. post_within k r.post) (sym same.2) c.requires.applicable.post;
    }

pub returns : goal.returns
returns g c = λ start.
    let n = c.args.numbers.now in
    let t = tables c.args.replicas.now c.args.readers.now c.args.marks.now c.args.messages.now c.args.journal.now in
    let r = c.args.reaction in
    let rs = changed c.args.replicas.now r.replica in
    let ds = changed c.args.readers.now r.reader in
    let ks = changed c.args.marks.now r.mark in
    let ended = c.finish_operation-reply.ensures.ends start rs ds ks c.args.messages.now c.requires.messages_fit in
    rw (c.change.ensures, c.change-2.ensures, c.change-3.ensures)
    (applies start n t c.requires.kept c.requires.messages_fit c.requires.journal_fits r c.requires.applicable.writer
    c.unwrap_or-numbers.result c.unwrap_or-numbers.ensures
    (Ok c.finish_operation-reply.result) c.finish_operation-reply.new.numbers
    (tables rs ds ks c.args.messages.now c.finish_operation-reply.new.journal) ended
    c.finish_operation-reply.new.numbers.replicas ended.sizes.replicas c.post.new.numbers _
    (c.post.ensures start rs ds ks))
