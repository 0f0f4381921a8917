use Rattle.tables.specs.View.{tables}
use Rattle.reaction.specs.Applied.{sent_by}
use Rattle.steps.proofs.Parts.{sends}
use Rattle.steps.proofs.applying.post.Goals as goal

pub returns : goal.returns
returns g c = λ start rs ds ks.
    let l = sent_by c.args.numbers.now.replicas c.args.post in
    rw (c.send.ensures, c.count_post.ensures start, c.post_count.ensures)
    (sends start c.args.numbers.now (tables rs ds ks c.args.messages.now c.args.journal.now) c.requires.kept c.requires.messages_fit c.requires.journal_fits l c.requires.room)
