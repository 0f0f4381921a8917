use Rattle.std.proofs.Common.{refl, ◌∙◌}
use Rattle.register.proofs.Owned.{Loan, cluster_sound, still, steps}
use Rattle.register.proofs.service.cluster.Cluster.call.Given.{Over}
use Rattle.register.proofs.service.cluster.Cluster.call.Goals.{After-step_queued}
use Rattle.register.proofs.service.cluster.Cluster.call.Goals as goal

abbrev loan : (g : Over) (c : After-step_queued g) → Loan c.args.self.now.tables
loan g c =
    let r = c.step_queued in
    record {
      lent = record {
        replicas = c.deref_mut.result.now;
        readers = c.deref_mut-2.result.now;
        marks = c.deref_mut-3.result.now;
        queue = c.deref_mut-4.result.now;
        journal = c.deref_mut-5.result.now;
      };
      back = record {
        replicas = r.new.replicas;
        readers = r.new.readers;
        marks = r.new.marks;
        queue = r.new.buffer;
        journal = r.new.journal;
      };
      is =
          rw (
            c.deref_mut.ensures.value,
            c.deref_mut-2.ensures.value,
            c.deref_mut-3.ensures.value,
            c.deref_mut-4.ensures.value,
            c.deref_mut-5.ensures.value,
          ) refl;
      long = record {
        replicas = r.auto.replicas ∙ c.deref_mut.ensures.len;
        readers = r.auto.readers ∙ c.deref_mut-2.ensures.len;
        marks = r.auto.marks ∙ c.deref_mut-3.ensures.len;
        queue = r.auto.buffer ∙ c.deref_mut-4.ensures.len;
        journal = r.auto.journal ∙ c.deref_mut-5.ensures.len;
      };
    }

pub step_queued-requires-clause-sound : goal.step_queued-requires-clause-sound
step_queued-requires-clause-sound g c =
    rw (
      c.deref_mut.ensures.value,
      c.deref_mut-2.ensures.value,
      c.deref_mut-3.ensures.value,
      c.deref_mut-4.ensures.value,
      c.deref_mut-5.ensures.value,
    ) (cluster_sound g.R.QuorumSystem c.args.self.now)

pub invariant_of-self : goal.invariant_of-self
invariant_of-self g c =
    let r = c.step_queued in
    still g.R.QuorumSystem c.args.self.now c.args.call (loan g (goal.at.invariant_of-self g c).After-step_queued) r.result r.new.head
    r.new.numbers r.ensures.within r.ensures.advances

pub returns : goal.returns
returns g c =
    let r = c.step_queued in
    steps g.R.QuorumSystem c.args.self.now c.args.call (loan g (goal.at.returns g c).After-step_queued) r.result r.new.head
    r.new.numbers r.ensures.within r.ensures.advances _ refl refl refl refl
