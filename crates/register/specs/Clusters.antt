-- A register with its tables, as one state of the model, and what a call on it carries.
use Rattle.std.specs.Prelude.{◌≡◌, ℕ, ◌*◌, true, false, List, [], replicate, Ok, Err, vec_items, vec_len, Result}
use Rattle.quorum.specs.Sets.{Rule}
use Rattle.quorum.specs.declared.system.QuorumSystem.{Ghosts}
use Rattle.model.specs.declared.calls.Call.{Call}
use Rattle.model.specs.Answers.{Answer}
use Rattle.model.specs.declared.answers.Refusal.{Refusal}
use Rattle.model.specs.State.{State, fresh, new_replica, new_reader, new_mark}
use Rattle.model.specs.Steps.{step}
use Rattle.model.specs.History.{Grows}
use Rattle.register.specs.declared.service.Draft.{Draft}
use Rattle.register.specs.declared.service.cluster.OwnedTables.{OwnedTables}
use Rattle.register.specs.declared.service.cluster.Cluster.{Cluster}
use Rattle.register.specs.declared.service.cluster.Unfounded.{Unfounded}
use Rattle.register.specs.declared.service.cluster.UnfoundedCause.{UnfoundedCause}
use Rattle.tables.specs.View.{Tables, view}
use Rattle.register.specs.Owned.{owned}
use Rattle.register.specs.Histories.{Lengthens}
use Rattle.register.specs.Calls.{meaning}
use Rattle.register.specs.Runs.{Trace, Extends}
use Rattle.register.specs.Service.{drafted, rooms_fit}

abbrev pub cluster_tables : {R F : Type 0} → Cluster R F → Tables F
cluster_tables x = owned x.register.numbers.message_room x.tables

abbrev pub cluster_state : {R F : Type 0} → Cluster R F → State F
cluster_state x = view x.register.start x.register.numbers (cluster_tables x)

abbrev pub cluster_rule : {R F : Type 0} → Ghosts R → Cluster R F → Rule
cluster_rule g x = meaning g x.register

-- New tables for a draft, with room for so many messages, twice, and for so many lines.
pub record Made {R F : Type 0} (d : Draft R F) (message_room journal_room : ℕ) (o : OwnedTables F)
    : Type 0 where
  pub replicas : vec_items o.replicas ≡ replicate d.replicas (new_replica d.start)
  pub readers : vec_items o.readers ≡ replicate d.readers (new_reader d.start)
  pub marks : vec_items o.marks ≡ replicate (d.replicas * d.readers) new_mark
  pub queue : vec_len o.queue ≡ 2 * message_room
  pub head : o.head ≡ 0
  pub journal : vec_len o.journal ≡ journal_room

-- A call is the model's step: its answer, and what it leaves. It makes each history that led to the register longer.
pub record Steps {R F : Type 0} (g : Ghosts R) (c : Call F) (x : Cluster R F) (r : Answer F) (x' : Cluster R F) : Type 0 where
  pub rule : cluster_rule g x' ≡ cluster_rule g x
  pub start : x'.register.start ≡ x.register.start
  pub answer : r ≡ (step (cluster_rule g x) (cluster_state x) c).reply
  pub state : cluster_state x' ≡ (step (cluster_rule g x) (cluster_state x) c).next
  pub lengthens : Lengthens (cluster_rule g x) x.register.start c (cluster_state x) (cluster_state x')

-- A list of calls, one after the other.
abbrev pub ClusterRan : {R F : Type 0} → Ghosts R → Cluster R F → List (Call F) → List (Answer F) → Cluster R F
    → Type 0
ClusterRan g x cs rs x' = Trace (Steps g) x cs rs x'

-- A newly founded cluster of a draft, with so much room. Whatever is called from here on, each call on what the one before left:
-- the answers are those of one history, and under a lawful rule that history is served.
pub record NewCluster {R F : Type 0} (g : Ghosts R) (d : Draft R F) (message_room journal_room : ℕ) (x : Cluster R F)
    : Type 0 where
  pub rule : cluster_rule g x ≡ drafted g d
  pub start : x.register.start ≡ d.start
  pub state : cluster_state x ≡ fresh (drafted g d) d.start d.readers message_room journal_room
  pub begins : Grows (cluster_rule g x) x.register.start [] (cluster_state x)
  pub serves : (cs : List (Call F)) (rs : List (Answer F)) (x' : Cluster R F) → ClusterRan g x cs rs x'
      → Extends (cluster_rule g x) x.register.start cs (cluster_state x) rs (cluster_state x') []

-- What keeps a draft from being founded: rooms outside their limits, which is the refusal of a table's length, or within them
-- want of memory.
abbrev pub Hinders : {R F : Type 0} → Draft R F → ℕ → ℕ → UnfoundedCause → Type 0
Hinders d message_room journal_room (UnfoundedCause.Refused e) =
    (rooms_fit d message_room journal_room ≡ false) × (e ≡ Refusal.TableLength)
Hinders d message_room journal_room (UnfoundedCause.Memory e) = rooms_fit d message_room journal_room ≡ true

-- What founding comes to: a new cluster, or the draft as it was, with the cause.
abbrev pub Founded : {R F : Type 0} → Ghosts R → Draft R F → ℕ → ℕ → Result (Cluster R F) (Unfounded R F)
    → Type 0
Founded g d message_room journal_room (Ok x) =
    (rooms_fit d message_room journal_room ≡ true) × NewCluster g d message_room journal_room x
Founded g d message_room journal_room (Err u) =
    Hinders d message_room journal_room u.cause × (u.draft ≡ d)
