-- A register that owns its tables: they fit, they are sound, and a call leaves them so.
use Rattle.std.proofs.Common.{◌≡◌, ℕ, ◌+◌, ◌<◌, ◌≤◌, true, List, length, vec_items, vec_len, sym, refl, ap, ◌∙◌, subst, ap₂, arith}
use Rattle.std.specs.Vec.{with_items}
use Rattle.std.proofs.lemmas.List.{with_items_is}
use Rattle.quorum.specs.Sets.{Rule}
use Rattle.quorum.specs.declared.system.QuorumSystem.{Ghosts}
use Rattle.model.specs.declared.replica.Replica.{Replica}
use Rattle.model.specs.declared.reader.Reader.{Reader}
use Rattle.model.specs.declared.marks.RelayMark.{RelayMark}
use Rattle.model.specs.declared.messages.Message.{Message}
use Rattle.model.specs.declared.journal.Operation.{Operation}
use Rattle.model.specs.declared.calls.Call.{Call}
use Rattle.model.specs.Answers.{Answer}
use Rattle.model.specs.State.{State}
use Rattle.model.specs.Sound.{sound}
use Rattle.model.specs.Steps.{Outcome, step}
use Rattle.model.proofs.SoundCalls.{sound_kept}
use Rattle.tables.specs.declared.numbers.Numbers.{Numbers}
use Rattle.register.specs.declared.service.cluster.OwnedTables.{OwnedTables}
use Rattle.register.specs.declared.service.cluster.Cluster.{Cluster}
use Rattle.tables.specs.Judged.{of_size}
use Rattle.tables.specs.View.{Tables, tables, view, Fitting, rule_for}
use Rattle.steps.specs.Doing.{judged, Advances}
use Rattle.steps.specs.Queueing.{window}
use Rattle.steps.proofs.Queues.{window_long}
use Rattle.register.specs.Owned.{owned}
use Rattle.register.specs.Clusters.{cluster_state, cluster_rule, Steps}
use Rattle.register.proofs.Histories.{step_sound, lengthens}
use Rattle.tables.proofs.WholeTables.{sound_judged}

-- The five lists that are lent to a call, of the messages the whole queue.
pub record Lent (F : Type 0) : Type 0 where
  pub replicas : List (Replica F)
  pub readers : List (Reader F)
  pub marks : List RelayMark
  pub queue : List (Message F)
  pub journal : List (Operation F)

abbrev pub lists : {F : Type 0} → OwnedTables F → Lent F
lists o = record {
  replicas = vec_items o.replicas;
  readers = vec_items o.readers;
  marks = vec_items o.marks;
  queue = vec_items o.queue;
  journal = vec_items o.journal;
}

abbrev pub lent_tables : {F : Type 0} → ℕ → ℕ → Lent F → Tables F
lent_tables head room l = tables l.replicas l.readers l.marks (window head room l.queue) l.journal

-- Each came back as long as it was.
pub record AsLong {F : Type 0} (o : OwnedTables F) (l : Lent F) : Type 0 where
  pub replicas : length l.replicas ≡ o.replicas.len
  pub readers : length l.readers ≡ o.readers.len
  pub marks : length l.marks ≡ o.marks.len
  pub queue : length l.queue ≡ o.queue.len
  pub journal : length l.journal ≡ o.journal.len

abbrev pub refilled : {F : Type 0} → OwnedTables F → ℕ → Lent F → OwnedTables F
refilled o head l = record {
  replicas = with_items o.replicas l.replicas;
  readers = with_items o.readers l.readers;
  marks = with_items o.marks l.marks;
  queue = with_items o.queue l.queue;
  head = head;
  journal = with_items o.journal l.journal;
}

refilled_are : {F : Type 0} (o : OwnedTables F) (head room : ℕ) (l : Lent F) → AsLong o l
    → owned room (refilled o head l) ≡ lent_tables head room l
refilled_are o head room l long =
    rw (
      with_items_is o.replicas l.replicas long.replicas,
      with_items_is o.readers l.readers long.readers,
      with_items_is o.marks l.marks long.marks,
      with_items_is o.queue l.queue long.queue,
      with_items_is o.journal l.journal long.journal,
    ) refl

-- What a call took of them, and what it gave back.
pub record Loan {F : Type 0} (o : OwnedTables F) : Type 0 where
  pub lent : Lent F
  pub back : Lent F
  pub is : lent ≡ lists o
  pub long : AsLong o back

-- Soundness goes by the rule's size alone.
sound_sized : {F : Type 0} (rule rule' : Rule) (s : State F) → rule.size ≡ rule'.size → sound rule s ≡ sound rule' s
sound_sized rule rule' s e =
    sym (sound_judged rule rule'.size s _ _ _ _ e refl refl refl refl)
    ∙ sound_judged rule' rule'.size s _ _ _ _ refl refl refl refl refl

pub cluster_sound : {R F : Type 0} (g : Ghosts R) (x : Cluster R F) → sound (cluster_rule g x) (cluster_state x) ≡ true
cluster_sound g x = sound_sized (cluster_rule g x) (of_size x.register.numbers.replicas) (cluster_state x) refl ∙ x.sound

-- A call behind the check, over the lists that a cluster lent.
module _ {R F : Type 0} (g : Ghosts R) (x : Cluster R F) (c : Call F) (loan : Loan x.tables) (r : Answer F) (head : ℕ)
    (n' : Numbers) (within : head + x.register.numbers.message_room ≤ length loan.lent.queue)
    (did : Advances x.register.start
    (judged (cluster_rule g x)
    (view x.register.start x.register.numbers (lent_tables x.tables.head x.register.numbers.message_room loan.lent)) c)
    x.register.numbers r n' (lent_tables head x.register.numbers.message_room loan.back)) where
  abbrev n : Numbers
  n = x.register.numbers

  abbrev start : F
  start = x.register.start

  abbrev rule : Rule
  rule = cluster_rule g x

  abbrev after : State F
  after = view start n' (owned n'.message_room (refilled x.tables head loan.back))

  -- what the tables are now
  held : owned n'.message_room (refilled x.tables head loan.back) ≡ lent_tables head n.message_room loan.back
  held =
      refilled_are x.tables head n'.message_room loan.back loan.long
      ∙ ap (λ (room : ℕ). lent_tables head room loan.back) did.sizes.message_room

  stepped : judged rule (view start n (lent_tables x.tables.head n.message_room loan.lent)) c
      ≡ step rule (cluster_state x) c
  stepped =
      ap (λ (l : Lent F). judged rule (view start n (lent_tables x.tables.head n.message_room l)) c) loan.is
      ∙ sym (step_sound rule (cluster_state x) c (cluster_sound g x))

  next : after ≡ (step rule (cluster_state x) c).next
  next = ap (λ (t : Tables F). view start n' t) held ∙ did.state ∙ ap (λ (o : Outcome F). o.next) stepped

  queue_long : length loan.lent.queue ≡ x.tables.queue.len
  queue_long = ap (λ (l : Lent F). length l.queue) loan.is ∙ sym x.tables.queue.ok.0

  -- they have the lengths that they had
  fitting : Fitting n' (owned n'.message_room (refilled x.tables head loan.back))
  fitting =
      let same = did.sizes in
      let long = loan.long in
      let o = x.tables in
      subst (Fitting n') (sym held)
      (record {
        replicas = long.replicas ∙ o.replicas.ok.0 ∙ x.fits.replicas ∙ sym same.replicas;
        readers = long.readers ∙ o.readers.ok.0 ∙ x.fits.readers ∙ sym same.readers;
        marks = long.marks ∙ o.marks.ok.0 ∙ x.fits.marks ∙ sym (rw (same.replicas, same.readers));
        messages = window_long head n.message_room loan.back.queue (omega (arith, within, queue_long, long.queue)) ∙ sym same.message_room;
        journal = long.journal ∙ o.journal.ok.0 ∙ x.fits.journal ∙ sym same.journal_room;
      })

  -- what the type of a cluster keeps
  pub still
      : record {
        fits : Fitting n' (owned n'.message_room (refilled x.tables head loan.back));
        queue_fits : head + n'.message_room ≤ vec_len x.tables.queue;
        queue_slack : n'.message_room < vec_len x.tables.queue;
        sound : sound (of_size n'.replicas) after ≡ true;
      }
  still =
      let same = did.sizes in
      record {
        fits = fitting;
        queue_fits = omega (arith, within, queue_long, same.message_room);
        queue_slack = omega (arith, x.queue_slack, same.message_room);
        sound =
            sound_sized (of_size n'.replicas) rule after same.replicas
            ∙ ap (λ (s : State F). sound rule s) next ∙ sound_kept rule (cluster_state x) c (cluster_sound g x);
      }

  pub steps : (x' : Cluster R F) → x'.register.rule ≡ x.register.rule → x'.register.start ≡ start
      → x'.register.numbers ≡ n' → cluster_state x' ≡ after → Steps g c x r x'
  steps x' same_rule same_start numbers state =
      let e : cluster_state x' ≡ (step rule (cluster_state x) c).next = state ∙ next in
      record {
        rule = ap₂ (λ (a : R) (size : ℕ). rule_for g a size) same_rule (ap (λ (m : Numbers). m.replicas) numbers ∙ did.sizes.replicas);
        start = same_start;
        answer = did.answer ∙ ap (λ (o : Outcome F). o.reply) stepped;
        state = e;
        lengthens = lengthens rule start c _ _ e;
      }
