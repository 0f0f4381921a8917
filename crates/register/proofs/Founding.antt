-- A draft's register over new tables of its own.
use Rattle.std.proofs.Common.{◌≡◌, ℕ, ◌+◌, ◌<◌, ◌≤◌, true, List, length, replicate, vec_items, vec_len, sym, ap, ◌∙◌, subst, ap₂, arith}
use Rattle.std.proofs.lemmas.List.{length-replicate}
use Rattle.std.proofs.lemmas.Bool.{eq-eqb}
use Rattle.std.proofs.lemmas.Bool.Decides.{nat_tests}
use Rattle.quorum.specs.declared.system.QuorumSystem.{Ghosts}
use Rattle.model.specs.State.{State, fresh}
use Rattle.model.specs.Sound.{sound}
use Rattle.model.proofs.SoundCalls.{fresh_sound}
use Rattle.tables.specs.declared.numbers.Numbers.{Numbers}
use Rattle.register.specs.declared.service.Draft.{Draft}
use Rattle.register.specs.declared.service.Register.{Register}
use Rattle.register.specs.declared.service.cluster.OwnedTables.{OwnedTables}
use Rattle.tables.specs.Judged.{of_size}
use Rattle.tables.specs.View.{Tables, view, Fitting}
use Rattle.steps.specs.Queueing.{window}
use Rattle.steps.proofs.Queues.{window_long}
use Rattle.register.specs.Owned.{owned}
use Rattle.register.specs.Service.{drafted, rooms_fit, allowed, Opened, InService}
use Rattle.register.specs.Clusters.{Made}
use Rattle.register.proofs.Commissions.{in_service}

many : {A : Type 0} (l : List A) (n : ℕ) (x : A) → l ≡ replicate n x → length l ≡ n
many l n x e = ap length e ∙ length-replicate n x

only : {A : Type 0} (l : List A) (n : ℕ) (x : A) → l ≡ replicate n x → l ≡ replicate (length l) x
only l n x e = e ∙ ap (λ k. replicate k x) (sym (many l n x e))

module _ {R F : Type 0} (g : Ghosts R) (d : Draft R F) (message_room journal_room : ℕ)
    (fit : rooms_fit d message_room journal_room ≡ true) (o : OwnedTables F) (m : Made d message_room journal_room o)
    (x : Register R F) (opened : Opened d message_room journal_room x) where
  abbrev new : Tables F
  new = owned message_room o

  messages_long : length new.messages ≡ message_room
  messages_long = window_long o.head message_room (vec_items o.queue) (omega (arith, m.head, m.queue, o.queue.ok.0))

  journal_long : length new.journal ≡ journal_room
  journal_long = sym o.journal.ok.0 ∙ m.journal

  is_allowed : allowed d new ≡ true
  is_allowed =
      rw (
        eq-eqb _ _ (many new.replicas _ _ m.replicas),
        eq-eqb _ _ (many new.readers _ _ m.readers),
        eq-eqb _ _ (many new.marks _ _ m.marks),
        messages_long,
        journal_long,
      ) fit

  room_is : x.numbers.message_room ≡ message_room
  room_is = ap (λ (n : Numbers). n.message_room) opened.numbers

  pub service : InService g d x (owned x.numbers.message_room o)
  service =
      subst (λ (k : ℕ). InService g d x (owned k o)) (sym room_is)
      (in_service d g new is_allowed
      (record { replicas = only _ _ _ m.replicas; readers = only _ _ _ m.readers; marks = only _ _ _ m.marks })
      x (rw (messages_long, journal_long) opened))

  pub state_is : view x.start x.numbers (owned x.numbers.message_room o)
      ≡ fresh (drafted g d) d.start d.readers message_room journal_room
  state_is =
      service.state
      ∙ ap₂ (fresh (drafted g d) d.start d.readers)
      (ap (λ (k : ℕ). length (window o.head k (vec_items o.queue))) room_is ∙ messages_long) journal_long

  -- what the type of a cluster keeps
  pub new_cluster
      : record {
        fits : Fitting x.numbers (owned x.numbers.message_room o);
        queue_fits : o.head + x.numbers.message_room ≤ vec_len o.queue;
        queue_slack : x.numbers.message_room < vec_len o.queue;
        sound : sound (of_size x.numbers.replicas) (view x.start x.numbers (owned x.numbers.message_room o)) ≡ true;
      }
  unfolding fresh
  new_cluster =
      let least = d.some_replica in
      let some_room : 1 ≤ message_room = grind (arith, nat_tests) in
      record {
        fits = service.fits;
        queue_fits = omega (arith, room_is, m.head, m.queue);
        queue_slack = omega (arith, room_is, m.queue, some_room);
        sound =
            ap₂ (λ (size : ℕ) (s : State F). sound (of_size size) s) (ap (λ (n : Numbers). n.replicas) opened.numbers) service.state
            ∙ fresh_sound (of_size d.replicas) d.start d.readers _ _;
      }
