-- A register over filled tables is newly in service.
use Rattle.std.proofs.Common.{◌≡◌, ℕ, true, [], length, replicate, sym, refl, ap, ◌∙◌, subst, arith}
use Rattle.std.proofs.lemmas.Bool.Decides.{nat_tests}
use Rattle.quorum.specs.declared.system.QuorumSystem.{Ghosts}
use Rattle.model.specs.Stamps.{no_stamp}
use Rattle.model.specs.State.{State, fresh, new_replica, new_reader, new_mark}
use Rattle.model.specs.History.{Grows, begun}
use Rattle.register.proofs.Running.{runs}
use Rattle.tables.specs.declared.numbers.Numbers.{Numbers}
use Rattle.register.specs.declared.service.Draft.{Draft}
use Rattle.register.specs.declared.service.Register.{Register}
use Rattle.tables.specs.View.{Tables, view, Fitting, Kept}
use Rattle.register.specs.Calls.{meaning}
use Rattle.register.specs.Commissioning.{new_numbers, Filled}
use Rattle.register.specs.Service.{drafted, rooms_fit, allowed, Opened, InService}

module _ {R F : Type 0} (d : Draft R F) where
  pub kept_first : (message_room journal_room : ℕ) → rooms_fit d message_room journal_room ≡ true → (n : Numbers)
      → n ≡ new_numbers d.replicas d.readers message_room journal_room → Kept n
  unfolding no_stamp
  kept_first message_room journal_room fit n e = rw e (record {
    some_replica = d.some_replica;
    few_replicas = d.few_replicas;
    some_reader = d.some_reader;
    few_readers = d.few_readers;
    room = omega arith;
    few_messages = grind (arith, nat_tests);
    lines_fit = omega arith;
    few_lines = grind (arith, nat_tests);
    stamps = omega arith;
  })

  module _ (g : Ghosts R) (t : Tables F) (fit : allowed d t ≡ true) (filled : Filled d.start t) where
    abbrev first : Numbers
    first = new_numbers d.replicas d.readers (length t.messages) (length t.journal)

    fits : Fitting first t
    fits = record {
      replicas = grind (arith, nat_tests);
      readers = grind (arith, nat_tests);
      marks = grind (arith, nat_tests);
      messages = refl;
      journal = refl;
    }

    state : view d.start first t ≡ fresh (drafted g d) d.start d.readers (length t.messages) (length t.journal)
    unfolding fresh
    state =
        let rs = filled.replicas ∙ ap (λ (n : ℕ). replicate n (new_replica d.start)) fits.replicas in
        let ds = filled.readers ∙ ap (λ (n : ℕ). replicate n (new_reader d.start)) fits.readers in
        let ks = filled.marks ∙ ap (λ (n : ℕ). replicate n new_mark) fits.marks in
        rw (rs, ds, ks)

    begins : Grows (drafted g d) d.start [] (view d.start first t)
    begins = subst (λ (s : State F). Grows (drafted g d) d.start [] s) (sym state) (begun _ _ _)

    pub in_service : (x : Register R F) → Opened d (length t.messages) (length t.journal) x → InService g d x t
    in_service x o =
        let f : Fitting x.numbers t = rw o.numbers fits in
        let b : Grows (meaning g x) x.start [] (view x.start x.numbers t) = rw (o.rule, o.start, o.numbers) begins in
        record {
          opened = o;
          same_meaning = rw (o.rule, o.numbers);
          state = rw (o.start, o.numbers) state;
          fits = f;
          begins = b;
          serves = λ cs rs x' t' ran. let r = runs g x t cs rs x' t' ran in (r.fits f, r.extends f [] b);
        }
