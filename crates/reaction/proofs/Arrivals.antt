-- A message that waits in sound tables is deliverable, and its delivery is what its reaction comes to.
use Rattle.std.proofs.Common.{◌≡◌, ℕ, ◌<◌, true, length, ap, ◌∙◌, arith, length-take}
use Rattle.std.proofs.ByRecursion.{All-get_or}
use Rattle.quorum.specs.Sets.{Rule}
use Rattle.model.specs.State.{State, no_message, message, without, without_message}
use Rattle.model.specs.Sound.{sound}
use Rattle.model.specs.Steps.{deliver}
use Rattle.model.proofs.SoundTables.{Fits, sound_tells}
use Rattle.tables.specs.declared.numbers.Numbers.{Numbers}
use Rattle.tables.specs.View.{Tables, view, Fitting, Kept}
use Rattle.reaction.specs.Reactions.{reaction, beside_messages, Deliverable}
use Rattle.reaction.specs.Applied.{applied}
use Rattle.reaction.proofs.Reacting.{reacts, same_reaction}

module _ {F : Type 0} (rule : Rule) (start : F) (n : Numbers) (t : Tables F) (kept : Kept n) (fit : Fitting n t)
    (e : sound rule (view start n t) ≡ true) (place : ℕ) (waits : place < n.waiting) where
  abbrev seen : State F
  seen = view start n t

  abbrev beside : State F
  beside = beside_messages start n t.replicas t.readers t.marks t.journal

  fits : Fits rule seen (message seen place)
  fits =
      let all = sound_tells rule seen e in
      let long = length-take n.waiting t.messages in
      let within : place < length seen.messages = omega (arith, long, waits, fit.messages, kept.room) in
      All-get_or (Fits rule seen) seen.messages place (no_message start) within all.all_fit

  pub deliverable : Deliverable rule n beside (message seen place)
  deliverable = record {
    kept = kept;
    replicas = fit.replicas;
    readers = fit.readers;
    marks = fit.marks;
    addressed = fits.0;
    recorded = fits.1;
  }

  pub delivers : deliver rule seen place
      ≡ applied (without_message seen place) rule.size (reaction rule beside (message seen place))
  unfolding deliver
  delivers =
      reacts rule (without_message seen place) (message seen place) fits.0 fits.1
      ∙ ap (λ r. applied (without_message seen place) rule.size r)
      (same_reaction rule beside (without seen.messages place) (message seen place))
