use Rattle.std.proofs.Common.{refl}
use Rattle.quorum.proofs.Worked.{rule_examples}
use Rattle.model.proofs.Opened.{opened}
use Rattle.model.proofs.worked.worked_examples_stand.Goals as goal

pub returns : goal.returns
unfolding opened
returns c = record {
  rules = rule_examples;
  tables = record {
    works = refl;
    suits = refl;
    past_the_size = refl;
    no_party = refl;
    other_party = refl;
    no_operation = refl;
    other_kind = refl;
    other_owner = refl;
    misplaced = refl;
    unsound_read = refl;
    unsound_halt = refl;
    ahead = refl;
    ahead_dropped = refl;
  };
  relay_alone = λ start. refl;
  five_places = λ start figure. refl;
  listing = λ start first second. refl;
  listing_end = λ start first second. refl;
  rounds = λ start figure. refl;
  halts = λ start figure. refl;
  losses = λ start figure. refl;
  traffic = λ start figure. refl;
  goes_on = λ start figure. refl;
  goes_on_end = λ start figure. refl;
  counts_once = λ start figure. refl;
  writes_again = λ start first second. refl;
  puts_back = λ start figure. refl;
  relays = λ start figure. refl;
  relays_end = λ start figure. refl;
  leads = λ start figure. refl;
  refuses = λ start figure. refl;
}
