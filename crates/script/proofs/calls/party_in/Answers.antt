use Rattle.std.proofs.Common.{◌≡◌, codes, rules}
use Rattle.std.proofs.lemmas.Slice.Eq.{text_from_reads}
use Rattle.script.proofs.calls.party_in.Goals as goal

pub returns-in_err-only_number-in-cabinet : goal.returns-in_err-only_number-in-cabinet
returns-in_err-only_number-in-cabinet c =
    let word : c.next_field.result.now ≡ codes "cabinet" = text_from_reads _ (codes "cabinet") (search rules) (search rules) in
    search rules

pub returns-in_err-only_number-in-console : goal.returns-in_err-only_number-in-console
returns-in_err-only_number-in-console c =
    let word : c.next_field.result.now ≡ codes "console" = text_from_reads _ (codes "console") (search rules) (search rules) in
    search rules

pub returns-in_ok-only_number-in-cabinet : goal.returns-in_ok-only_number-in-cabinet
returns-in_ok-only_number-in-cabinet c =
    let word : c.next_field.result.now ≡ codes "cabinet" = text_from_reads _ (codes "cabinet") (search rules) (search rules) in
    search rules

pub returns-in_ok-only_number-in-console : goal.returns-in_ok-only_number-in-console
returns-in_ok-only_number-in-console c =
    let word : c.next_field.result.now ≡ codes "console" = text_from_reads _ (codes "console") (search rules) (search rules) in
    search rules

pub returns-in-station : goal.returns-in-station
returns-in-station c =
    let word : c.next_field.result.now ≡ codes "station" = text_from_reads _ (codes "station") (search rules) (search rules) in
    search rules

pub returns-in-station-2 : goal.returns-in-station-2
returns-in-station-2 c =
    let word : c.next_field.result.now ≡ codes "station" = text_from_reads _ (codes "station") (search rules) (search rules) in
    search rules
