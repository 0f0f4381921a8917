use Rattle.std.proofs.Common.{◌≡◌, ℕ, ◌+◌, ◌<◌, length, get_or, add-one, append-nil, sym, rules}
use Rattle.std.proofs.lemmas.List.{take_rest}
use Rattle.text.proofs.Cutting.{without_take, without_all, parted}
use Rattle.text.proofs.cuts.cut_at.Goals as goal

pub returns-in-Some : goal.returns-in-Some
returns-in-Some c =
    let l = c.args.text.now in
    let n = c.in-Some.end in
    let before : (k : ℕ) → k < n → get_or l k 0 ≡ c.args.byte → ⊥ = search rules in
    let low : n < length l = search rules in
    let found : get_or l n 0 ≡ c.args.byte = search rules in
    record {
      whole = rw (take_rest l (n + 1), add-one) (parted c.args.byte l n low found);
      first = without_take c.args.byte l n before;
    }

pub returns-in-None : goal.returns-in-None
returns-in-None c =
    let l = c.args.text.now in
    let before : (k : ℕ) → k < length l → get_or l k 0 ≡ c.args.byte → ⊥ = search rules in
    record { whole = sym (append-nil l); first = without_all c.args.byte l before }
