-- What a word of a command line asks for.
use Rattle.std.specs.Prelude.{◌≡◌, ℕ, ◌⊎◌, ◌↔◌, List, Some, None, Ok, Result, IfOk, IsErr, slice_get, codes}
use Rattle.std.specs.Borrow.{Bor}
use Rattle.console.specs.declared.arguments.Request.{Request}

pub record Asks {E : Type 0} (word : Bor (List ℕ)) (r : Result Request E) : Type 0 where
  pub help : (r ≡ Ok Request.Help) ↔ ((word.now ≡ codes "-h") ⊎ (word.now ≡ codes "--help"))
  pub version : (r ≡ Ok Request.Version) ↔ ((word.now ≡ codes "-V") ⊎ (word.now ≡ codes "--version"))
  -- a dash alone names nothing
  pub dash : (r ≡ Ok (Request.Work None)) ↔ (word.now ≡ codes "-")
  pub name : IfOk r (λ q. (q ≡ Request.Help) ⊎ (q ≡ Request.Version) ⊎ (q ≡ Request.Work None) ⊎ (q ≡ Request.Work (Some word)))
  -- only what begins with a dash is refused
  pub refused : IsErr r → slice_get word.now 0 ≡ Some 45
  -- and of that nothing is worked on
  pub option : slice_get word.now 0 ≡ Some 45 → IfOk r (λ q. q ≡ Request.Work (Some word) → ⊥)
