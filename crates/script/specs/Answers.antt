-- The lines that answer a script.
use Rattle.std.specs.Prelude.{◌≡◌, ℕ, cond, List, [], ◌∷◌, ◌++◌, length, Ok, Err, codes, decimal, Result, nat_lt}
use Rattle.std.specs.Result.{result_map_both}
use Rattle.model.specs.declared.answers.Reply.{Reply}
use Rattle.model.specs.Answers.{Answer}
use Rattle.text.specs.Printing.{put}
use Rattle.script.specs.declared.fault.ScriptFault.{ScriptFault}
use Rattle.script.specs.Faults.{Report, report}

-- What a line is answered: what its call was, or the fault for which it is declined.
abbrev pub LineAnswer : Type 0 → Type 0
LineAnswer F = Result (Reply F) ScriptFault

-- What the answer to a call is as the answer to its line: the cause of a refusal is kept whole.
abbrev pub answer_of : {F : Type 0} → Answer F → LineAnswer F
answer_of a = result_map_both (λ r. r) ScriptFault.Plant a

-- A tab and a number.
abbrev pub tabbed : ℕ → List ℕ
tabbed n = 9 ∷ decimal n

-- ok, and the number of the operation that was started, or 0.
abbrev pub accepted_shown : ℕ → List ℕ
accepted_shown n = codes "ok" ++ tabbed n

-- done, the operation, its stamp and figure, the messages sent for it and its exchanges.
abbrev pub finished_shown : (operation stamp : ℕ) → List ℕ → (sent exchanges : ℕ) → List ℕ
finished_shown operation stamp figure sent exchanges =
    (((((codes "done" ++ tabbed operation) ++ tabbed stamp) ++ (9 ∷ [])) ++ figure) ++ tabbed sent) ++ tabbed exchanges

-- no, the layer that declined it, the number and the field.
abbrev pub declined_shown : Report → List ℕ
declined_shown e = ((codes "no\t" ++ e.layer) ++ tabbed e.number) ++ tabbed e.field

abbrev pub answer_shown : {F : Type 0} → (F → List ℕ) → LineAnswer F → List ℕ
answer_shown shown (Ok (Reply.Started n)) = accepted_shown n
answer_shown shown (Ok Reply.Done) = accepted_shown 0
answer_shown shown (Ok (Reply.Finished operation stamp figure sent exchanges)) =
    finished_shown operation stamp (shown figure) sent exchanges
answer_shown shown (Err e) = declined_shown (report e)

-- The line's number, a tab, the answer and a line end.
abbrev pub line_shown : {F : Type 0} → (F → List ℕ) → ℕ → LineAnswer F → List ℕ
line_shown shown n a = ((decimal n ++ (9 ∷ [])) ++ answer_shown shown a) ++ (10 ∷ [])

-- What printing a line returns, and what it leaves in the buffer: one of less than 80 bytes is refused and kept.
pub record LinePrinted (before bytes after : List ℕ) (r : Result ℕ ScriptFault) : Type 0 where
  pub answer : r ≡ cond (nat_lt (length before) 80) (Err ScriptFault.Print) (Ok (length bytes))
  pub buffer : after ≡ cond (nat_lt (length before) 80) before (put before 0 bytes)
