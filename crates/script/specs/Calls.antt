-- The call lines of a script.
use Rattle.std.specs.Prelude.{ℕ, cond, List, [], ◌∷◌, length, drop, Some, None, Ok, Err, codes, Option, Result, ◌==◌, nat_eq}
use Rattle.std.specs.Option.{ok_or}
use Rattle.std.specs.Result.{result_map_both}
use Rattle.std.specs.Str.{bytes_eq}
use Rattle.figure.specs.declared.fault.FigureFault.{FigureFault}
use Rattle.figure.specs.declared.kind.FigureKind.{Ghosts}
use Rattle.model.specs.declared.calls.Call.{Call}
use Rattle.model.specs.declared.journal.ReadKind.{ReadKind}
use Rattle.model.specs.declared.parties.Party.{Party}
use Rattle.text.specs.Fields.{fields, field_at}
use Rattle.text.specs.Lines.{is_text}
use Rattle.text.specs.Partial.{ok_then}
use Rattle.script.specs.declared.fault.TextFault.{TextFault}
use Rattle.script.specs.Words.{number_in}

-- A figure's fault is one of the text, with its cause whole.
abbrev pub of_figure : {A : Type 0} → Result A FigureFault → Result A TextFault
of_figure r = result_map_both (λ a. a) TextFault.Figure r

-- The figure that all the fields say: the words that fix their number come first, then that number, then the rest.
abbrev pub figure_in : {F : Type 0} → Ghosts F → List (List ℕ) → Result F TextFault
figure_in kind fs =
    ok_then (of_figure (kind.wanted fs))
    (λ n. cond (length fs == n) (of_figure (kind.reading fs)) (Err TextFault.FieldCount))

-- How a read goes, by its word.
unfoldable pub read_kind : List ℕ → Option ReadKind
read_kind w =
    cond (bytes_eq w (codes "quick")) (Some ReadKind.Quick)
    (cond (bytes_eq w (codes "settled")) (Some ReadKind.Settled)
    (cond (bytes_eq w (codes "relay")) (Some ReadKind.Relay) None))

-- A reader and how it reads.
abbrev pub read_in : {F : Type 0} → List (List ℕ) → Result (Call F) TextFault
read_in fs =
    cond (length fs == 2)
    (ok_then (number_in (field_at fs 0) 1) (λ n.
    ok_then (ok_or (read_kind (field_at fs 1)) (TextFault.UnknownWord 2)) (λ kind. Ok (Call.Read n kind))))
    (Err TextFault.FieldCount)

-- The number in the one field that is left, which stands in this field of the line.
abbrev pub only_number : List (List ℕ) → ℕ → Result ℕ TextFault
only_number fs field = cond (length fs == 1) (number_in (field_at fs 0) field) (Err TextFault.FieldCount)

-- The party that a word and the fields behind it name.
abbrev pub party_by : List ℕ → List (List ℕ) → Result Party TextFault
party_by w fs =
    cond (bytes_eq w (codes "cabinet")) (ok_then (only_number fs 2) (λ n. Ok (Party.Replica n)))
    (cond (bytes_eq w (codes "console")) (ok_then (only_number fs 2) (λ n. Ok (Party.Reader n)))
    (cond (bytes_eq w (codes "station")) (cond (length fs == 0) (Ok Party.Writer) (Err TextFault.FieldCount))
    (Err (TextFault.UnknownWord 1))))

-- The party to halt. Its word fixes the number of fields, and a missing word is one too few.
abbrev pub party_in : List (List ℕ) → Result Party TextFault
party_in fs = cond (length fs == 0) (Err TextFault.FieldCount) (party_by (field_at fs 0) (drop 1 fs))

-- The call that a letter and the fields behind it say.
abbrev pub lettered_call : {F : Type 0} → Ghosts F → ℕ → List (List ℕ) → Result (Call F) TextFault
lettered_call kind letter fs =
    cond (nat_eq letter 87 {- W -}) (ok_then (figure_in kind fs) (λ f. Ok (Call.Write f)))
    (cond (nat_eq letter 82 {- R -}) (read_in fs)
    (cond (nat_eq letter 68 {- D -}) (ok_then (only_number fs 1) (λ n. Ok (Call.Deliver n)))
    (cond (nat_eq letter 88 {- X -}) (ok_then (only_number fs 1) (λ n. Ok (Call.Drop n)))
    (cond (nat_eq letter 65 {- A -}) (ok_then (only_number fs 1) (λ n. Ok (Call.Duplicate n)))
    (cond (nat_eq letter 72 {- H -}) (ok_then (party_in fs) (λ p. Ok (Call.Halt p)))
    (Err (TextFault.UnknownWord 0)))))))

-- The call that the fields of a line say: the first is one letter.
abbrev pub call_in : {F : Type 0} → Ghosts F → List (List ℕ) → Result (Call F) TextFault
call_in kind [] = Err (TextFault.UnknownWord 0)
call_in kind ([] ∷ fs) = Err (TextFault.UnknownWord 0)
call_in kind ((letter ∷ []) ∷ fs) = lettered_call kind letter fs
call_in kind ((letter ∷ (b ∷ bs)) ∷ fs) = Err (TextFault.UnknownWord 0)

-- The call that a line says.
abbrev pub call_of : {F : Type 0} → Ghosts F → List ℕ → Result (Call F) TextFault
call_of kind line = cond (is_text line) (call_in kind (fields line)) (Err TextFault.NotText)
