-- Worked examples of the definitions: fields, and what they come to.
use Rattle.std.specs.Prelude.{ℕ, Bool, true, ◌&&◌, List, [], ◌∷◌, ◌++◌, Ok, Err, codes, decimal, Result}
use Rattle.std.specs.Str.{bytes_eq}
use Rattle.figure.specs.Faults.{fault_number, fault_field}
use Rattle.text.specs.Fields.{fields}
use Rattle.figure.specs.Orders.{order_reading, order_shown}
use Rattle.figure.specs.Tides.{tide_reading, tide_shown}
use Rattle.figure.specs.declared.fault.FigureFault.{FigureFault}

-- a figure printed again, or the number and the field of a fault
abbrev pub said : {F : Type 0} → (F → List ℕ) → Result F FigureFault → List ℕ
said shown (Ok f) = shown f
said shown (Err e) = decimal (fault_number e) ++ (9 ∷ decimal (fault_field e))

abbrev pub tide_said : List ℕ → List ℕ
tide_said text = said tide_shown (tide_reading (fields text))

abbrev pub order_said : List ℕ → List ℕ
order_said text = said order_shown (order_reading (fields text))

-- each text says what stands beside it
abbrev pub all_said : (List ℕ → List ℕ) → List (List ℕ × List ℕ) → Bool
all_said say [] = true
all_said say (row ∷ rows) = bytes_eq (say row.0) row.1 && all_said say rows

abbrev pub tides : List (List ℕ × List ℕ)
tides =
    (codes "1250\t480", codes "1250\t480") ∷ (
    (codes "-20000\t1439", codes "-20000\t1439") ∷ (
    (codes "-0\t000007", codes "0\t7") ∷ (
    (codes "20001\t0", codes "15\t0") ∷ (
    (codes "-20001\t1440", codes "15\t0") ∷ (
    (codes "0\t1440", codes "15\t1") ∷ (
    (codes "0\t-1", codes "15\t1") ∷ (
    (codes "0000001\t0", codes "15\t0") ∷ (
    (codes "+1\t0", codes "15\t0") ∷ (
    (codes "-\t0", codes "15\t0") ∷ (
    (codes "\t0", codes "15\t0") ∷ (
    (codes "1 \t0", codes "15\t0") ∷ [])))))))))))

abbrev pub orders : List (List ℕ × List ℕ)
orders =
    (codes "hold", codes "hold") ∷ (
    (codes "dig\t60000\tstarboard", codes "dig\t60000\tstarboard") ∷ (
    (codes "dig\t09000\tport", codes "dig\t9000\tport") ∷ (
    (codes "dig\t0\tboth", codes "dig\t0\tboth") ∷ (
    (codes "shift\t9999", codes "shift\t9999") ∷ (
    (codes "", codes "13\t0") ∷ (
    (codes "Hold", codes "13\t0") ∷ (
    (codes "dig\t60001\tleft", codes "15\t1") ∷ (
    (codes "dig\t60000\tleft", codes "13\t2") ∷ (
    (codes "dig\t-0\tport", codes "15\t1") ∷ (
    (codes "shift\t10000", codes "15\t1") ∷ (
    (codes "shift\t", codes "15\t1") ∷ [])))))))))))
