-- The digging orders: what their fields say, and how they are printed.
use Rattle.std.specs.Prelude.{ℕ, cond, List, [], ◌∷◌, ◌++◌, length, drop, Some, None, Ok, Err, codes, decimal, Option, Result, ◌==◌}
use Rattle.std.specs.Str.{bytes_eq}
use Rattle.text.specs.Fields.{field_at}
use Rattle.figure.specs.Limits.{Depth, Section, up_to_read}
use Rattle.text.specs.Partial.{ok_then}
use Rattle.figure.specs.declared.fault.FigureFault.{FigureFault}
use Rattle.figure.specs.declared.fault.FigureFault.TheVariants.{UnknownWord, BadNumber}
use Rattle.figure.specs.declared.order.Arm.{Arm}
use Rattle.figure.specs.declared.order.Arm.TheVariants.{Port, Starboard, Both}
use Rattle.figure.specs.declared.order.DigOrder.{DigOrder}
use Rattle.figure.specs.declared.order.DigOrder.TheVariants.{Hold, Dig, Shift}
use Rattle.figure.specs.declared.order.Verb.{Verb}
use Rattle.figure.specs.declared.order.Verb.TheVariants.{Hold as ToHold, Dig as ToDig, Shift as ToShift}

-- the arm that a word names
unfoldable pub arm_of : List ℕ → Option Arm
arm_of word =
    cond (bytes_eq word (codes "port")) (Some Port)
    (cond (bytes_eq word (codes "starboard")) (Some Starboard)
    (cond (bytes_eq word (codes "both")) (Some Both) None))

-- an order to dig, of which the first part that is missing is the fault
abbrev pub dig_from : Option Depth → Option Arm → Result DigOrder FigureFault
dig_from None arm = Err (BadNumber 1)
dig_from (Some depth) None = Err (UnknownWord 2)
dig_from (Some depth) (Some arm) = Ok (Dig depth arm)

-- an order to shift
abbrev pub shift_from : Option Section → Result DigOrder FigureFault
shift_from None = Err (BadNumber 1)
shift_from (Some section) = Ok (Shift section)

-- what an order is to do, by its first word
unfoldable pub verb_of : List ℕ → Result Verb FigureFault
verb_of word =
    cond (bytes_eq word (codes "hold")) (Ok ToHold)
    (cond (bytes_eq word (codes "dig")) (Ok ToDig)
    (cond (bytes_eq word (codes "shift")) (Ok ToShift) (Err (UnknownWord 0))))

-- how many fields an order has, its first word among them
abbrev pub verb_fields : Verb → ℕ
verb_fields ToHold = 1
verb_fields ToDig = 3
verb_fields ToShift = 2

-- how many fields an order must have by its first; where even that is missing, at least one
abbrev pub order_wanted : List (List ℕ) → Result ℕ FigureFault
order_wanted fs =
    cond (length fs == 0) (Ok 1) (ok_then (verb_of (field_at fs 0)) (λ verb. Ok (verb_fields verb)))

-- the order that the fields behind its first word say
abbrev pub order_by : Verb → List (List ℕ) → Result DigOrder FigureFault
order_by ToHold fs = Ok Hold
order_by ToDig fs = dig_from (up_to_read 60000 (field_at fs 0)) (arm_of (field_at fs 1))
order_by ToShift fs = shift_from (up_to_read 9999 (field_at fs 0))

-- the order that its fields say
abbrev pub order_reading : List (List ℕ) → Result DigOrder FigureFault
order_reading fs = ok_then (verb_of (field_at fs 0)) (λ verb. order_by verb (drop 1 fs))

-- an arm as it is printed
abbrev pub arm_shown : Arm → List ℕ
arm_shown Port = codes "port"
arm_shown Starboard = codes "starboard"
arm_shown Both = codes "both"

-- an order to dig as it is printed: its word, the depth and the arm, parted by tabs
abbrev pub dig_shown : Depth → Arm → List ℕ
dig_shown depth arm = ((codes "dig\t" ++ decimal depth.value) ++ (9 ∷ [])) ++ arm_shown arm

-- an order to shift as it is printed: its word, a tab and the section
abbrev pub shift_shown : Section → List ℕ
shift_shown section = codes "shift\t" ++ decimal section.value

-- an order as it is printed
abbrev pub order_shown : DigOrder → List ℕ
order_shown Hold = codes "hold"
order_shown (Dig depth arm) = dig_shown depth arm
order_shown (Shift section) = shift_shown section
