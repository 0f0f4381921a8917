-- Proofs of the laws of the kind of figure that digging orders are. Nothing here is a definition that a reader must believe: an
-- impl cites the proof of a law from specs/ only.
use Rattle.std.specs.Prelude.{◌≡◌, ◌<◌, ◌≤◌, [], ◌∷◌, length, Some, Ok, codes, decimal, refl}
use Rattle.std.proofs.Common.{append_assoc, sym, ap, subst, ◌∙◌, arith, length-append}
use Rattle.std.proofs.lemmas.Fmt.{length-decimal-le}
use Rattle.text.specs.Fields.{fields}
use Rattle.figure.specs.Limits.{Depth, Section}
use Rattle.figure.specs.Room.{figure_room}
use Rattle.figure.specs.Orders.{arm_of, verb_of, arm_shown, dig_shown, shift_shown, order_shown, order_wanted, order_reading}
use Rattle.figure.specs.declared.order.Arm.{Arm}
use Rattle.figure.specs.declared.order.DigOrder.{DigOrder}
use Rattle.figure.specs.declared.order.DigOrder.TheVariants.{Hold, Dig, Shift}
use Rattle.figure.specs.declared.order.Arm.TheVariants.{Port, Starboard, Both}
use Rattle.text.proofs.Parting.{fields_then, fields_last}
use Rattle.text.proofs.RoundTrip.{tabless_decimal}
use Rattle.figure.specs.ReadBack.{read_up_to}

pub arm_short : (arm : Arm) → length (arm_shown arm) ≤ 9
arm_short Port = omega arith
arm_short Starboard = omega arith
arm_short Both = omega arith

pub arm_field : (arm : Arm) → fields (arm_shown arm) ≡ arm_shown arm ∷ []
arm_field Port = refl
arm_field Starboard = refl
arm_field Both = refl

pub read_arm : (arm : Arm) → arm_of (arm_shown arm) ≡ Some arm
unfolding arm_of
read_arm Port = refl
read_arm Starboard = refl
read_arm Both = refl

-- the fields of an order to dig as it is printed
pub dig_parts : (depth : Depth) (arm : Arm)
    → fields (dig_shown depth arm) ≡ codes "dig" ∷ (decimal depth.value ∷ (arm_shown arm ∷ []))
dig_parts depth arm =
    let digits = decimal depth.value in
    let plain = tabless_decimal depth.value (omega (arith, depth.ok)) in
    ap (λ l. codes "dig" ∷ fields l) (append_assoc digits (9 ∷ []) (arm_shown arm))
    ∙ ap (λ fs. codes "dig" ∷ fs) (fields_then digits (arm_shown arm) plain)
    ∙ ap (λ fs. codes "dig" ∷ (digits ∷ fs)) (arm_field arm)

-- and of an order to shift
pub shift_parts : (section : Section) → fields (shift_shown section) ≡ codes "shift" ∷ (decimal section.value ∷ [])
shift_parts section =
    let plain = tabless_decimal section.value (omega (arith, section.ok)) in
    ap (λ fs. codes "shift" ∷ fs) (fields_last (decimal section.value) plain)

-- LAWS

pub order_short : (f : DigOrder) → length (order_shown f) ≤ figure_room
order_short Hold = omega arith
order_short (Dig depth arm) =
    let n = depth.value in
    let digits = length-decimal-le 5 n (omega arith) (omega (arith, depth.ok)) (omega (arith, depth.ok)) in
    simp length-append (omega (arith, arm_short arm))
order_short (Shift section) =
    let n = section.value in
    let digits = length-decimal-le 4 n (omega arith) (omega (arith, section.ok)) (omega (arith, section.ok)) in
    simp length-append (omega arith)

pub order_counts_back : (f : DigOrder) → order_wanted (fields (order_shown f)) ≡ Ok (length (fields (order_shown f)))
unfolding verb_of
order_counts_back Hold = refl
order_counts_back (Dig depth arm) = subst (λ fs. order_wanted fs ≡ Ok (length fs)) (sym (dig_parts depth arm)) refl
order_counts_back (Shift section) = subst (λ fs. order_wanted fs ≡ Ok (length fs)) (sym (shift_parts section)) refl

pub order_reads_back : (f : DigOrder) → order_reading (fields (order_shown f)) ≡ Ok f
unfolding verb_of
order_reads_back Hold = refl
order_reads_back (Dig depth arm) =
    let few : 60000 < 1000000 = omega arith in
    ap order_reading (dig_parts depth arm) ∙ rw (read_up_to 60000 few depth, read_arm arm)
order_reads_back (Shift section) =
    let few : 9999 < 1000000 = omega arith in
    ap order_reading (shift_parts section) ∙ rw (read_up_to 9999 few section)
