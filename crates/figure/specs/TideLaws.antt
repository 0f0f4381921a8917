-- Proofs of the laws of the kind of figure that tides are. Nothing here is a definition that a reader must believe: an impl
-- cites the proof of a law from specs/ only.
use Rattle.std.specs.Prelude.{◌≡◌, ◌<◌, ◌≤◌, [], ◌∷◌, length, ℤ, pos, negsuc, Ok, decimal, unsigned_abs}
use Rattle.std.proofs.Common.{append_assoc, ap, ◌∙◌, arith, length-append}
use Rattle.std.proofs.lemmas.Fmt.{length-decimal-le, length_signed_le}
use Rattle.std.specs.Int.Signed.{mag}
use Rattle.std.specs.Fmt.{signed_decimal}
use Rattle.text.specs.Fields.{fields}
use Rattle.figure.specs.Room.{figure_room}
use Rattle.figure.specs.Tides.{tide_shown, tide_wanted, tide_reading}
use Rattle.figure.specs.declared.tide.Tide.{Tide}
use Rattle.text.proofs.Parting.{fields_then, fields_last}
use Rattle.text.proofs.RoundTrip.{tabless_signed, tabless_decimal}
use Rattle.figure.specs.ReadBack.{read_level, read_up_to}

pub mag_le : (z : ℤ) → mag z ≤ unsigned_abs z
mag_le (pos n) = omega arith
mag_le (negsuc n) = omega arith

-- the fields of a tide as it is printed
pub parts : (t : Tide) → fields (tide_shown t) ≡ signed_decimal t.level.mm ∷ (decimal t.minute.value ∷ [])
parts t =
    let level = signed_decimal t.level.mm in
    let minute = decimal t.minute.value in
    ap fields (append_assoc level (9 ∷ []) minute)
    ∙ fields_then level minute (tabless_signed t.level.mm (omega (arith, t.level.ok)))
    ∙ ap (λ fs. level ∷ fs) (fields_last minute (tabless_decimal t.minute.value (omega (arith, t.minute.ok))))

-- LAWS

pub tide_short : (f : Tide) → length (tide_shown f) ≤ figure_room
tide_short t =
    let level = t.level.mm in
    let minute = t.minute.value in
    let m = mag_le level in
    let a = length_signed_le 5 level (omega (arith, t.level.ok)) (omega (arith, t.level.ok)) in
    let b = length-decimal-le 4 minute (omega arith) (omega (arith, t.minute.ok)) (omega (arith, t.minute.ok)) in
    simp length-append (omega arith)

pub tide_counts_back : (f : Tide) → tide_wanted (fields (tide_shown f)) ≡ Ok (length (fields (tide_shown f)))
tide_counts_back t = rw (parts t)

pub tide_reads_back : (f : Tide) → tide_reading (fields (tide_shown f)) ≡ Ok f
tide_reads_back t =
    let few : 1439 < 1000000 = omega arith in
    ap tide_reading (parts t) ∙ rw (read_level t.level, read_up_to 1439 few t.minute)
