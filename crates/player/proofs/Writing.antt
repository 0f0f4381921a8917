-- What is written, piece by piece.
use Rattle.std.proofs.Common.{◌≡◌, ℕ, ◌+◌, ◌<◌, List, [], ◌++◌, length, take, drop, Some, None, Option, sym, inl, inr, ap, ◌∙◌, append_assoc, append-nil, subst, ap₂, arith}
use Rattle.std.proofs.Math.Seq.{take-append_seam}
use Rattle.std.specs.Option.{IfSome}
use Rattle.std.specs.Io.KnownBytes.{Appends, Keeps}
use Rattle.std.proofs.lemmas.Bool.{cases_lt, lt-ltb}
use Rattle.std.proofs.lemmas.List.{length-take-le, take_all}
use Rattle.text.specs.Printing.{Printed}
use Rattle.player.specs.Playing.{played}

pub appends_none : (known : Option (List ℕ)) → Appends known known []
appends_none None = tt
appends_none (Some xs) = sym (append-nil xs)

pub appends_more : (a b c : Option (List ℕ)) (xs ys : List ℕ) → Appends a b xs → Appends b c ys → Appends a c (xs ++ ys)
appends_more None b c xs ys p q = tt
appends_more (Some us) None c xs ys p q = absurd p
appends_more (Some us) (Some vs) None xs ys p q = absurd q
appends_more (Some us) (Some vs) (Some ws) xs ys p q = q ∙ ap (λ v. v ++ ys) p ∙ append_assoc us xs ys

-- the front of a buffer after printing into it
pub printed_front : (before bytes after : List ℕ) (end : ℕ) → Printed before 0 bytes after end → take end after ≡ bytes
printed_front before bytes after end p =
    let z : 0 + length bytes ≡ length bytes = omega arith in
    ap₂ take (p.stop ∙ z) p.all ∙ take-append_seam bytes (drop (0 + length bytes) before)

-- What has been written so far, and all that is to be written in the end.
pub record Progress (start now : Option (List ℕ)) (to_come all : List ℕ) : Type 0 where
  pub done : List ℕ
  pub appended : Appends start now done
  pub whole : done ++ to_come ≡ all

pub written_none : (c : Option (List ℕ)) (to_come all : List ℕ) → to_come ≡ all → Progress c c to_come all
written_none c to_come all e = record { done = []; appended = appends_none c; whole = e }

pub written_more : (a b c : Option (List ℕ)) (piece to_come rest all : List ℕ) → Progress a b to_come all
    → to_come ≡ piece ++ rest → Appends b c piece → Progress a c rest all
written_more a b c piece to_come rest all w e p = record {
  done = w.done ++ piece;
  appended = appends_more a b c w.done piece w.appended p;
  whole = append_assoc w.done piece rest ∙ ap (λ x. w.done ++ x) (sym e) ∙ w.whole;
}

pub written_all : (a b : Option (List ℕ)) (to_come all : List ℕ) → Progress a b to_come all → to_come ≡ [] → Appends a b all
written_all a b to_come all w e =
    subst (λ (x : List ℕ). Appends a b x) (sym (append-nil w.done) ∙ ap (λ x. w.done ++ x) (sym e) ∙ w.whole) w.appended

pub both : (a b c : Option (List ℕ)) (piece rest all : List ℕ) → all ≡ piece ++ rest → Appends a b piece → Appends b c rest → Appends a c all
both a b c piece rest all e p q = subst (λ (x : List ℕ). Appends a c x) (sym e) (appends_more a b c piece rest p q)

-- READING

keeps : (a b c : Option (List ℕ)) (xs : List ℕ) → Appends a b xs → Keeps b c → Appends a c xs
keeps None b c xs p q = tt
keeps (Some us) None c xs p q = absurd p
keeps (Some us) (Some vs) None xs p q = absurd q
keeps (Some us) (Some vs) (Some ws) xs p q = q ∙ p

-- a script that is too long is seen to be by one byte more than it may have
played_front : (bytes : List ℕ) → played (take 65537 bytes) ≡ played bytes
played_front bytes = elim (cases_lt 65536 (length bytes)) [
  | inl l ↦
      let front : 65536 < length (take 65537 bytes) = omega (arith, length-take-le 65537 bytes (omega arith)) in
      rw (lt-ltb 65536 (length (take 65537 bytes)) front, lt-ltb 65536 (length bytes) l)
  | inr h ↦ ap played (take_all 65537 bytes (omega arith))
]

pub played_read : (known : Option (List ℕ)) (items : List ℕ) (a b c : Option (List ℕ)) → IfSome known (λ bytes. items ≡ take 65537 bytes)
    → Appends a b (played items) → Keeps b c → IfSome known (λ bytes. Appends a c (played bytes))
played_read None items a b c r p q = tt
played_read (Some bytes) items a b c r p q =
    keeps a b c (played bytes) (subst (λ (x : List ℕ). Appends a b x) (ap played r ∙ played_front bytes) p) q
