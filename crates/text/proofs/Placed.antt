-- Bytes written into a buffer, one part after another.
use Rattle.std.proofs.Common.{◌≡◌, ℕ, ◌+◌, ◌≤◌, List, ◌++◌, length, take, drop, sym, ap, ◌∙◌, subst, append_assoc, arith, length-append, length-take-le}
use Rattle.std.proofs.lemmas.List.{take_at, drop_at, drop-drop}
use Rattle.text.specs.Printing.{put, Printed}

front : (xs : List ℕ) (at : ℕ) (bs : List ℕ) → at + length bs ≤ length xs → length (take at xs ++ bs) ≡ at + length bs
front xs at bs h = length-append (take at xs) bs ∙ ap (λ n. n + length bs) (length-take-le at xs (omega arith))

-- a text written, and another after it
pub put_put : (xs : List ℕ) (at : ℕ) (bs cs : List ℕ) → at + length bs ≤ length xs
    → put (put xs at bs) (at + length bs) cs ≡ put xs at (bs ++ cs)
put_put xs at bs cs h =
    let a = take at xs in
    let n = at + length bs in
    let r = drop n xs in
    let f = front xs at bs h in
    let t : take n (a ++ (bs ++ r)) ≡ a ++ bs = ap (take n) (sym (append_assoc a bs r)) ∙ take_at (a ++ bs) r n f in
    let d : drop n (a ++ (bs ++ r)) ≡ r = ap (drop n) (sym (append_assoc a bs r)) ∙ drop_at (a ++ bs) r n f in
    let e : drop (n + length cs) (a ++ (bs ++ r)) ≡ drop (n + length cs) xs =
    sym (drop-drop (length cs) n (a ++ (bs ++ r))) ∙ ap (drop (length cs)) d ∙ drop-drop (length cs) n xs in
    let s : n + length cs ≡ at + length (bs ++ cs) = omega (arith, length-append bs cs) in
    ap (λ x. x ++ (cs ++ drop (n + length cs) (a ++ (bs ++ r)))) t
    ∙ ap (λ x. (a ++ bs) ++ (cs ++ x)) e
    ∙ append_assoc a bs (cs ++ drop (n + length cs) xs)
    ∙ ap (λ x. a ++ x) (sym (append_assoc bs cs (drop (n + length cs) xs)))
    ∙ ap (λ m. a ++ ((bs ++ cs) ++ drop m xs)) s

-- what two writes, one after the other, come to
pub then_put : {xs ys zs bs cs : List ℕ} {at m n : ℕ} → at + length bs ≤ length xs
    → Printed xs at bs ys m → Printed ys m cs zs n → Printed xs at (bs ++ cs) zs n
then_put {xs = xs} {bs = bs} {cs = cs} {at = at} {m = m} h p q =
    record {
      all = q.all
          ∙ ap (λ x. put x m cs) p.all
          ∙ ap (λ x. put (put xs at bs) x cs) p.stop
          ∙ put_put xs at bs cs h;
      stop = omega (arith, p.stop, q.stop, length-append bs cs);
    }

-- the same bytes by another name
pub printed_as : {xs ys bs cs : List ℕ} {at n : ℕ} → bs ≡ cs → Printed xs at bs ys n → Printed xs at cs ys n
printed_as {xs = xs} {ys = ys} {at = at} {n = n} e p = subst (λ b. Printed xs at b ys n) e p
