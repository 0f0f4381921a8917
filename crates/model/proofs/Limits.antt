-- The counts of the journal are those of the history, and no operation sends more than its limit unless a message of it was copied.
use Rattle.std.proofs.Common.{◌≡◌, ℕ, pred, ◌+◌, ◌*◌, ◌<◌, ◌≤◌, min, [], ◌∷◌, ◌++◌, length, sym, refl, ap, ◌∙◌, inl, inr, arith}
use lib.ListN.{length-replicate}
use Rattle.std.proofs.lemmas.List.{get_or_past}
use Rattle.std.proofs.lemmas.Bool.{cases_lt}
use Rattle.quorum.specs.Sets.{Rule}
use Rattle.model.specs.declared.parties.Party.{Party}
use Rattle.model.specs.declared.journal.OperationKind.{OperationKind}
use Rattle.model.specs.declared.journal.Operation.{Operation}
use Rattle.model.specs.declared.calls.Call.{Call}
use Rattle.model.specs.State.{State, no_line, new_mark, new_reader, fresh, line}
use Rattle.model.specs.Steps.{Outcome, step}
use Rattle.model.specs.History.{Event, History, event}
use Rattle.model.specs.Claims.{asked, Starts, Uncopied, of_operation, sent_for, limit, Limits}
use Rattle.model.proofs.Lists.{at_old, at_new, at_cases}
use Rattle.model.proofs.Spending.{remaining, CopiesNone, Shaped, Stepped, step_stepped}

module _ {F : Type 0} where
  sent_for_more : (n : ℕ) (h : History F) (e : Event F)
      → sent_for n (h ++ e ∷ []) ≡ sent_for n h + of_operation n e.sent
  unfolding sent_for
  sent_for_more n [] e = omega arith
  sent_for_more n (d ∷ h) e = omega (arith, sent_for_more n h e)

  pub record Accounted (rule : Rule) (h : History F) (s : State F) : Type 0 where
    shape : Shaped rule s
    -- nothing was sent for an operation that has not started
    past : (n : ℕ) → length s.journal < n → sent_for n h ≡ 0
    counts : (n : ℕ) → 1 ≤ n → n ≤ length s.journal → (line s n).sent ≡ min (sent_for n h) 65535
    -- an operation that started has a line of the kind that its call says
    pub known : (m n : ℕ) (p : Party) (k : OperationKind) → Starts h m n p k
        → (1 ≤ n) × (n ≤ length s.journal) × ((line s n).kind ≡ k)
    -- what was sent for an operation, and what may still be sent, is within its limit
    within : (n : ℕ) → 1 ≤ n → n ≤ length s.journal → Uncopied h n
        → sent_for n h + remaining rule s n ≤ limit rule.size (line s n).kind

  pub fresh_accounted : (rule : Rule) (start : F) (readers message_room journal_room : ℕ)
      → Accounted rule [] (fresh rule start readers message_room journal_room)
  unfolding fresh sent_for
  fresh_accounted rule start readers message_room journal_room = record {
    shape =
        length-replicate (rule.size * readers) new_mark ∙ ap (λ (k : ℕ). rule.size * k)
        (sym (length-replicate readers (new_reader start)));
    past = λ n h. refl;
    counts = λ n b h. absurd (omega arith);
    known = λ m n p k i. absurd i.1;
    within = λ n b h u. absurd (omega arith);
  }

  more_accounted : (rule : Rule) (h : History F) (s : State F) (c : Call F) (o : Outcome F) → Stepped rule s c o
      → Accounted rule h s → Accounted rule (h ++ event c o ∷ []) o.next
  more_accounted rule h s c o t g = record {
    shape = t.shape;
    past = λ n b. omega (arith, sent_for_more n h (event c o), t.past n b, g.past n (omega (arith, t.more_lines)));
    counts = λ n b i. elim (cases_lt (length s.journal) n) [
      | inl new ↦
          let none = ap (λ (x : Operation F). x.sent)
          (get_or_past s.journal (pred n) (no_line s.start) (omega arith)) in
          omega (arith, sent_for_more n h (event c o), t.counts n b i, g.past n new)
      | inr old ↦ omega (arith, sent_for_more n h (event c o), t.counts n b i, g.counts n b old)
    ];
    known = λ m n p kind i. elim (at_cases h (event c o) m i.0 i.1) [
      | inl old ↦
          let k = g.known m n p kind (i.0, old, i.2, i.3) in
          (k.0, omega (arith, t.more_lines), t.kind_kept n k.0 k.1 ∙ k.2)
      | inr new ↦ t.starts n p kind (ap (λ (x : Event F). asked x.call) new.1 ∙ i.2) (ap (λ (x : Event F). x.reply) new.1 ∙ i.3)
    ];
    within = λ n b i u. elim (cases_lt (length s.journal) n) [
      | inl new ↦ omega (arith, sent_for_more n h (event c o), g.past n new, t.opens n new i)
      | inr old ↦
          let older : Uncopied h n = λ m place e a at call taken op. u m place e a (at_old h (event c o) m e at) call
          taken op in
          let none : CopiesNone n c o = λ place a call taken op. u (length h) place (event c o) a
          (at_new h (event c o)) call taken op in
          let same = ap (limit rule.size) (t.kind_kept n b old) in
          omega (arith, sent_for_more n h (event c o), g.within n b old older, t.spends n b old none)
    ];
  }

  pub step_accounted : (rule : Rule) (h : History F) (s : State F) (c : Call F) → Accounted rule h s
      → Accounted rule (h ++ event c (step rule s c) ∷ []) (step rule s c).next
  step_accounted rule h s c g =
      more_accounted rule h s c (step rule s c)
      (step_stepped rule s g.shape (λ n b i. omega (arith, g.counts n b i)) c) g

  pub limits : (rule : Rule) (h : History F) (s : State F) → Accounted rule h s → Limits rule h s
  limits rule h s g = record {
    true_counts = g.counts;
    bounded = λ m n p kind i u.
        let k = g.known m n p kind i in
        omega (arith, g.counts n k.0 k.1, g.within n k.0 k.1 u, ap (limit rule.size) k.2);
  }
