-- The register's read is the model's.
use Rattle.std.proofs.Common.{◌≡◌, ℕ, suc, ◌+◌, ◌<◌, ◌≤◌, [], ◌∷◌, ◌++◌, length, get_or, take, set, Some, None, Option, refl, subst, arith, Ok, Err}
use Rattle.quorum.specs.Sets.{Rule}
use Rattle.model.specs.declared.parties.Party.{Party}
use Rattle.model.specs.declared.journal.OperationKind.{OperationKind}
use Rattle.model.specs.declared.journal.ReadKind.{ReadKind}
use Rattle.model.specs.declared.calls.Call.{Call}
use Rattle.model.specs.declared.reader.Reader.{Reader}
use Rattle.model.specs.declared.answers.Reply.{Reply}
use Rattle.model.specs.declared.answers.Refusal.{Refusal}
use Rattle.model.specs.Stamps.{Stamp, no_stamp}
use Rattle.model.specs.State.{State, Held, stored, unused, new_reader}
use Rattle.model.specs.Deliveries.{to_all}
use Rattle.model.specs.Steps.{Outcome, tests, first_of, overfull, done, read, opening_phase, opening_message}
use Rattle.tables.specs.declared.numbers.Numbers.{Numbers}
use Rattle.tables.specs.View.{Tables, tables, view, Kept}
use Rattle.steps.specs.Starting.{started, opened_line}
use Rattle.steps.specs.Doing.{judged, Does}
use Rattle.steps.specs.Refusing.{read_tests}
use Rattle.steps.proofs.Judging.{ruled, judged_by, declines}
use Rattle.steps.proofs.Renumbered.{lines_are}
use Rattle.steps.proofs.Starts.{more_wait, request, starts}

pub no_stamp_is : no_stamp ≡ 0
unfolding no_stamp
no_stamp_is = refl

module _ {F : Type 0} (start : F) (rule : Rule) (n : Numbers) (t : Tables F) (kept : Kept n)
    (fm : length t.messages ≡ n.message_room) (fj : length t.journal ≡ n.journal_room)
    (same : rule.size ≡ n.replicas) (r : ℕ) (kind : ReadKind) where
  abbrev s : State F
  s = view start n t

  tests_are : tests rule s (Call.Read r kind) ++ (overfull s (done rule s (Call.Read r kind)), Refusal.NoRoom) ∷ []
      ≡ read_tests start n t.readers r
  unfolding tests done read
  tests_are =
      rw (more_wait start rule n t kept fm fj same (opening_message kind) _ (Party.Reader r) (unused start), lines_are n t kept fj)

  verdict : (v : Option Refusal) → v ≡ first_of (read_tests start n t.readers r)
      → judged rule s (Call.Read r kind) ≡ ruled s v (done rule s (Call.Read r kind))
  verdict v e = judged_by rule s (Call.Read r kind) (read_tests start n t.readers r) v tests_are e

  pub read_declined : (e : Refusal) → Some e ≡ first_of (read_tests start n t.readers r)
      → Does start (judged rule s (Call.Read r kind)) n t (Err e) n t
  read_declined e v = declines start _ n t e kept (verdict (Some e) v)

  -- the start of a read under a stamp and a number
  abbrev shown_at : Stamp → Held F
  shown_at z = record { stamp = z; figure = start }

  abbrev reader_at : Stamp → ℕ → Reader F → Reader F
  reader_at z i d = record d {
    operation = i;
    phase = opening_phase kind;
    replies = 0;
    best_stamp = z;
    best_figure = start;
    holders = 0;
  }

  -- what it leaves, where the call comes to this outcome
  abbrev pub After : Outcome F → Stamp → ℕ → Reader F → Type 0
  After o z i d =
      Does start o n t (Ok (Reply.Started (n.lines + 1))) (started n n.writer)
      (tables t.replicas (set t.readers r (reader_at z i d)) t.marks
      (stored (take n.waiting t.messages ++ to_all n.replicas (opening_message kind) (n.lines + 1) (Party.Reader r) (shown_at z)) t.messages)
      (stored (take n.lines t.journal
      ++ opened_line n (OperationKind.Read kind)
      (request start rule n t kept fm fj same n.writer t.readers (OperationKind.Read kind) (opening_message kind) (Party.Reader r) Party.Writer (shown_at z)) ∷ [])
      t.journal))

  first_after : n.waiting + n.replicas ≤ n.message_room → n.lines < n.journal_room
      → After (done rule s (Call.Read r kind)) no_stamp (suc (length (take n.lines t.journal))) (get_or t.readers r (new_reader start))
  unfolding done read
  first_after room line =
      starts start rule n t kept fm fj same n.writer
      (set t.readers r (reader_at no_stamp (suc (length (take n.lines t.journal))) (get_or t.readers r (new_reader start))))
      (OperationKind.Read kind) (opening_message kind) (Party.Reader r) Party.Writer (shown_at no_stamp)
      room line (omega (arith, kept.stamps))

  after : n.waiting + n.replicas ≤ n.message_room → n.lines < n.journal_room
      → (d : Reader F) → get_or t.readers r (new_reader start) ≡ d → After (done rule s (Call.Read r kind)) 0 (n.lines + 1) d
  after room line d e =
      let l = lines_are n t kept fj in
      let i : suc (length (take n.lines t.journal)) ≡ n.lines + 1 = omega arith in
      subst (λ (x : Reader F). After (done rule s (Call.Read r kind)) 0 (n.lines + 1) x) e
      (subst (λ (z : ℕ). After (done rule s (Call.Read r kind)) z (n.lines + 1) (get_or t.readers r (new_reader start))) no_stamp_is
      (subst (λ (k : ℕ). After (done rule s (Call.Read r kind)) no_stamp k (get_or t.readers r (new_reader start))) i (first_after room line)))

  pub read_done : None ≡ first_of (read_tests start n t.readers r) → n.waiting + n.replicas ≤ n.message_room
      → n.lines < n.journal_room → (d : Reader F) → get_or t.readers r (new_reader start) ≡ d
      → After (judged rule s (Call.Read r kind)) 0 (n.lines + 1) d
  read_done v room line d e = rw (verdict None v) (after room line d e)
