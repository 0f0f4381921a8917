-- The register's write is the model's.
use Rattle.std.proofs.Common.{◌≡◌, ℕ, suc, ◌+◌, ◌<◌, ◌≤◌, [], ◌∷◌, ◌++◌, length, take, Some, None, Option, sym, subst, add-one, arith, Ok, Err}
use Rattle.quorum.specs.Sets.{Rule}
use Rattle.model.specs.declared.messages.MessageKind.{MessageKind}
use Rattle.model.specs.declared.parties.Party.{Party}
use Rattle.model.specs.declared.journal.OperationKind.{OperationKind}
use Rattle.model.specs.declared.calls.Call.{Call}
use Rattle.model.specs.declared.answers.Reply.{Reply}
use Rattle.model.specs.declared.answers.Refusal.{Refusal}
use Rattle.model.specs.declared.writer.Writer.{Writer}
use Rattle.model.specs.Stamps.{Stamp, next_stamp}
use Rattle.model.specs.State.{State, Held, stored}
use Rattle.model.specs.Deliveries.{to_all}
use Rattle.model.specs.Steps.{Outcome, tests, first_of, overfull, done, write, to_write}
use Rattle.tables.specs.declared.numbers.Numbers.{Numbers}
use Rattle.tables.specs.View.{Tables, tables, view, Kept}
use Rattle.steps.specs.Starting.{started, opened_line}
use Rattle.steps.specs.Doing.{judged, Does}
use Rattle.steps.specs.Refusing.{write_tests}
use Rattle.steps.proofs.Judging.{ruled, judged_by, declines}
use Rattle.steps.proofs.Renumbered.{lines_are}
use Rattle.steps.proofs.Starts.{more_wait, request, starts}

pub next_is : (t : Stamp) → next_stamp t ≡ t + 1
unfolding next_stamp
next_is t = sym (add-one t)

module _ {F : Type 0} (start : F) (rule : Rule) (n : Numbers) (t : Tables F) (kept : Kept n)
    (fm : length t.messages ≡ n.message_room) (fj : length t.journal ≡ n.journal_room)
    (same : rule.size ≡ n.replicas) (figure : F) where
  abbrev s : State F
  s = view start n t

  tests_are : tests rule s (Call.Write figure) ++ (overfull s (done rule s (Call.Write figure)), Refusal.NoRoom) ∷ []
      ≡ write_tests n
  unfolding tests done write
  tests_are =
      rw (more_wait start rule n t kept fm fj same MessageKind.Put _ Party.Writer (to_write s figure), lines_are n t kept fj)

  verdict : (v : Option Refusal) → v ≡ first_of (write_tests n)
      → judged rule s (Call.Write figure) ≡ ruled s v (done rule s (Call.Write figure))
  verdict v e = judged_by rule s (Call.Write figure) (write_tests n) v tests_are e

  pub write_declined : (e : Refusal) → Some e ≡ first_of (write_tests n)
      → Does start (judged rule s (Call.Write figure)) n t (Err e) n t
  write_declined e v = declines start _ n t e kept (verdict (Some e) v)

  -- the writer, and what it writes, under a stamp and a number
  abbrev writer_at : Stamp → ℕ → Writer
  writer_at st i = record { halted = n.writer.halted; last = st; operation = i; acknowledgers = 0 }

  abbrev written_at : Stamp → Held F
  written_at st = record { stamp = st; figure = figure }

  -- what it leaves, where the call comes to this outcome
  abbrev pub After : Outcome F → Stamp → ℕ → Type 0
  After o st i =
      Does start o n t (Ok (Reply.Started (n.lines + 1))) (started n (writer_at st i))
      (tables t.replicas t.readers t.marks
      (stored (take n.waiting t.messages ++ to_all n.replicas MessageKind.Put (n.lines + 1) Party.Writer (written_at st)) t.messages)
      (stored (take n.lines t.journal
      ++ opened_line n OperationKind.Write (request start rule n t kept fm fj same (writer_at st i) t.readers OperationKind.Write MessageKind.Put Party.Writer Party.Writer (written_at st)) ∷ [])
      t.journal))

  first_after : n.waiting + n.replicas ≤ n.message_room → n.lines < n.journal_room
      → After (done rule s (Call.Write figure)) (next_stamp n.writer.last) (suc (length (take n.lines t.journal)))
  unfolding done write
  first_after room line =
      starts start rule n t kept fm fj same (writer_at (next_stamp n.writer.last) (suc (length (take n.lines t.journal))))
      t.readers OperationKind.Write MessageKind.Put Party.Writer Party.Writer (written_at (next_stamp n.writer.last))
      room line (omega (arith, next_is n.writer.last, kept.stamps))

  after : n.waiting + n.replicas ≤ n.message_room → n.lines < n.journal_room
      → After (done rule s (Call.Write figure)) (n.writer.last + 1) (n.lines + 1)
  after room line =
      let l = lines_are n t kept fj in
      let i : suc (length (take n.lines t.journal)) ≡ n.lines + 1 = omega arith in
      subst (λ (st : ℕ). After (done rule s (Call.Write figure)) st (n.lines + 1)) (next_is n.writer.last)
      (subst (λ (k : ℕ). After (done rule s (Call.Write figure)) (next_stamp n.writer.last) k) i (first_after room line))

  pub write_done : None ≡ first_of (write_tests n) → n.waiting + n.replicas ≤ n.message_room → n.lines < n.journal_room
      → After (judged rule s (Call.Write figure)) (n.writer.last + 1) (n.lines + 1)
  write_done v room line = rw (verdict None v) (after room line)
