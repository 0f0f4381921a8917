use Rattle.std.proofs.Common.{◌≡◌, ◌≤◌, length, take, vec_items, vec_len, vec_capacity}
use Rattle.tables.specs.View.{tables}
use Rattle.register.specs.Runs.{Ran}
use Rattle.register.proofs.service.Register.run.Given as goal

-- the calls so far have run, and there is room for an answer to each
abbrev pub invariant-loop-call : goal.invariant-loop-call
invariant-loop-call g l =
    Ran g.R.QuorumSystem l.initial.self
    (tables l.initial.replicas l.initial.readers l.initial.marks l.initial.messages l.initial.journal)
    (take l.call-index l.calls) (vec_items l.replies) l.self
    (tables l.replicas l.readers l.marks l.messages l.journal)
    × (vec_len l.replies ≡ l.call-index) × (length l.calls ≤ vec_capacity l.replies)
