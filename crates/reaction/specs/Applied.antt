-- What a reaction comes to, and what it may be applied to.
use Rattle.std.specs.Prelude.{◌≡◌, ℕ, ◌≤◌, List, [], ◌∷◌, Some, None, Option, slice_set}
use Rattle.std.specs.Option.{unwrap_or}
use Rattle.model.specs.declared.writer.Writer.{Writer}
use Rattle.model.specs.declared.messages.Message.{Message}
use Rattle.model.specs.declared.answers.Reply.{Reply}
use Rattle.model.specs.State.{State, line}
use Rattle.model.specs.Deliveries.{Effect, to_all, with_finish}
use Rattle.tables.specs.declared.numbers.Numbers.{Numbers}
use Rattle.reaction.specs.declared.reaction.Post.{Post}
use Rattle.reaction.specs.declared.reaction.Finish.{Finish}
use Rattle.reaction.specs.declared.reaction.Reaction.{Reaction}

-- WHAT A REACTION COMES TO, with so many replicas

abbrev pub changed : {A : Type 0} → List A → Option (ℕ × A) → List A
changed l None = l
changed l (Some p) = slice_set l p.0 p.1

abbrev pub writer_changed : Writer → Option Writer → Writer
writer_changed w v = unwrap_or v w

abbrev pub with_records : {F : Type 0} → State F → Reaction F → State F
with_records s r = record s {
  writer = writer_changed s.writer r.writer;
  replicas = changed s.replicas r.replica;
  readers = changed s.readers r.reader;
  marks = changed s.marks r.mark;
}

abbrev pub with_finish_of : {F : Type 0} → State F → Option (Finish F) → State F
with_finish_of s None = s
with_finish_of s (Some f) =
    with_finish s f.operation (record { stamp = f.stamp; figure = f.figure }) f.exchanges

abbrev pub reply_of : {F : Type 0} → State F → Option (Finish F) → Reply F
reply_of s None = Reply.Done
reply_of s (Some f) =
    Reply.Finished f.operation f.stamp f.figure (line s f.operation).sent f.exchanges

abbrev pub sent_by : {F : Type 0} → ℕ → Post F → List (Message F)
sent_by size Post.Nothing = []
sent_by size (Post.One m) = m ∷ []
sent_by size (Post.All kind n from t f) = to_all size kind n from (record { stamp = t; figure = f })

unfoldable pub applied : {F : Type 0} → State F → ℕ → Reaction F → Effect F
applied s size r = record {
  reply = reply_of s r.finish;
  sent = sent_by size r.post;
  next = with_finish_of (with_records s r) r.finish;
}

-- WHAT A REACTION MAY BE APPLIED TO

abbrev pub HasLine : ℕ → ℕ → Type 0
HasLine lines n = (1 ≤ n) × (n ≤ lines)

abbrev pub finish_within : {F : Type 0} → ℕ → Option (Finish F) → Type 0
finish_within lines None = Unit {0}
finish_within lines (Some f) = HasLine lines f.operation

abbrev pub post_within : {F : Type 0} → ℕ → Post F → Type 0
post_within lines Post.Nothing = Unit {0}
post_within lines (Post.One m) = HasLine lines m.operation
post_within lines (Post.All kind n from t f) = HasLine lines n

abbrev pub stamp_kept : Writer → Option Writer → Type 0
stamp_kept w None = Unit {0}
stamp_kept w (Some v) = v.last ≡ w.last

-- What it finishes and sends is of operations in the journal, and the writer's last stamp stays.
pub record Applicable {F : Type 0} (n : Numbers) (r : Reaction F) : Type 0 where
  pub finish : finish_within n.lines r.finish
  pub post : post_within n.lines r.post
  pub writer : stamp_kept n.writer r.writer
