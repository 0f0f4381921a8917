-- The claims exclude what they should.
use Rattle.std.proofs.Common.{◌≡◌, ℕ, zero, suc, ◌+◌, ◌*◌, ◌<◌, ◌≤◌, true, not, ◌⊎◌, [], ◌∷◌, sym, subst, refl, ap, ◌∙◌, inl, inr, arith, Ok}
use Rattle.std.specs.List.{AllByRecursion as All}
use Rattle.std.proofs.lemmas.List.{get_or-replicate}
use Rattle.std.proofs.lemmas.Bool.{and_from, lt-ltb}
use Rattle.quorum.specs.Sets.{Rule}
use Rattle.quorum.specs.Laws.{Lawful}
use Rattle.model.specs.declared.replica.Replica.{Replica}
use Rattle.model.specs.declared.parties.Party.{Party}
use Rattle.model.specs.declared.journal.OperationKind.{OperationKind}
use Rattle.model.specs.declared.journal.ReadKind.{ReadKind}
use Rattle.model.specs.declared.messages.Message.{Message}
use Rattle.model.specs.declared.calls.Call.{Call}
use Rattle.model.specs.declared.answers.Reply.{Reply}
use Rattle.model.specs.Stamps.{Stamp, rank, no_stamp}
use Rattle.model.specs.State.{State, Held, new_replica, fresh, unused}
use Rattle.model.specs.History.{Event, History}
use Rattle.model.specs.Claims.{At, In, Finishes, Finished, Writes, Numbered, AsWritten, Row, working, Finishing, Uncopied, of_operation, sent_for, limit, Limits}
use Rattle.model.specs.Refuted.{value, write_starts, read_starts, finishes, first, second, number_given_twice, read_ends_twice, two_at_once, two_writes_at_once, write_ends}
use Rattle.model.specs.Refuted.{read_after_write, stalled, overspent, overspent_beside_a_copy, after_start, after_write, after_both, ReadWithin, Refutable}
use Rattle.model.proofs.Ranks.{rank_next}
use Rattle.model.proofs.Slate.{shows_after, Tells, write_tells, read_tells, finish_tells, written, writes_from, ended}
use Rattle.model.proofs.Slate.{finish_at, write_at, read_at}
use Rattle.model.proofs.FallenBack.{only_newest}
use Rattle.model.proofs.Ahead.{never_ahead}
use Rattle.model.proofs.LastWritten.{only_last}
use Rattle.model.proofs.Stranded.{not_stranded}

-- NUMBERS

not_unlisted : (rule : Rule) (k : ℕ) → Numbered (read_starts k 0 ∷ []) (fresh rule 0 1 64 8) → ⊥
unfolding fresh
not_unlisted rule k n = let line = n.in_journal 0 k _ _ (read_at (read_starts k 0 ∷ []) k 0 0 refl) in omega arith

not_renumbered : (s : State ℕ) → Numbered number_given_twice s → ⊥
not_renumbered s n =
    omega (arith, n.given_once 0 2 1 _ _ _ _ (read_at number_given_twice 1 0 0 refl) (read_at number_given_twice 1 2 0 refl))

not_repeated : (s : State ℕ) → Numbered read_ends_twice s → ⊥
not_repeated s n =
    omega (arith, (n.finished_once 1 2 1 _ _ (finish_at read_ends_twice 1 1 no_stamp 0 refl) (finish_at read_ends_twice 1 2 no_stamp 0 refl)).0)

not_unstarted : (s : State ℕ) → Numbered (finishes 1 no_stamp 0 ∷ []) s → ⊥
not_unstarted s n =
    let (l, p, k, st, before) = n.started_first 0 1 _ (finish_at (finishes 1 no_stamp 0 ∷ []) 1 0 no_stamp 0 refl) in
    omega arith

none_finishes : (n : ℕ) → Finished two_at_once n → ⊥
none_finishes n (zero, x, (e, place, sent, exchanges, at, call, reply)) = cc
none_finishes n (suc zero, x, (e, place, sent, exchanges, at, call, reply)) = cc
none_finishes n (suc (suc m), x, (e, place, sent, exchanges, at, call, reply)) = absurd at

no_write_finishes : (n : ℕ) → Finished two_writes_at_once n → ⊥
no_write_finishes n (zero, x, (e, place, sent, exchanges, at, call, reply)) = cc
no_write_finishes n (suc zero, x, (e, place, sent, exchanges, at, call, reply)) = cc
no_write_finishes n (suc (suc m), x, (e, place, sent, exchanges, at, call, reply)) = absurd at

writes_not_overlapping : (s : State ℕ) → Numbered two_writes_at_once s → ⊥
writes_not_overlapping s n =
    omega (
      arith,
      n.one_unfinished 0 1 1 2 Party.Writer _ _
          (write_at two_writes_at_once 1 0 10 [] refl) (write_at two_writes_at_once 2 1 20 [] refl) (no_write_finishes 1) (no_write_finishes 2),
    )

not_overlapping : (s : State ℕ) → Numbered two_at_once s → ⊥
not_overlapping s n =
    omega (
      arith,
      n.one_unfinished 0 1 1 2 (Party.Reader 0) _ _
          (read_at two_at_once 1 0 0 refl) (read_at two_at_once 2 1 0 refl) (none_finishes 1) (none_finishes 2),
    )

not_mislabelled : (rule : Rule) (kind : OperationKind) (owner : Party)
    → Numbered (write_starts 1 10 [] ∷ []) (after_start rule kind owner (value first 10) 0)
    → (kind ≡ OperationKind.Write) × (owner ≡ Party.Writer)
not_mislabelled rule kind owner n = n.its_line 0 1 _ _ (write_at (write_starts 1 10 [] ∷ []) 1 0 10 [] refl)

-- WHAT A WRITE WROTE

module _ (t : Stamp) (f : ℕ) where
  abbrev Asked : ℕ → ℕ → Type 0
  Asked n g = Unit {0}

  abbrev Stamped : ℕ → Stamp → Type 0
  Stamped n u = u ≡ first

  abbrev Told : ℕ → Stamp → ℕ → Type 0
  Told n u g = Unit {0}

  only_written_finishes : AsWritten (write_ends t f) → (t ≡ first) × (f ≡ 10)
  only_written_finishes a =
      let all : All (Tells Asked Stamped Told) (write_ends t f) =
      (write_tells Asked Stamped Told 1 first 10 tt refl, (finish_tells Asked Stamped Told 1 t f tt, tt)) in
      let e = a 1 1 (value first 10) (value t f)
      (writes_from Asked Stamped Told (write_ends t f) all 1 first 10 0 (λ u i. i) refl)
      (finish_at (write_ends t f) 1 1 t f refl) in
      (ap (λ (x : Held ℕ). x.stamp) e, ap (λ (x : Held ℕ). x.figure) e)

-- A READ AFTER A WRITE

module _ (t : Stamp) (f : ℕ) where
  abbrev Figure : ℕ → ℕ → Type 0
  Figure n g = (n ≡ 1) × (g ≡ 10)

  abbrev Stamps : ℕ → Stamp → Type 0
  Stamps n u = (n ≡ 1) × (u ≡ first)

  abbrev Ending : ℕ → Stamp → ℕ → Type 0
  Ending n u g = ((n ≡ 1) × (u ≡ first) × (g ≡ 10)) ⊎ ((n ≡ 2) × (u ≡ t) × (g ≡ f))

  abbrev h : History ℕ
  h = read_after_write t f

  all_tell : All (Tells Figure Stamps Ending) h
  all_tell = (
    write_tells Figure Stamps Ending 1 first 10 (refl, refl) (refl, refl),
    (
      finish_tells Figure Stamps Ending 1 first 10 (inl (refl, refl, refl)),
      (
        read_tells Figure Stamps Ending 2 0,
        (
          finish_tells Figure Stamps Ending 2 t f (inr (refl, refl, refl)),
          tt,
        ),
      ),
    ),
  )

  writes : (n : ℕ) (x : Held ℕ) → Writes h n x → Figure n x.figure × Stamps n x.stamp
  writes = written Figure Stamps Ending h all_tell

  ends : (n : ℕ) (x : Held ℕ) → (m : ℕ) × Finishes h m n x → Ending n x.stamp x.figure
  ends = ended Figure Stamps Ending h all_tell

  only_written : Row 0 h → (t ≡ first) × (f ≡ 10)
  only_written r =
      let in_1 = r.every 1 (inl (1, _, finish_at h 1 1 first 10 refl)) in
      let in_2 = r.every 2 (inl (3, _, finish_at h 2 3 t f refl)) in
      let before = r.in_time 1 2 in_1 in_2
      (1, 2, _, _, _, finish_at h 1 1 first 10 refl, read_at h 2 2 0 refl, omega arith) in
      let (x, shows, new) = shows_after h 2 (λ y w. let e = writes 2 y w in omega arith)
      (λ y. (y.stamp ≡ first) × (y.figure ≡ 10)) 1 (λ y s. let e = ends 1 y s.1 in omega arith)
      r.row (unused 0) (λ k y i w. let e = writes k y w in omega arith) r.plays before in
      let shown = ends 2 x shows.1 in
      omega arith

-- A WRITE THAT NOTHING HOLDS UP

none_dropped : (m place : ℕ) (e : Event ℕ) → At stalled m e → e.call ≡ Call.Drop place → ⊥
none_dropped zero place e at call = cc
none_dropped (suc zero) place e at call = cc
none_dropped (suc (suc m)) place e at call = absurd at

unfinished : (m n : ℕ) (x : Held ℕ) (sent exchanges : ℕ) (e : Event ℕ) → At stalled m e
    → e.reply ≡ Ok (Reply.Finished n x.stamp x.figure sent exchanges) → ⊥
unfinished zero n x sent exchanges e at reply = cc
unfinished (suc zero) n x sent exchanges e at reply = cc
unfinished (suc (suc m)) n x sent exchanges e at reply = absurd at

all_work : (rule : Rule) (sent k : ℕ) → k < rule.size → working rule (after_write rule sent) k ≡ true
unfolding fresh
all_work rule sent k h =
    let new : Replica ℕ = new_replica 0 in
    and_from _ _ (lt-ltb k rule.size h)
    (ap (λ (x : Replica ℕ). not x.halted) (get_or-replicate rule.size k new new h))

not_stalled : (rule : Rule) → Lawful rule → Finishing rule stalled (after_write rule 1) → ⊥
unfolding fresh
not_stalled rule law finishing =
    let (m, x, (e, place, sent, exchanges, at, call, reply)) =
    finishing 0 1 _ _ (write_at stalled 1 0 10 _ refl) refl (law.whole _ (all_work rule 1))
    (λ m place e a at call. absurd (none_dropped m place e at call)) (λ a i. absurd i) in
    unfinished m 1 x sent exchanges e at reply

-- COUNTS

-- The one call of a history copies nothing.
one_call : (e : Event ℕ) → ((place : ℕ) → e.call ≡ Call.Duplicate place → ⊥) → (n : ℕ) → Uncopied (e ∷ []) n
one_call e other n zero place d a at call taken = absurd (other place (ap (λ (x : Event ℕ). x.call) at ∙ call))
one_call e other n (suc m) place d a at call taken = absurd at

not_overspent : (rule : Rule) → Limits rule (overspent rule) (after_write rule (2 * rule.size + 1)) → ⊥
unfolding fresh
not_overspent rule limits =
    let most = limits.bounded 0 1 _ _ (write_at (overspent rule) 1 0 10 _ refl)
    (one_call _ (λ place c. cc) 1) in
    omega arith

-- What was copied is of another operation.
copied_beside : (rule : Rule) → Uncopied (overspent_beside_a_copy rule) 2
copied_beside rule zero place e a at call i o = cc
copied_beside rule (suc zero) place e a at call i o = elim (subst (λ (x : Event ℕ). In a x.taken) (sym at) i) [
  | inl p ↦ omega (arith, ap (λ (y : Message ℕ). y.operation) p, o)
  | inr u ↦ absurd u
]
copied_beside rule (suc (suc zero)) place e a at call i o = cc
copied_beside rule (suc (suc (suc m))) place e a at call i o = absurd at

not_overspent_beside : (rule : Rule)
    → Limits rule (overspent_beside_a_copy rule) (after_both rule (2 * rule.size + 1)) → ⊥
unfolding fresh
not_overspent_beside rule limits =
    let most = limits.bounded 2 2 _ _ (write_at (overspent_beside_a_copy rule) 2 2 10 _ refl) (copied_beside rule) in
    omega arith

read_within : (rule : Rule) (kind : ReadKind) (sent : ℕ) → ReadWithin rule kind sent
    → sent ≤ limit rule.size (OperationKind.Read kind)
unfolding fresh
read_within rule kind sent limits =
    limits.bounded 0 1 (Party.Reader 0) (OperationKind.Read kind) (_, refl, refl, refl)
    (one_call _ (λ place c. cc) 1)

not_miscounted : (rule : Rule) (sent : ℕ) → Limits rule stalled (after_write rule sent) → sent ≡ 1
unfolding fresh of_operation sent_for
not_miscounted rule sent limits = let e = limits.true_counts 1 (omega arith) (omega arith) in omega arith

-- Stamps that follow one another differ.
rises : (t u : Stamp) → rank t < rank u → t ≡ u → ⊥
rises t u l e = omega (arith, ap rank e)

pub refutable : Refutable
refutable = record {
  unlisted = not_unlisted;
  renumbers = not_renumbered;
  repeats = not_repeated;
  unstarted = not_unstarted;
  overlaps = not_overlapping;
  writes_overlap = writes_not_overlapping;
  mislabels = not_mislabelled;
  miswrites = only_written_finishes;
  falls_back = λ r. rises first second (rank_next first) (only_newest first 10 r).0;
  shows_newest = only_newest;
  forgets = λ r. rises no_stamp first (rank_next no_stamp) (only_written no_stamp 0 r).0;
  shows_written = only_written;
  shows_last = only_last;
  foresees = never_ahead;
  stalls = not_stalled;
  strands = not_stranded;
  overspends = not_overspent;
  overspends_beside_a_copy = not_overspent_beside;
  quick_overspends = λ rule l. omega (arith, read_within rule ReadKind.Quick _ l);
  settled_overspends = λ rule l. omega (arith, read_within rule ReadKind.Settled _ l);
  relay_overspends = λ rule l. omega (arith, read_within rule ReadKind.Relay _ l);
  miscounts = not_miscounted;
  finds_unsound = λ c u. (u 0 _ refl).0 refl;
  finds_ahead = λ c u. (u 0 _ refl).1 refl;
}
