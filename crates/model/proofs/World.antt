-- What the proofs keep beside the tables: operations with what the replicas held at their start, what was written, and since
-- when it is held. All stamps are ranks here.
use Rattle.std.proofs.Common.{◌≡◌, ℕ, ◌<◌, ◌≤◌, Bool, true, false, cond, eqb, leb, sym, refl, ◌∙◌, subst, inl, inr, arith}
use Rattle.std.proofs.lemmas.Bool.{cond_both, cond-true, cond-false, cases_Bool, both_ways, leb-true, le-leb, eqb-true, eq-eqb, ne_eqb}
use Rattle.quorum.specs.Sets.{Rule, Members}
use Rattle.quorum.specs.Laws.{Lawful}
use Rattle.model.specs.declared.parties.Party.{Party}
use Rattle.model.specs.State.{Held}

-- A function changed at one number.
unfoldable pub put_at : {A : Type 0} → (ℕ → A) → ℕ → A → ℕ → A
put_at f k v j = cond (eqb j k) v (f j)

pub put_same : {A : Type 0} (f : ℕ → A) (k : ℕ) (v : A) → put_at f k v k ≡ v
unfolding put_at
put_same f k v = cond-true (eqb k k) v (f k) (eq-eqb k k refl)

pub put_other : {A : Type 0} (f : ℕ → A) (k : ℕ) (v : A) (j : ℕ) → (j ≡ k → ⊥) → put_at f k v j ≡ f j
unfolding put_at
put_other f k v j n = cond-false (eqb j k) v (f j) (ne_eqb j k n)

-- What holds at k and elsewhere holds everywhere.
pub put_each : {A : Type 0} (P : ℕ → A → Type 0) (f : ℕ → A) (k : ℕ) (v : A) → P k v
    → ((j : ℕ) → (j ≡ k → ⊥) → P j (f j)) → (j : ℕ) → P j (put_at f k v j)
unfolding put_at
put_each P f k v h o j =
    cond_both (eqb j k) v (f j) (P j)
    (λ e. subst (λ x. P x v) (sym (eqb-true j k e)) h)
    (λ e. o j (λ d. both_ways (eqb j k) e (eq-eqb j k d)))

module _ (q : Rule) where
  -- The replicas at t or above are a hold set.
  unfoldable pub held : (ℕ → ℕ) → ℕ → Bool
  held at t = q.hold (λ c. leb t (at c))

  module _ (law : Lawful q) where
    pub held_from : (a : Members) (at : ℕ → ℕ) (t : ℕ) → q.hold a ≡ true → ((c : ℕ) → a c ≡ true → t ≤ at c)
        → held at t ≡ true
    unfolding held
    held_from a at t h u = law.hold_more a (λ c. leb t (at c)) (λ k l m. le-leb t (at k) (u k m)) h

    pub held_up : (at bt : ℕ → ℕ) (t u : ℕ) → ((c : ℕ) → t ≤ at c → u ≤ bt c) → held at t ≡ true → held bt u ≡ true
    unfolding held
    held_up at bt t u up h = held_from (λ c. leb t (at c)) bt u h (λ c m. up c (leb-true t (at c) m))

    -- A hold set has a member at t in every round set.
    meets_held : (a : Members) (at : ℕ → ℕ) (t : ℕ) → q.round a ≡ true → held at t ≡ true
        → (c : ℕ) × (c < q.size) × (a c ≡ true) × (t ≤ at c)
    unfolding held
    meets_held a at t r h =
        let m = law.meets a (λ c. leb t (at c)) r h in
        (m.0, m.1, m.2, leb-true t (at m.0) m.3)

    pub not_held : (a : Members) (at : ℕ → ℕ) (t : ℕ) → q.round a ≡ true → ((c : ℕ) → a c ≡ true → at c < t)
        → held at t ≡ false
    not_held a at t r u = elim (cases_Bool (held at t)) [
      | inl h ↦ let m = meets_held a at t r h in let l = u m.0 m.2 in let k = m.3 in absurd (omega arith)
      | inr h ↦ h
    ]

    abbrev everyone : Members
    everyone c = true

    everyone_round : q.round everyone ≡ true
    everyone_round = law.whole everyone (λ k l. refl)

    -- A round set has a member.
    pub round_some : (a : Members) → q.round a ≡ true → (c : ℕ) × (a c ≡ true)
    round_some a r = let m = law.meets a everyone r (law.holds everyone everyone_round) in (m.0, m.2)

    pub held_low : (at : ℕ → ℕ) (t last : ℕ) → ((c : ℕ) → at c ≤ last) → held at t ≡ true → t ≤ last
    held_low at t last low h =
        let m = meets_held everyone at t everyone_round h in let l = low m.0 in let k = m.3 in omega arith

-- An operation. Stage 0: not begun; 1: begun; 2: its stamp, the aim, is settled; 3: finished. snap has the replicas' stamps
-- when it began.
pub record Op : Type 0 where
  pub stage : ℕ
  pub begun : ℕ
  pub ended : ℕ
  pub aim : ℕ
  pub owner : Party
  pub reading : Bool
  pub snap : ℕ → ℕ

pub record World (F : Type 0) : Type 0 where
  -- how many calls there were, the writer's last stamp, how many operations were begun
  pub now : ℕ
  pub last : ℕ
  pub count : ℕ
  -- each replica's stamp
  pub at : ℕ → ℕ
  pub ops : ℕ → Op
  -- what was written under a stamp, by which operation (0 if by none), and since when it is held
  pub value : ℕ → Held F
  pub wrote : ℕ → ℕ
  -- the figure that operation j was asked to write
  pub given : ℕ → F
  pub since : ℕ → ℕ

-- The start's stamp, or that of a write.
pub record Written {F : Type 0} (w : World F) (t : ℕ) : Type 0 where
  pub low : t ≤ w.last
  pub by_one : 0 < t → 0 < w.wrote t

-- Operation p is operation o later.
pub record Onward (o p : Op) : Type 0 where
  pub stage_up : o.stage ≤ p.stage
  pub same_begun : 1 ≤ o.stage → p.begun ≡ o.begun
  pub same_owner : 1 ≤ o.stage → p.owner ≡ o.owner
  pub same_reading : 1 ≤ o.stage → p.reading ≡ o.reading
  pub same_snap : 1 ≤ o.stage → p.snap ≡ o.snap
  pub same_aim : 2 ≤ o.stage → p.aim ≡ o.aim
  pub same_ended : 3 ≤ o.stage → p.ended ≡ o.ended

pub onward_same : (o : Op) → Onward o o
onward_same o = record {
  stage_up = omega arith;
  same_begun = λ _. refl;
  same_owner = λ _. refl;
  same_reading = λ _. refl;
  same_snap = λ _. refl;
  same_aim = λ _. refl;
  same_ended = λ _. refl;
}

module _ (q : Rule) {F : Type 0} where
  -- World v is world w later.
  pub record Later (w v : World F) : Type 0 where
    pub now_up : w.now ≤ v.now
    pub last_up : w.last ≤ v.last
    pub count_up : w.count ≤ v.count
    pub at_up : (c : ℕ) → w.at c ≤ v.at c
    pub ops_up : (j : ℕ) → Onward (w.ops j) (v.ops j)
    pub same_value : (t : ℕ) → Written w t → v.value t ≡ w.value t
    pub same_wrote : (t : ℕ) → Written w t → v.wrote t ≡ w.wrote t
    pub same_given : (j : ℕ) → 1 ≤ (w.ops j).stage → v.given j ≡ w.given j
    pub since_old : (t : ℕ) → held q w.at t ≡ true → v.since t ≡ w.since t
    pub since_new : (t : ℕ) → held q w.at t ≡ false → held q v.at t ≡ true → w.now ≤ v.since t

  pub record OpGood (w : World F) (j : ℕ) (o : Op) : Type 0 where
    pub named : 1 ≤ o.stage → 0 < j
    pub counted : 1 ≤ o.stage → j ≤ w.count
    pub in_past : 1 ≤ o.stage → o.begun ≤ w.now
    pub grown : 1 ≤ o.stage → (c : ℕ) → o.snap c ≤ w.at c
    pub fresh_since : 1 ≤ o.stage → (t : ℕ) → held q o.snap t ≡ false → held q w.at t ≡ true
        → o.begun ≤ w.since t
    pub aim_written : 2 ≤ o.stage → Written w o.aim
    pub read_aim : 2 ≤ o.stage → o.reading ≡ true → (t : ℕ) → o.aim < t → held q o.snap t ≡ false
    pub write_aim : 2 ≤ o.stage → o.reading ≡ false → (t : ℕ) → o.aim ≤ t → held q o.snap t ≡ false
    pub write_own : 2 ≤ o.stage → o.reading ≡ false → w.wrote o.aim ≡ j
    pub write_positive : 2 ≤ o.stage → o.reading ≡ false → 0 < o.aim
    pub kept : 3 ≤ o.stage → held q w.at o.aim ≡ true
    pub kept_since : 3 ≤ o.stage → w.since o.aim ≤ o.ended
    pub ended_after : 3 ≤ o.stage → o.begun ≤ o.ended

  -- Operation o is the write of stamp t.
  pub record Source (w : World F) (t : ℕ) (o : Op) : Type 0 where
    pub low : t ≤ w.last
    pub settled : 2 ≤ o.stage
    pub writing : o.reading ≡ false
    pub aims : o.aim ≡ t

  pub record Core (w : World F) : Type 0 where
    pub low : (c : ℕ) → w.at c ≤ w.last
    pub paced : (t u : ℕ) → t ≤ u → held q w.at u ≡ true → w.since t ≤ w.since u
    pub past : (t : ℕ) → held q w.at t ≡ true → w.since t ≤ w.now
    pub op : (j : ℕ) → OpGood w j (w.ops j)
    pub figures : (j : ℕ) → 2 ≤ (w.ops j).stage → (w.ops j).reading ≡ false → (w.value (w.ops j).aim).figure ≡ w.given j
    pub source : (t : ℕ) → 0 < w.wrote t → Source w t (w.ops (w.wrote t))

  pub written_later : (w v : World F) → Later w v → {t : ℕ} → Written w t → Written v t
  written_later w v up {t} x = record {
    low = omega (arith, x.low, up.last_up);
    by_one = λ p. omega (arith, x.by_one p, up.same_wrote t x);
  }

  module _ (law : Lawful q) (w v : World F) (up : Later w v) where
    -- What is known of an operation that stays as it is.
    pub op_later : (j : ℕ) (o : Op) → OpGood w j o → OpGood v j o
    op_later j o g = record {
      named = g.named;
      counted = λ s. omega (arith, g.counted s, up.count_up);
      in_past = λ s. omega (arith, g.in_past s, up.now_up);
      grown = λ s c. omega (arith, g.grown s c, up.at_up c);
      fresh_since = λ s t n h. elim (cases_Bool (held q w.at t)) [
        | inl e ↦ omega (arith, g.fresh_since s t n e, up.since_old t e)
        | inr e ↦ omega (arith, g.in_past s, up.since_new t e h)
      ];
      aim_written = λ s. written_later w v up (g.aim_written s);
      read_aim = g.read_aim;
      write_aim = g.write_aim;
      write_own = λ s r. up.same_wrote o.aim (g.aim_written s) ∙ g.write_own s r;
      write_positive = g.write_positive;
      kept = λ s. held_up q law w.at v.at o.aim o.aim (λ c l. omega (arith, l, up.at_up c)) (g.kept s);
      kept_since = λ s. omega (arith, g.kept_since s, up.since_old o.aim (g.kept s));
      ended_after = g.ended_after;
    }
