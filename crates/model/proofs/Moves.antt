-- The ways in which a world goes on, and that each keeps what is known of it.
use Rattle.std.proofs.Common.{◌≡◌, ℕ, suc, ◌<◌, ◌≤◌, max, true, false, cond, sym, refl, ap, ◌∙◌, inl, inr, arith}
use Rattle.std.proofs.lemmas.Bool.{cond_both, cond-true, cond-false, cases_eq, cases_Bool, both_ways}
use Rattle.quorum.specs.Sets.{Rule}
use Rattle.quorum.specs.Laws.{Lawful}
use Rattle.model.specs.declared.parties.Party.{Party}
use Rattle.model.specs.State.{Held}
use Rattle.model.proofs.World.{put_at, put_same, put_other, put_each, held, held_up, Op, World, Onward, onward_same, Later, Written, OpGood, Source, Core, op_later}

-- Another call, and no more.
abbrev pub ticked : {F : Type 0} → World F → World F
ticked w = record {
  now = suc w.now;
  last = w.last;
  count = w.count;
  at = w.at;
  ops = w.ops;
  value = w.value;
  wrote = w.wrote;
  given = w.given;
  since = w.since;
}

-- Another call, with operation k now o.
abbrev pub changed : {F : Type 0} → World F → ℕ → Op → World F
changed w k o = record {
  now = suc w.now;
  last = w.last;
  count = w.count;
  at = w.at;
  ops = put_at w.ops k o;
  value = w.value;
  wrote = w.wrote;
  given = w.given;
  since = w.since;
}

-- A read's stamp is settled.
abbrev pub settled : Op → ℕ → Op
settled o s = record {
  stage = 2;
  begun = o.begun;
  ended = o.ended;
  aim = s;
  owner = o.owner;
  reading = o.reading;
  snap = o.snap;
}

pub onward_settled : (o : Op) (s : ℕ) → o.stage ≡ 1 → Onward o (settled o s)
onward_settled o s e = record {
  stage_up = omega arith;
  same_begun = λ _. refl;
  same_owner = λ _. refl;
  same_reading = λ _. refl;
  same_snap = λ _. refl;
  same_aim = λ l. absurd (omega arith);
  same_ended = λ l. absurd (omega arith);
}

-- An operation has finished.
abbrev pub ended_op : Op → ℕ → ℕ → Op
ended_op o s m = record {
  stage = 3;
  begun = o.begun;
  ended = m;
  aim = s;
  owner = o.owner;
  reading = o.reading;
  snap = o.snap;
}

pub onward_ended : (o : Op) (s m : ℕ) → (o.stage ≤ 2) → (2 ≤ o.stage → s ≡ o.aim) → Onward o (ended_op o s m)
onward_ended o s m e a = record {
  stage_up = omega arith;
  same_begun = λ _. refl;
  same_owner = λ _. refl;
  same_reading = λ _. refl;
  same_snap = λ _. refl;
  same_aim = a;
  same_ended = λ l. absurd (omega arith);
}

-- Another call, at which the replicas' stamps are bt.
abbrev pub raised : {F : Type 0} → Rule → World F → (ℕ → ℕ) → World F
raised q w bt = record {
  now = suc w.now;
  last = w.last;
  count = w.count;
  at = bt;
  ops = w.ops;
  value = w.value;
  wrote = w.wrote;
  given = w.given;
  since = λ t. cond (held q w.at t) (w.since t) w.now;
}

-- An operation begins.
abbrev pub read_op : {F : Type 0} → World F → Party → Op
read_op w owner = record {
  stage = 1;
  begun = w.now;
  ended = 0;
  aim = 0;
  owner = owner;
  reading = true;
  snap = w.at;
}

abbrev pub write_op : {F : Type 0} → World F → Party → ℕ → Op
write_op w owner a = record {
  stage = 2;
  begun = w.now;
  ended = 0;
  aim = a;
  owner = owner;
  reading = false;
  snap = w.at;
}

abbrev pub read_begun : {F : Type 0} → World F → Party → World F
read_begun w owner = record {
  now = suc w.now;
  last = w.last;
  count = suc w.count;
  at = w.at;
  ops = put_at w.ops (suc w.count) (read_op w owner);
  value = w.value;
  wrote = w.wrote;
  given = w.given;
  since = w.since;
}

-- A write of x, whose stamp is a.
abbrev pub write_begun : {F : Type 0} → World F → Party → ℕ → Held F → World F
write_begun w owner a x = record {
  now = suc w.now;
  last = max w.last a;
  count = suc w.count;
  at = w.at;
  ops = put_at w.ops (suc w.count) (write_op w owner a);
  value = put_at w.value a x;
  wrote = put_at w.wrote a (suc w.count);
  given = put_at w.given (suc w.count) x.figure;
  since = w.since;
}

module _ (q : Rule) {F : Type 0} (law : Lawful q) where
  pub source_later : (w v : World F) → Later q w v → (t : ℕ) → 0 < w.wrote t → Source q w t (w.ops (w.wrote t))
      → Source q v t (v.ops (v.wrote t))
  source_later w v up t p s =
      rw (up.same_wrote t (record { low = s.low; by_one = λ _. p }))
      (let u = up.ops_up (w.wrote t) in
      record {
        low = omega (arith, s.low, up.last_up);
        settled = omega (arith, s.settled, u.stage_up);
        writing = u.same_reading (omega (arith, s.settled)) ∙ s.writing;
        aims = u.same_aim s.settled ∙ s.aims;
      })

  pub later_ticked : (w : World F) → Later q w (ticked w)
  later_ticked w = record {
    now_up = omega arith;
    last_up = omega arith;
    count_up = omega arith;
    at_up = λ c. omega arith;
    ops_up = λ j. onward_same (w.ops j);
    same_value = λ t _. refl;
    same_wrote = λ t _. refl;
    same_given = λ j _. refl;
    since_old = λ t _. refl;
    since_new = λ t n h. absurd (both_ways (held q w.at t) n h);
  }

  pub core_ticked : (w : World F) → Core q w → Core q (ticked w)
  core_ticked w g = record {
    low = g.low;
    paced = g.paced;
    past = λ t h. omega (arith, g.past t h);
    op = λ j. op_later q law w (ticked w) (later_ticked w) j (w.ops j) (g.op j);
    figures = g.figures;
    source = λ t b. source_later w (ticked w) (later_ticked w) t b (g.source t b);
  }

  pub later_changed : (w : World F) (k : ℕ) (o : Op) → Onward (w.ops k) o → Later q w (changed w k o)
  later_changed w k o u = record {
    now_up = omega arith;
    last_up = omega arith;
    count_up = omega arith;
    at_up = λ c. omega arith;
    ops_up = put_each (λ j p. Onward (w.ops j) p) w.ops k o u (λ j _. onward_same (w.ops j));
    same_value = λ t _. refl;
    same_wrote = λ t _. refl;
    same_given = λ j _. refl;
    since_old = λ t _. refl;
    since_new = λ t n h. absurd (both_ways (held q w.at t) n h);
  }

  pub core_changed : (w : World F) (k : ℕ) (o : Op) → Onward (w.ops k) o → 1 ≤ (w.ops k).stage
      → (2 ≤ o.stage → o.reading ≡ false → 2 ≤ (w.ops k).stage)
      → OpGood q (changed w k o) k o → Core q w
      → Core q (changed w k o)
  core_changed w k o u born wr n g = record {
    low = g.low;
    paced = g.paced;
    past = λ t h. omega (arith, g.past t h);
    op =
        put_each (λ j p. OpGood q (changed w k o) j p) w.ops k o n
        (λ j _. op_later q law w (changed w k o) (later_changed w k o u) j (w.ops j) (g.op j));
    figures = put_each (λ j p. 2 ≤ p.stage → p.reading ≡ false → (w.value p.aim).figure ≡ w.given j) w.ops k o
        (λ a b. let c = wr a b in ap (λ t. (w.value t).figure) (u.same_aim c) ∙ g.figures k c (sym (u.same_reading born) ∙ b))
        (λ j _. g.figures j);
    source = λ t b. source_later w (changed w k o) (later_changed w k o u) t b (g.source t b);
  }

  module _ (w : World F) (g : Core q w) (k s : ℕ) where
    pub good_settled : (w.ops k).stage ≡ 1 → (w.ops k).reading ≡ true → Written w s
        → ((t : ℕ) → s < t → held q (w.ops k).snap t ≡ false)
        → OpGood q (changed w k (settled (w.ops k) s)) k (settled (w.ops k) s)
    good_settled e r l n =
        let o = g.op k in
        let b : 1 ≤ (w.ops k).stage = omega arith in
        record {
          named = λ _. o.named b;
          counted = λ _. o.counted b;
          in_past = λ _. omega (arith, o.in_past b);
          grown = λ _. o.grown b;
          fresh_since = λ _. o.fresh_since b;
          aim_written = λ _. record { low = l.low; by_one = l.by_one };
          read_aim = λ _ _. n;
          write_aim = λ _ f. absurd (both_ways (w.ops k).reading f r);
          write_own = λ _ f. absurd (both_ways (w.ops k).reading f r);
          write_positive = λ _ f. absurd (both_ways (w.ops k).reading f r);
          kept = λ z. absurd (omega arith);
          kept_since = λ z. absurd (omega arith);
          ended_after = λ z. absurd (omega arith);
        }

    -- A read finishes that was not settled.
    pub good_quick : (w.ops k).stage ≡ 1 → (w.ops k).reading ≡ true → Written w s
        → ((t : ℕ) → s < t → held q (w.ops k).snap t ≡ false) → held q w.at s ≡ true
        → OpGood q (changed w k (ended_op (w.ops k) s w.now)) k (ended_op (w.ops k) s w.now)
    good_quick e r l n h =
        let o = g.op k in
        let b : 1 ≤ (w.ops k).stage = omega arith in
        record {
          named = λ _. o.named b;
          counted = λ _. o.counted b;
          in_past = λ _. omega (arith, o.in_past b);
          grown = λ _. o.grown b;
          fresh_since = λ _. o.fresh_since b;
          aim_written = λ _. record { low = l.low; by_one = l.by_one };
          read_aim = λ _ _. n;
          write_aim = λ _ f. absurd (both_ways (w.ops k).reading f r);
          write_own = λ _ f. absurd (both_ways (w.ops k).reading f r);
          write_positive = λ _ f. absurd (both_ways (w.ops k).reading f r);
          kept = λ z. h;
          kept_since = λ z. g.past s h;
          ended_after = λ z. o.in_past b;
        }

    -- A settled operation finishes.
    pub good_ended : (w.ops k).stage ≡ 2 → s ≡ (w.ops k).aim → held q w.at s ≡ true
        → OpGood q (changed w k (ended_op (w.ops k) s w.now)) k (ended_op (w.ops k) s w.now)
    good_ended e a h =
        let o = g.op k in
        let b : 1 ≤ (w.ops k).stage = omega arith in
        let c : 2 ≤ (w.ops k).stage = omega arith in
        record {
          named = λ _. o.named b;
          counted = λ _. o.counted b;
          in_past = λ _. omega (arith, o.in_past b);
          grown = λ _. o.grown b;
          fresh_since = λ _. o.fresh_since b;
          aim_written = λ _. let x = o.aim_written c in rw a (record { low = x.low; by_one = x.by_one });
          read_aim = λ _ r t l. o.read_aim c r t (omega arith);
          write_aim = λ _ f t l. o.write_aim c f t (omega arith);
          write_own = λ _ f. ap w.wrote a ∙ o.write_own c f;
          write_positive = λ _ f. omega (arith, o.write_positive c f);
          kept = λ z. h;
          kept_since = λ z. g.past s h;
          ended_after = λ z. o.in_past b;
        }

  module _ (w : World F) (bt : ℕ → ℕ) (up : (c : ℕ) → w.at c ≤ bt c) where
    pub later_raised : Later q w (raised q w bt)
    later_raised = record {
      now_up = omega arith;
      last_up = omega arith;
      count_up = omega arith;
      at_up = up;
      ops_up = λ j. onward_same (w.ops j);
      same_value = λ t _. refl;
      same_wrote = λ t _. refl;
      same_given = λ j _. refl;
      since_old = λ t h. cond-true (held q w.at t) (w.since t) w.now h;
      since_new = λ t n h. omega (arith, cond-false (held q w.at t) (w.since t) w.now n);
    }

    pub core_raised : ((c : ℕ) → bt c ≤ w.last) → Core q w → Core q (raised q w bt)
    core_raised top g = record {
      low = top;
      paced = λ t u l h. elim (cases_Bool (held q w.at u)) [
        | inl e ↦ let f = held_up q law w.at w.at u t (λ c k. omega arith) e in
            omega (arith, g.paced t u l e, later_raised.since_old u e, later_raised.since_old t f)
        | inr e ↦ omega (arith, past t, cond-false (held q w.at u) (w.since u) w.now e)
      ];
      past = λ t h. omega (arith, past t);
      op = λ j. op_later q law w (raised q w bt) later_raised j (w.ops j) (g.op j);
      figures = g.figures;
      source = λ t b. source_later w (raised q w bt) later_raised t b (g.source t b);
    }
      where
        past : (t : ℕ) → cond (held q w.at t) (w.since t) w.now ≤ w.now
        past t =
            cond_both (held q w.at t) (w.since t) w.now (λ x. x ≤ w.now) (λ h. g.past t h) (λ _. omega arith)

  module _ (w : World F) (g : Core q w) where
    unborn : (w.ops (suc w.count)).stage ≡ 0
    unborn = elim (cases_eq (w.ops (suc w.count)).stage 0) [
      | inl e ↦ e
      | inr n ↦ let c = (g.op (suc w.count)).counted (omega arith) in absurd (omega arith)
    ]

    onward_born : (o : Op) → Onward (w.ops (suc w.count)) o
    onward_born o = let u = unborn in record {
      stage_up = omega arith;
      same_begun = λ l. absurd (omega arith);
      same_owner = λ l. absurd (omega arith);
      same_reading = λ l. absurd (omega arith);
      same_snap = λ l. absurd (omega arith);
      same_aim = λ l. absurd (omega arith);
      same_ended = λ l. absurd (omega arith);
    }

    pub later_read : (owner : Party) → Later q w (read_begun w owner)
    later_read owner = record {
      now_up = omega arith;
      last_up = omega arith;
      count_up = omega arith;
      at_up = λ c. omega arith;
      ops_up =
          put_each (λ j p. Onward (w.ops j) p) w.ops (suc w.count) (read_op w owner)
          (onward_born (read_op w owner)) (λ j _. onward_same (w.ops j));
      same_value = λ t _. refl;
      same_wrote = λ t _. refl;
      same_given = λ j _. refl;
      since_old = λ t _. refl;
      since_new = λ t n h. absurd (both_ways (held q w.at t) n h);
    }

    pub core_read : (owner : Party) → Core q (read_begun w owner)
    core_read owner = record {
      low = g.low;
      paced = g.paced;
      past = λ t h. omega (arith, g.past t h);
      op = put_each (λ j p. OpGood q (read_begun w owner) j p) w.ops (suc w.count) (read_op w owner) new
          (λ j _. op_later q law w (read_begun w owner) (later_read owner) j (w.ops j) (g.op j));
      figures = put_each (λ j p. 2 ≤ p.stage → p.reading ≡ false → (w.value p.aim).figure ≡ w.given j) w.ops (suc w.count) (read_op w owner)
          (λ a. absurd (omega arith)) (λ j _. g.figures j);
      source = λ t b. source_later w (read_begun w owner) (later_read owner) t b (g.source t b);
    }
      where
        new : OpGood q (read_begun w owner) (suc w.count) (read_op w owner)
        new = record {
          named = λ _. omega arith;
          counted = λ _. omega arith;
          in_past = λ _. omega arith;
          grown = λ _ c. omega arith;
          fresh_since = λ _ t n h. absurd (both_ways (held q w.at t) n h);
          aim_written = λ l. absurd (omega arith);
          read_aim = λ l. absurd (omega arith);
          write_aim = λ l. absurd (omega arith);
          write_own = λ l. absurd (omega arith);
          write_positive = λ l. absurd (omega arith);
          kept = λ l. absurd (omega arith);
          kept_since = λ l. absurd (omega arith);
          ended_after = λ l. absurd (omega arith);
        }

  -- A stamp that nobody wrote, at and above which nothing is held. It need not be above the last one.
  module _ (w : World F) (g : Core q w) (owner : Party) (a : ℕ) (positive : 0 < a) (fresh : w.wrote a ≡ 0)
      (unheld : (t : ℕ) → a ≤ t → held q w.at t ≡ false) (x : Held F) where
    abbrev o : Op
    o = write_op w owner a

    abbrev v : World F
    v = write_begun w owner a x

    other : (t : ℕ) → Written w t → t ≡ a → ⊥
    other t l e = let z = ap w.wrote e in omega (arith, l.by_one (omega arith))

    pub later_write : Later q w v
    later_write = record {
      now_up = omega arith;
      last_up = omega arith;
      count_up = omega arith;
      at_up = λ c. omega arith;
      ops_up =
          put_each (λ j p. Onward (w.ops j) p) w.ops (suc w.count) o (onward_born w g o)
          (λ j _. onward_same (w.ops j));
      same_value = λ t l. put_other w.value a x t (other t l);
      same_wrote = λ t l. put_other w.wrote a (suc w.count) t (other t l);
      same_given = λ j l. put_other w.given (suc w.count) x.figure j (λ e. omega (arith, (g.op j).counted l));
      since_old = λ t _. refl;
      since_new = λ t n h. absurd (both_ways (held q w.at t) n h);
    }

    wrote_new : v.wrote a ≡ suc w.count
    wrote_new = put_same w.wrote a (suc w.count)

    -- An older stamp was written by an older operation.
    old_source : (t : ℕ) → (t ≡ a → ⊥) → 0 < v.wrote t → Source q v t (v.ops (v.wrote t))
    old_source t n p =
        let z : 0 < w.wrote t = omega (arith, put_other w.wrote a (suc w.count) t n) in
        source_later w v later_write t z (g.source t z)

    pub core_write : Core q v
    core_write = record {
      low = λ c. omega (arith, g.low c);
      paced = g.paced;
      past = λ t h. omega (arith, g.past t h);
      op =
          put_each (λ j p. OpGood q v j p) w.ops (suc w.count) o new
          (λ j _. op_later q law w v later_write j (w.ops j) (g.op j));
      figures = put_each (λ j p. 2 ≤ p.stage → p.reading ≡ false → (v.value p.aim).figure ≡ v.given j) w.ops (suc w.count) o
          (λ _ _. ap (λ y. y.figure) (put_same w.value a x) ∙ sym (put_same w.given (suc w.count) x.figure))
          (λ j n l b. ap (λ y. y.figure) (later_write.same_value (w.ops j).aim ((g.op j).aim_written l)) ∙ g.figures j l b
          ∙ sym (later_write.same_given j (omega arith)));
      source = λ t p. elim (cases_eq t a) [
        | inl e ↦ rw (e, wrote_new, put_same w.ops (suc w.count) o) (record { low = omega arith; settled = omega arith; writing = refl; aims = refl })
        | inr n ↦ old_source t n p
      ];
    }
      where
        new : OpGood q v (suc w.count) o
        new = record {
          named = λ _. omega arith;
          counted = λ _. omega arith;
          in_past = λ _. omega arith;
          grown = λ _ c. omega arith;
          fresh_since = λ _ t n h. absurd (both_ways (held q w.at t) n h);
          aim_written = λ _. record { low = omega arith; by_one = λ _. omega (arith, wrote_new) };
          read_aim = λ _ r. absurd (both_ways false refl r);
          write_aim = λ _ _. unheld;
          write_own = λ _ _. wrote_new;
          write_positive = λ _ _. omega arith;
          kept = λ l. absurd (omega arith);
          kept_since = λ l. absurd (omega arith);
          ended_after = λ l. absurd (omega arith);
        }
