-- A list of calls extends each history by its own.
use Rattle.std.proofs.Common.{◌≡◌, ℕ, ◌+◌, ◌<◌, ◌≤◌, List, [], ◌∷◌, ◌++◌, length, get_or, take, sym, refl, ap, ◌∙◌, subst, ap₂}
use Rattle.std.proofs.lemmas.List.{map-append, take_more, take_all}
use Rattle.quorum.specs.Sets.{Rule}
use Rattle.quorum.specs.declared.system.QuorumSystem.{Ghosts}
use Rattle.model.specs.declared.calls.Call.{Call}
use Rattle.model.specs.Answers.{Answer}
use Rattle.model.specs.State.{State}
use Rattle.model.specs.Steps.{Outcome, step}
use Rattle.model.specs.History.{History, Event, Grows, Run, event, run, replies}
use Rattle.model.proofs.Runs.{runs_grow}
use Rattle.model.proofs.Serving.{serves}
use Rattle.register.specs.declared.service.Register.{Register}
use Rattle.register.specs.declared.service.cluster.Cluster.{Cluster}
use Rattle.tables.specs.View.{Tables, view, Fitting, rule_for}
use Rattle.register.specs.Histories.{Carries}
use Rattle.register.specs.Calls.{answered, Plays, meaning}
use Rattle.register.specs.Clusters.{cluster_rule, cluster_state, Steps, ClusterRan}
use Rattle.register.specs.Runs.{Trace, begun, then, Extends, Ran, Runs}
use Rattle.register.proofs.Calling.{answered_fitting}

-- A call is the model's step on this state.
record StepsTo {F : Type 0} (rule : Rule) (c : Call F) (s : State F) (r : Answer F) (s' : State F) : Type 0 where
  answer : r ≡ (step rule s c).reply
  next : s' ≡ (step rule s c).next

module _ {F : Type 0} (rule : Rule) where
  abbrev one_more : Run F → Call F → Run F
  one_more p c = record {
    history = p.history ++ event c (step rule p.state c) ∷ [];
    state = (step rule p.state c).next;
  }

  run_more : (s : State F) (cs : List (Call F)) (c : Call F) → run rule s (cs ++ c ∷ []) ≡ one_more (run rule s cs) c
  unfolding run
  run_more s [] c = refl
  run_more s (d ∷ cs) c =
      ap (λ (p : Run F). record { history = event d (step rule s d) ∷ p.history; state = p.state })
      (run_more (step rule s d).next cs c)

-- Where each call is a step, and leaves what makes the next one a step too.
module _ {F S : Type 0} (One : Call F → S → Answer F → S → Type 0) (rule : Rule) (state : S → State F) (Apt : S → Type 0)
    (one : (c : Call F) (x : S) (r : Answer F) (x' : S) → One c x r x' → Apt x → Apt x' × StepsTo rule c (state x) r (state x')) where
  -- What a list of calls leaves.
  record Leaves (x : S) (cs : List (Call F)) (rs : List (Answer F)) (x' : S) : Type 0 where
    apt : Apt x'
    answers : rs ≡ replies (run rule (state x) cs).history
    next : state x' ≡ (run rule (state x) cs).state

  follows : {x : S} → Apt x → {cs : List (Call F)} {rs : List (Answer F)} {x' : S} → Trace One x cs rs x' → Leaves x cs rs x'
  unfolding run
  follows apt begun = record { apt = apt; answers = refl; next = refl }
  follows {x} apt (then {cs = cs} {rs = rs} {s' = x'} before c r x'' does) =
      let p = follows apt before in
      let q : Run F = run rule (state x) cs in
      let d = one c x' r x'' does p.apt in
      let e = run_more rule (state x) cs c in
      record {
        apt = d.0;
        answers =
            ap₂ (λ (a : List (Answer F)) (b : Answer F). a ++ b ∷ []) p.answers
            (d.1.answer ∙ ap (λ (s : State F). (step rule s c).reply) p.next)
            ∙ sym (map-append (λ (v : Event F). v.reply) q.history (event c (step rule q.state c) ∷ []))
            ∙ ap (λ (w : Run F). replies w.history) (sym e);
        next = d.1.next ∙ ap (λ (s : State F). (step rule s c).next) p.next ∙ ap (λ (w : Run F). w.state) (sym e);
      }

  extends : {x : S} → Apt x → {cs : List (Call F)} {rs : List (Answer F)} {x' : S} → Trace One x cs rs x'
      → (start : F) (h : History F) → Grows rule start h (state x)
      → Apt x' × Extends rule start cs (state x) rs (state x') h
  extends {x} apt {cs} trace start h before =
      let l = follows apt trace in
      let g = subst (λ (s : State F). Grows rule start (h ++ (run rule (state x) cs).history) s) (sym l.next)
      (runs_grow rule start h (state x) before cs) in (
        l.apt,
        record { answers = l.answers; grows = g; serves = λ law. serves F rule law start _ _ g },
      )

-- OVER LENT TABLES

module _ {R F : Type 0} (g : Ghosts R) (x : Register R F) (t : Tables F) where
  abbrev rule : Rule
  rule = meaning g x

  abbrev state : Register R F × Tables F → State F
  state p = view x.start p.0.numbers p.1

  record OnTables (p : Register R F × Tables F) : Type 0 where
    same_rule : meaning g p.0 ≡ rule
    same_start : p.0.start ≡ x.start
    fits : Fitting p.0.numbers p.1

  plays : (c : Call F) (p : Register R F × Tables F) (r : Answer F) (q : Register R F × Tables F)
      → Plays g c p.0 p.1 r q.0 q.1 → OnTables p → OnTables q × StepsTo rule c (state p) r (state q)
  plays c p r q does lent =
      let Carried : Rule → F → Type 0
      = λ l f. Carries l f c (answered l f p.0.numbers p.1 c) p.0.numbers p.1 r q.0.numbers q.1 in
      let k : Carried rule x.start
      = subst (λ (l : Rule). Carried l x.start) lent.same_rule
      (subst (λ (f : F). Carried (meaning g p.0) f) lent.same_start does.carries) in
      let o = answered_fitting rule x.start p.0.numbers p.1 lent.fits c in (
        record {
          same_rule = ap₂ (λ (a : R) (size : ℕ). rule_for g a size) does.rule k.does.sizes.replicas ∙ lent.same_rule;
          same_start = does.start ∙ lent.same_start;
          fits = k.fits lent.fits;
        },
        record {
          answer = k.does.answer ∙ ap (λ (w : Outcome F). w.reply) o;
          next = k.does.state ∙ ap (λ (w : Outcome F). w.next) o;
        },
      )

  pub runs : (cs : List (Call F)) (rs : List (Answer F)) (x' : Register R F) (t' : Tables F) → Ran g x t cs rs x' t'
      → Runs g cs x t rs x' t'
  runs cs rs x' t' ran =
      let lent : Fitting x.numbers t → OnTables (x, t) = λ fits. record { same_rule = refl; same_start = refl; fits = fits } in
      record {
        ran = ran;
        fits = λ fits. (follows _ rule state OnTables plays (lent fits) ran).apt.fits;
        extends = λ fits h before. (extends _ rule state OnTables plays (lent fits) ran x.start h before).1;
      }

-- OVER TABLES OF ITS OWN

module _ {R F : Type 0} (g : Ghosts R) (x : Cluster R F) where
  abbrev SameRule : Cluster R F → Type 0
  SameRule y = cluster_rule g y ≡ cluster_rule g x

  steps : (c : Call F) (y : Cluster R F) (r : Answer F) (z : Cluster R F) → Steps g c y r z → SameRule y
      → SameRule z × StepsTo (cluster_rule g x) c (cluster_state y) r (cluster_state z)
  steps c y r z does same = (
    does.rule ∙ same,
    record {
      answer = does.answer ∙ ap (λ (l : Rule). (step l (cluster_state y) c).reply) same;
      next = does.state ∙ ap (λ (l : Rule). (step l (cluster_state y) c).next) same;
    },
  )

  pub cluster_runs : (cs : List (Call F)) (rs : List (Answer F)) (x' : Cluster R F) → ClusterRan g x cs rs x'
      → (h : History F) → Grows (cluster_rule g x) x.register.start h (cluster_state x)
      → Extends (cluster_rule g x) x.register.start cs (cluster_state x) rs (cluster_state x') h
  cluster_runs cs rs x' ran h before =
      (extends (Steps g) (cluster_rule g x) cluster_state SameRule steps refl ran x.register.start h before).1

-- The turns of a loop over the calls.
module _ {R F : Type 0} {g : Ghosts R} {x : Register R F} {t : Tables F} {rs : List (Answer F)} where
  pub ran_none : rs ≡ [] → Ran g x t [] rs x t
  ran_none e = subst (λ (l : List (Answer F)). Ran g x t [] l x t) (sym e) begun

  module _ {x' : Register R F} {t' : Tables F} (calls : List (Call F)) (i : ℕ) where
    pub ran_more : Ran g x t (take i calls) rs x' t' → i < length calls → {c : Call F} → c ≡ get_or calls i c → {r : Answer F}
        {x'' : Register R F} {t'' : Tables F} → Plays g c x' t' r x'' t'' → {l : List (Answer F)} → l ≡ rs ++ r ∷ []
        → Ran g x t (take (i + 1) calls) l x'' t''
    ran_more ran low {c} is {r} {x''} {t''} plays {l} e =
        let more : take (i + 1) calls ≡ take i calls ++ c ∷ []
        = take_more calls i c low ∙ ap (λ (d : Call F). take i calls ++ d ∷ []) (sym is) in
        subst (λ (k : List (Answer F)). Ran g x t (take (i + 1) calls) k x'' t'') (sym e)
        (subst (λ (k : List (Call F)). Ran g x t k (rs ++ r ∷ []) x'' t'') (sym more) (then ran c r (x'', t'') plays))

    pub ran_all : Ran g x t (take i calls) rs x' t' → length calls ≤ i → Runs g calls x t rs x' t'
    ran_all ran all =
        runs g x t calls rs x' t' (subst (λ (k : List (Call F)). Ran g x t k rs x' t') (take_all i calls all) ran)
