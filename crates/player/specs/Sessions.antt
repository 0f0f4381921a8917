-- A script that is played line by line: what its session answers to the lines to come.
use Rattle.std.specs.Prelude.{◌≡◌, ℕ, List, [], Ok, Err, Some, None, Option, Result}
use Rattle.figure.specs.declared.kind.FigureKind.{Ghosts}
use Rattle.figure.specs.contracts.order.DigOrderFigureKind.TheImpl.{ghosts as order_kind}
use Rattle.figure.specs.contracts.tide.TideFigureKind.TheImpl.{ghosts as tide_kind}
use Rattle.quorum.specs.declared.system.QuorumSystem.{Ghosts as RuleGhosts}
use Rattle.model.specs.State.{fresh}
use Rattle.model.specs.declared.answers.Reply.{Reply}
use Rattle.register.specs.declared.service.Draft.{Draft}
use Rattle.register.specs.Service.{drafted}
use Rattle.register.specs.Clusters.{cluster_rule, cluster_state}
use Rattle.script.specs.declared.fault.ScriptFault.{ScriptFault}
use Rattle.script.specs.declared.header.Header.{Header}
use Rattle.script.specs.declared.header.Kind.{Kind}
use Rattle.script.specs.Rules.{rule_said}
use Rattle.script.specs.contracts.rule.questions.ScriptRuleQuorumSystem.TheImpl.{ghosts as script_rule}
use Rattle.player.specs.declared.session.AnyCluster.{AnyCluster}
use Rattle.player.specs.declared.session.AnyDraft.{AnyDraft}
use Rattle.player.specs.declared.session.Session.{Session}
use Rattle.player.specs.Playing.{plain_line, answers}

-- The answer to a first line that comes to this.
abbrev pub first_answer : Result Header ScriptFault → List ℕ
first_answer (Ok h) = plain_line 1 (Ok Reply.Done)
first_answer (Err e) = plain_line 1 (Err e)

-- The answers of a register to the lines to come, numbered from n on.
abbrev pub cluster_ahead : AnyCluster → ℕ → List (List ℕ) → List ℕ
cluster_ahead (AnyCluster.Tide x) n ls = answers tide_kind (cluster_rule script_rule x) (cluster_state x) n ls
cluster_ahead (AnyCluster.Order x) n ls = answers order_kind (cluster_rule script_rule x) (cluster_state x) n ls

abbrev pub ahead : Session → List (List ℕ) → List ℕ
ahead s ls = cluster_ahead s.cluster s.number ls

-- The same where there may be no session: then no line is answered.
abbrev pub answers_ahead : Option Session → List (List ℕ) → List ℕ
answers_ahead None ls = []
answers_ahead (Some s) ls = ahead s ls

-- The draft that a header says.
abbrev pub DraftOf : {R F : Type 0} → RuleGhosts R → Ghosts F → Header → Draft R F → Type 0
DraftOf rule kind h d = (drafted rule d ≡ rule_said h.rule) × (d.readers ≡ h.readers) × (d.start ≡ kind.starting)

abbrev pub AnyDraftOf : Kind → Header → AnyDraft → Type 0
AnyDraftOf Kind.Tide h (AnyDraft.Tide d) = DraftOf script_rule tide_kind h d
AnyDraftOf Kind.Tide h (AnyDraft.Order d) = ⊥
AnyDraftOf Kind.Order h (AnyDraft.Tide d) = ⊥
AnyDraftOf Kind.Order h (AnyDraft.Order d) = DraftOf script_rule order_kind h d

-- What drafting comes to, where the first line comes to this.
abbrev pub Drafts : Result Header ScriptFault → Result AnyDraft ScriptFault → Type 0
Drafts (Ok h) (Ok d) = AnyDraftOf h.kind h d
Drafts (Ok h) (Err e) = ⊥
Drafts (Err e) (Ok d) = ⊥
Drafts (Err e) (Err f) = f ≡ e

-- The session of a draft, before the second line.
abbrev pub draft_ahead : AnyDraft → List (List ℕ) → List ℕ
draft_ahead (AnyDraft.Tide d) ls = answers tide_kind (drafted script_rule d) (fresh (drafted script_rule d) d.start d.readers 1024 256) 2 ls
draft_ahead (AnyDraft.Order d) ls = answers order_kind (drafted script_rule d) (fresh (drafted script_rule d) d.start d.readers 1024 256) 2 ls

-- A session is of a draft: it answers what the draft's register does, from line 2 on.
pub record Founds (d : AnyDraft) (s : Session) : Type 0 where
  pub onward : (ls : List (List ℕ)) → ahead s ls ≡ draft_ahead d ls
  pub number : s.number ≡ 2
