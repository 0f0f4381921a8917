-- Answers line by line.
use Rattle.std.proofs.Common.{◌≡◌, ℕ, ◌+◌, ◌≤◌, List, [], ◌∷◌, ◌++◌, length, Ok, Err, Result, sym, refl, ap, ◌∙◌, append-nil, subst}
use Rattle.std.specs.Prelude.{IsOk}
use Rattle.std.proofs.lemmas.Bool.{le-ltb}
use Rattle.quorum.specs.Sets.{Rule}
use Rattle.figure.specs.declared.kind.FigureKind.{Ghosts}
use Rattle.text.specs.Lines.{lines}
use Rattle.text.specs.Printing.{Printed}
use Rattle.model.specs.State.{State}
use Rattle.model.specs.declared.answers.Reply.{Reply}
use Rattle.script.specs.declared.fault.ScriptFault.{ScriptFault}
use Rattle.script.specs.declared.header.Header.{Header}
use Rattle.script.specs.declared.header.Kind.{Kind}
use Rattle.script.specs.Answers.{LineAnswer, line_shown}
use Rattle.player.specs.declared.session.AnyCluster.{AnyCluster}
use Rattle.player.specs.declared.session.AnyDraft.{AnyDraft}
use Rattle.player.specs.declared.session.Session.{Session}
use Rattle.player.specs.Playing.{turn, answers, by_kind, opened, plain_line, script_answers, played}
use Rattle.player.specs.Sessions.{first_answer, cluster_ahead, ahead, AnyDraftOf, Drafts, draft_ahead, Founds}

-- A CALL LINE

module _ {F : Type 0} (kind : Ghosts F) where
  -- what is printed of a line's answer is what is answered to that line alone
  pub prints_answer : (rule : Rule) (s : State F) (n : ℕ) (l : List ℕ) (a : LineAnswer F) (all before after : List ℕ) (end : ℕ)
      → all ≡ answers kind rule s n (l ∷ []) → a ≡ (turn kind rule s l).answer
      → Printed before 0 (line_shown kind.shown n a) after end → Printed before 0 all after end
  unfolding answers
  prints_answer rule s n l a all before after end is e p =
      subst (λ (bytes : List ℕ). Printed before 0 bytes after end)
      (ap (line_shown kind.shown n) e ∙ sym (append-nil (line_shown kind.shown n (turn kind rule s l).answer)) ∙ sym is) p

  -- the answers to a line and to those behind it
  pub onward : (rule rule' : Rule) (s s' : State F) (n : ℕ) (l : List ℕ) (ls : List (List ℕ))
      → rule' ≡ rule → s' ≡ (turn kind rule s l).next
      → answers kind rule s n (l ∷ ls) ≡ answers kind rule s n (l ∷ []) ++ answers kind rule' s' (n + 1) ls
  unfolding answers
  onward rule rule' s s' n l ls same next =
      let line = line_shown kind.shown n (turn kind rule s l).answer in
      rw (same, next) (ap (λ x. x ++ answers kind rule (turn kind rule s l).next (n + 1) ls) (sym (append-nil line)))

-- no line, no answer
pub ended : (s : Session) (ls : List (List ℕ)) → ls ≡ [] → ahead s ls ≡ []
unfolding answers
ended s ls e = ap (ahead s) e ∙ by_cluster s.cluster s.number
  where
    by_cluster : (p : AnyCluster) (n : ℕ) → cluster_ahead p n [] ≡ []
    by_cluster (AnyCluster.Tide x) n = refl
    by_cluster (AnyCluster.Order x) n = refl

-- THE FIRST LINE

declined_shown : (r : Result Header ScriptFault) (e : ScriptFault) → Drafts r (Err e) → first_answer r ≡ plain_line 1 (Err e)
declined_shown (Ok h) e d = absurd d
declined_shown (Err f) e d = ap (λ (x : ScriptFault). plain_line 1 (Err x)) (sym d)

pub declined_prints : (r : Result Header ScriptFault) (e : ScriptFault) (before after : List ℕ) (end : ℕ) → Drafts r (Err e)
    → Printed before 0 (plain_line 1 (Err e)) after end → Printed before 0 (first_answer r) after end
declined_prints r e before after end d p =
    subst (λ (bytes : List ℕ). Printed before 0 bytes after end) (sym (declined_shown r e d)) p

pub accepted_prints : (r : Result Header ScriptFault) (d : AnyDraft) (before after : List ℕ) (end : ℕ) → Drafts r (Ok d)
    → Printed before 0 (plain_line 1 (Ok Reply.Done)) after end → Printed before 0 (first_answer r) after end
accepted_prints (Ok h) d before after end t p = p
accepted_prints (Err e) d before after end t p = absurd t

pub declined_onward : (r : Result Header ScriptFault) (e : ScriptFault) (ls : List (List ℕ)) → Drafts r (Err e)
    → opened (λ h. by_kind h.kind h ls) r ≡ first_answer r ++ []
declined_onward (Ok h) e ls d = absurd d
declined_onward (Err f) e ls d = sym (append-nil (plain_line 1 (Err f)))

pub drafts_accepted : (r : Result Header ScriptFault) (d : AnyDraft) → Drafts r (Ok d) → IsOk r
drafts_accepted (Ok h) d t = refl
drafts_accepted (Err e) d t = absurd t

by_draft : (k : Kind) (h : Header) (d : AnyDraft) (ls : List (List ℕ)) → AnyDraftOf k h d → by_kind k h ls ≡ draft_ahead d ls
by_draft Kind.Tide h (AnyDraft.Tide d) ls t = rw (t.0, t.1, t.2)
by_draft Kind.Tide h (AnyDraft.Order d) ls t = absurd t
by_draft Kind.Order h (AnyDraft.Tide d) ls t = absurd t
by_draft Kind.Order h (AnyDraft.Order d) ls t = rw (t.0, t.1, t.2)

pub accepted_onward : (r : Result Header ScriptFault) (d : AnyDraft) (s : Session) (ls : List (List ℕ)) → Drafts r (Ok d) → Founds d s
    → opened (λ h. by_kind h.kind h ls) r ≡ first_answer r ++ ahead s ls
accepted_onward (Ok h) d s ls t f =
    ap (λ x. plain_line 1 (Ok Reply.Done) ++ x) (by_draft h.kind h d ls t ∙ sym (f.onward ls))
accepted_onward (Err e) d s ls t f = absurd t

-- A SCRIPT

-- what is printed for a script that is not too long, by its lines
pub played_lines : (text first : List ℕ) (ls : List (List ℕ)) → length text ≤ 65536 → lines text ≡ first ∷ ls
    → played text ≡ script_answers (first ∷ ls)
played_lines text first ls few e = rw (le-ltb 65536 (length text) few) (ap script_answers e)
