-- The life of a register: a draft is commissioned over lent tables, and a register is closed.
use Rattle.std.specs.Prelude.{◌≡◌, ℕ, Bool, true, false, ◌&&◌, List, [], length, Ok, Err, Result, nat_le}
use Rattle.quorum.specs.Sets.{Rule}
use Rattle.quorum.specs.declared.system.QuorumSystem.{Ghosts}
use Rattle.model.specs.declared.answers.Refusal.{Refusal}
use Rattle.model.specs.State.{fresh}
use Rattle.model.specs.History.{Grows}
use Rattle.model.specs.declared.calls.Call.{Call}
use Rattle.model.specs.Answers.{Answer}
use Rattle.register.specs.declared.tally.Tally.{Tally}
use Rattle.register.specs.declared.service.Draft.{Draft}
use Rattle.register.specs.declared.service.Uncommissioned.{Uncommissioned}
use Rattle.register.specs.declared.service.Register.{Register}
use Rattle.tables.specs.View.{Tables, view, Fitting, rule_for}
use Rattle.register.specs.Calls.{meaning}
use Rattle.register.specs.Runs.{Ran, Extends}
use Rattle.register.specs.Commissioning.{new_numbers, parties_fit}

-- The rule that a draft is of, over the replicas that it was made for.
abbrev pub drafted : {R F : Type 0} → Ghosts R → Draft R F → Rule
drafted g d = rule_for g d.rule d.replicas

-- COMMISSIONING

-- Which lengths the messages and the journal may have.
abbrev pub rooms_fit : {R F : Type 0} → Draft R F → ℕ → ℕ → Bool
rooms_fit d messages journal =
    nat_le d.replicas messages && nat_le messages 4096 && nat_le 1 journal && nat_le journal 4096

-- Which tables a draft may be commissioned over.
abbrev pub allowed : {R F : Type 0} → Draft R F → Tables F → Bool
allowed d t =
    parties_fit d.replicas d.readers (length t.replicas) (length t.readers) (length t.marks)
    && rooms_fit d (length t.messages) (length t.journal)

-- x is the draft's register, with so much room.
pub record Opened {R F : Type 0} (d : Draft R F) (message_room journal_room : ℕ) (x : Register R F)
    : Type 0 where
  pub rule : x.rule ≡ d.rule
  pub start : x.start ≡ d.start
  pub numbers : x.numbers ≡ new_numbers d.replicas d.readers message_room journal_room

-- x is the draft's register, newly in service over these tables. Whatever is called from here on, each call on what the one
-- before left: the answers are those of one history, and under a lawful rule that history is served.
pub record InService {R F : Type 0} (g : Ghosts R) (d : Draft R F) (x : Register R F) (t : Tables F) : Type 0 where
  pub opened : Opened d (length t.messages) (length t.journal) x
  pub same_meaning : meaning g x ≡ drafted g d
  pub state : view x.start x.numbers t
      ≡ fresh (drafted g d) d.start d.readers (length t.messages) (length t.journal)
  pub fits : Fitting x.numbers t
  pub begins : Grows (meaning g x) x.start [] (view x.start x.numbers t)
  pub serves : (cs : List (Call F)) (rs : List (Answer F)) (x' : Register R F) (t' : Tables F) → Ran g x t cs rs x' t'
      → Fitting x'.numbers t'
      × Extends (meaning g x) x.start cs (view x.start x.numbers t) rs (view x.start x'.numbers t') []

-- The draft came back as it was, with the refusal, and no table is altered.
pub record SentBack {R F : Type 0} (d : Draft R F) (t : Tables F) (u : Uncommissioned R F) (t' : Tables F) : Type 0 where
  pub draft : u.draft ≡ d
  pub refusal : u.refusal ≡ Refusal.TableLength
  pub tables : t' ≡ t

-- What commissioning over the tables t comes to, which are t' then.
abbrev pub Commissioned : {R F : Type 0} → Ghosts R → Draft R F → Tables F
    → Result (Register R F) (Uncommissioned R F) → Tables F → Type 0
Commissioned g d t (Ok x) t' =
    (allowed d t ≡ true) × InService g d x t' × (t'.messages ≡ t.messages) × (t'.journal ≡ t.journal)
Commissioned g d t (Err u) t' = (allowed d t ≡ false) × SentBack d t u t'

-- CLOSING

-- What closing returns.
abbrev pub closed : {R F : Type 0} → Register R F → Tally
closed x = record { lines = x.numbers.lines; finished = x.numbers.finished; waiting = x.numbers.waiting }
