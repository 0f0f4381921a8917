-- Every call keeps what is known.
use Rattle.std.proofs.Common.{◌≡◌, ℕ, ◌*◌, ◌/◌, ◌<◌, true, false, not, List, [], ◌∷◌, ◌++◌, length, Some, sym, refl, arith}
use Rattle.std.proofs.ByRecursion.{All-get_or}
use Rattle.std.proofs.lemmas.Bool.{cond_both, both_ways, leb-false, eqb-true, not-false}
use Rattle.quorum.specs.Sets.{Rule, bits}
use Rattle.quorum.specs.Laws.{Lawful}
use Rattle.model.specs.declared.parties.Party.{Party}
use Rattle.model.specs.declared.messages.MessageKind.{MessageKind}
use Rattle.model.specs.declared.replica.Replica.{Replica}
use Rattle.model.specs.declared.reader.Reader.{Reader}
use Rattle.model.specs.declared.messages.Message.{Message}
use Rattle.model.specs.declared.calls.Call.{Call}
use Rattle.model.specs.declared.answers.Refusal.{Refusal}
use Rattle.model.specs.Stamps.{rank}
use Rattle.model.specs.State.{State, unused, message, halted, without_message}
use Rattle.model.specs.Deliveries.{on, received}
use Rattle.model.specs.Steps.{Outcome, declined, outcome, deliver, done, Tests, tests, first_of, refusal, overfull, settled, step}
use Rattle.model.specs.History.{History, event}
use Rattle.model.proofs.Sets.{none}
use Rattle.model.proofs.Lists.{all_without}
use Rattle.model.proofs.Ranks.{rank_start}
use Rattle.model.proofs.World.{World}
use Rattle.model.proofs.Good.{True, start_true, Says, InPhase, MarkGood, Good, Kept, Keeps}
use Rattle.model.proofs.Steps.{posts, delivery, keeps_declined, keeps_dropped, keeps_duplicated, keeps_halt, kept_quiet, kept_query, kept_fan}
use Rattle.model.proofs.Ends.{line_none}
use lib.ListN.{length-replicate}
use Rattle.model.specs.State.{fresh}
use Rattle.model.specs.Sound.{sound}
use Rattle.model.specs.Steps.{busy}
use Rattle.model.proofs.Lists.{each_replicate}
use Rattle.model.proofs.Waits.{kept_put_ack}
use Rattle.model.proofs.Acts.{kept_put, kept_back}
use Rattle.model.proofs.Hearing.{kept_have, kept_back_ack}
use Rattle.model.proofs.Relays.{kept_relay, kept_reply}
use Rattle.model.proofs.Starts.{kept_read, kept_write}

-- None of the tests declines the call.
abbrev pub Clear : Tests → Type 0
Clear [] = Unit {0}
Clear (t ∷ ts) = (t.0 ≡ false) × Clear ts

pub settles : {F : Type 0} (P : Outcome F → Type 0) (s : State F) (ts : Tests) (o : Outcome F)
    → ((e : Refusal) → P (declined s e)) → (Clear ts → P o) → P (settled s (first_of ts) o)
settles P s [] o d k = cond_both (overfull s o) _ _ P (λ _. d Refusal.NoRoom) (λ _. k tt)
settles P s (t ∷ ts) o d k =
    cond_both t.0 (Some t.1) (first_of ts) (λ r. P (settled s r o)) (λ _. d t.1)
    (λ e. settles P s ts o d (λ c. k (e, c)))

-- A call is declined, or is done where the tables are sound and its tests are clear.
pub stepped : {F : Type 0} (P : Outcome F → Type 0) (rule : Rule) (s : State F) (c : Call F)
    → ((e : Refusal) → P (declined s e)) → (sound rule s ≡ true → Clear (tests rule s c) → P (done rule s c))
    → P (step rule s c)
unfolding step refusal
stepped P rule s c d k =
    settles P s ((not (sound rule s), Refusal.Unsound) ∷ tests rule s c) (done rule s c) d
    (λ t. k (not-false _ t.0) t.1)

pub not_busy : (n : ℕ) → busy n ≡ false → n ≡ 0
not_busy n e = eqb-true n 0 (not-false _ e)

module _ {F : Type 0} (q : Rule) (R : ℕ) (law : Lawful q) (start : F) where
  module _ (w : World F) (s : State F) (h : History F) (g : Good q R start w s h) (place : ℕ)
      (taken : List (Message F)) where
    acts : (k : MessageKind) (m : Message F) → Says q R w k m → Kept q R start h (delivery place taken) (on q k s m)
    unfolding on
    acts MessageKind.Put m x = kept_put q R law start w s h g place taken m x
    acts MessageKind.PutAck m x = kept_put_ack q R law start w s h g place taken m x
    acts MessageKind.Query m x = kept_query q R law start w s h g place taken m x
    acts MessageKind.Have m x = kept_have q R law start w s h g place taken m x
    acts MessageKind.Back m x = kept_back q R law start w s h g place taken m x
    acts MessageKind.BackAck m x = kept_back_ack q R law start w s h g place taken m x
    acts MessageKind.Fan m x = kept_fan q R law start w s h g place taken m x
    acts MessageKind.Relay m x = kept_relay q R law start w s h g place taken m x
    acts MessageKind.Reply m x = kept_reply q R law start w s h g place taken m x

    arrives : (m : Message F) → Says q R w m.kind m → Kept q R start h (delivery place taken) (received q s m)
    unfolding received
    arrives m x =
        cond_both (halted s m.receiver) _ _ (Kept q R start h (delivery place taken))
        (λ _. kept_quiet q R law start w s h g place taken) (λ _. acts m.kind m x)

  module _ (w : World F) (s : State F) (h : History F) (g : Good q R start w s h) where
    pub taken_out : (p : ℕ) → Good q R start w (without_message s p) h
    taken_out p = record {
      core = g.core;
      first_value = g.first_value;
      start_is = g.start_is;
      now_is = g.now_is;
      count_is = g.count_is;
      last_is = g.last_is;
      at_is = g.at_is;
      figures = g.figures;
      replicas_are = g.replicas_are;
      messages = all_without (λ m. Says q R w m.kind m) s.messages p g.messages;
      readers = g.readers;
      writer = g.writer;
      readers_are = g.readers_are;
      marks = g.marks;
      lines = g.lines;
      at_work = g.at_work;
      told = g.told;
      put = g.put;
      begun = g.begun;
      ended = g.ended;
    }

    pub says_at : (p : ℕ) → p < length s.messages → Says q R w (message s p).kind (message s p)
    says_at p l = All-get_or (λ m. Says q R w m.kind m) s.messages p _ l g.messages

    keeps_deliver : (p : ℕ) → p < length s.messages
        → Keeps q R start h (Call.Deliver p) (outcome (message s p ∷ []) (deliver q s p))
    unfolding deliver
    keeps_deliver p l =
        let k = arrives w (without_message s p) h (taken_out p) p (message s p ∷ []) (message s p) (says_at p l) in
        record { world = k.world; good = posts q R start k.world _ h _ k.good }

    keeps_done : (c : Call F) → Clear (tests q s c) → Keeps q R start h c (done q s c)
    unfolding done tests
    keeps_done (Call.Write f) t = let k = kept_write q R law start w s h g f (not_busy _ t.1.0) in record { world = k.world; good = posts q R start k.world _ h _ k.good }
    keeps_done (Call.Read r kind) t =
        let k = kept_read q R law start w s h g r kind (omega (arith, leb-false _ _ t.0, g.readers_are))
        (not_busy _ t.1.1.0) in
        record { world = k.world; good = posts q R start k.world _ h _ k.good }
    keeps_done (Call.Deliver p) t = keeps_deliver p (leb-false _ _ t.0)
    keeps_done (Call.Drop p) t = keeps_dropped q R law start w s h g p
    keeps_done (Call.Duplicate p) t = keeps_duplicated q R law start w s h g p (leb-false _ _ t.0)
    keeps_done (Call.Halt p) t = keeps_halt q R law start w s h g p

    pub keeps_step : (c : Call F) → Keeps q R start h c (step q s c)
    keeps_step c =
        stepped (Keeps q R start h c) q s c (λ e. keeps_declined q R law start w s h g c e) (λ _ t. keeps_done c t)

  abbrev dawn : World F
  dawn = record {
    now = 0;
    last = 0;
    count = 0;
    at = λ _. 0;
    ops = λ _. record { stage = 0; begun = 0; ended = 0; aim = 0; owner = Party.Writer; reading = false; snap = λ _. 0 };
    value = λ _. unused start;
    wrote = λ _. 0;
    given = λ _. start;
    since = λ _. 0;
  }

  at_first : (message_room journal_room : ℕ) → Good q R start dawn (fresh q start R message_room journal_room) []
  unfolding fresh
  at_first a b = record {
    core = record {
      low = λ c. omega arith;
      paced = λ t u l e. omega arith;
      past = λ t e. omega arith;
      op = λ j. record {
        named = λ a. absurd (omega arith);
        counted = λ a. absurd (omega arith);
        in_past = λ a. absurd (omega arith);
        grown = λ a. absurd (omega arith);
        fresh_since = λ a. absurd (omega arith);
        aim_written = λ a. absurd (omega arith);
        read_aim = λ a. absurd (omega arith);
        write_aim = λ a. absurd (omega arith);
        write_own = λ a. absurd (omega arith);
        write_positive = λ a. absurd (omega arith);
        kept = λ a. absurd (omega arith);
        kept_since = λ a. absurd (omega arith);
        ended_after = λ a. absurd (omega arith);
      };
      figures = λ j a. absurd (omega arith);
      source = λ t p. absurd (omega arith);
    };
    first_value = refl;
    start_is = refl;
    now_is = refl;
    count_is = refl;
    last_is = sym rank_start;
    at_is =
        each_replicate (λ k (x : Replica F). ◌≡◌ {A = ℕ} 0 (rank x.stamp)) q.size _ _ (λ k. sym rank_start)
        (λ k. sym rank_start);
    figures =
        each_replicate (λ k (x : Replica F). True dawn x.stamp x.figure) q.size _ _
        (λ k. start_true dawn start refl (unused start) refl) (λ k. start_true dawn start refl (unused start) refl);
    replicas_are = length-replicate q.size _;
    messages = tt;
    readers = each_replicate (λ k (x : Reader F). InPhase q dawn k x.phase x) R _ _ (λ k. tt) (λ k. tt);
    writer = record {
      stage_is = λ a. absurd (omega arith);
      owner_is = λ a. absurd (omega arith);
      writes = λ a. absurd (omega arith);
      acked = λ a. absurd (omega arith);
    };
    readers_are = length-replicate R _;
    marks = each_replicate (λ i k. MarkGood dawn (i / R) k) (q.size * R) _ _
        (λ i. record {
          low = omega arith;
          born = λ c m. absurd (both_ways (bits 0 c) (none c) m);
          fresh = λ c m. omega arith;
        })
        (λ i. record {
          low = omega arith;
          born = λ c m. absurd (both_ways (bits 0 c) (none c) m);
          fresh = λ c m. omega arith;
        });
    lines = λ j. line_none dawn _ _ refl;
    at_work = λ j. record { busy = λ a. absurd (omega arith); latest = λ a. absurd (omega arith) };
    told = λ m r e. absurd e;
    put = λ j a. absurd (omega arith);
    begun = λ j a. absurd (omega arith);
    ended = λ j a. absurd (omega arith);
  }

  pub record Known (s : State F) (h : History F) : Type 0 where
    pub world : World F
    pub good : Good q R start world s h

  pub known_first : (a b : ℕ) → Known (fresh q start R a b) []
  known_first a b = record { world = dawn; good = at_first a b }

  pub known_step : (s : State F) (h : History F) (c : Call F) → Known s h
      → Known (step q s c).next (h ++ event c (step q s c) ∷ [])
  known_step s h c k = let n = keeps_step k.world s h k.good c in record { world = n.world; good = n.good }
