-- A party that passes its test has a place in its table, and a reader in its first round is at work.
use Rattle.std.proofs.Common.{◌≡◌, ◌<◌, true, false, length, sym, refl}
use Rattle.std.proofs.lemmas.Bool.{both_ways, ltb-true}
use Rattle.quorum.specs.Sets.{Rule}
use Rattle.model.specs.declared.parties.Party.{Party}
use Rattle.model.specs.declared.reader.Phase.{Phase}
use Rattle.model.specs.State.{State, index}
use Rattle.model.specs.Sound.{a_reader, a_replica, idle}
use Rattle.model.specs.Deliveries.{in_first}

pub reader_index : {F : Type 0} (s : State F) (p : Party) → a_reader s p ≡ true → index p < length s.readers
reader_index s Party.Writer e = absurd (both_ways false refl e)
reader_index s (Party.Reader r) e = ltb-true r (length s.readers) e
reader_index s (Party.Replica c) e = absurd (both_ways false refl e)

pub replica_index : (rule : Rule) (p : Party) → a_replica rule p ≡ true → index p < rule.size
replica_index rule Party.Writer e = absurd (both_ways false refl e)
replica_index rule (Party.Reader r) e = absurd (both_ways false refl e)
replica_index rule (Party.Replica c) e = ltb-true c rule.size e

pub not_idle : (p : Phase) → in_first p ≡ true → idle p ≡ false
not_idle Phase.Idle e = sym e
not_idle Phase.First e = refl
not_idle Phase.Second e = refl
not_idle Phase.Relay e = refl
