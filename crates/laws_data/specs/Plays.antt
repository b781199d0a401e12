-- Worked plays: the premises of the laws can be met, and each way to another primary can be gone.
use Rattle.std.specs.Prelude.{◌≡◌, ◌==◌, nat_lt, ℕ, true, false, List, [], ◌∷◌, ◌++◌, Some}
use Rattle.sm_copies.specs.Lists.{ListEntry, beginning}
use Rattle.laws_data.specs.Shard.{Acknowledges, Changes, Chooses, Copies, Ends, Event, Executes, Follows, Goes}
use Rattle.laws_data.specs.Shard.{HasPrimary, Hears, Joins, Loses, Lowers, MayHappenInTurn, Releases, Shard, Succeeds}
use Rattle.laws_data.specs.Shard.{Takes, Tells, all_left, new_shard}

-- three replicas, of which 0 is primary; two have each write
abbrev pub THREE : Shard
THREE = new_shard 3 (λ _. true) 0 2

-- the write 7, in the first view
abbrev pub SEVEN : ListEntry
SEVEN = record { view = 0; write = 7 }

-- Both secondaries copy the shard. Server 1 follows the write 7, and it is acknowledged; server 2 lags.
abbrev pub SEVEN_IS_WRITTEN : List Event
SEVEN_IS_WRITTEN =
    Copies 1 ∷ Copies 2 ∷ Executes 7 ∷ Follows 1 (beginning 0 ∷ SEVEN ∷ []) ∷ Tells 1 ∷ Hears 0
    ∷ Acknowledges (beginning 0 ∷ SEVEN ∷ []) ∷ []

-- Then the primary loses its disk, and a reopening chooses server 1, with nothing named.
abbrev pub PRIMARY_IS_LOST : List Event
PRIMARY_IS_LOST =
    Loses 0
    ∷ Chooses (record {
      successor = 1;
      view = 5;
      replicas = λ _. true;
      answered = λ _. true;
      needed = 1;
      named = false;
    })
    ∷ []

-- Or one copy is asked for, server 2 loses its disk, and the primary becomes a secondary. Server 1 asks it for its
-- copy, and becomes primary.
abbrev pub FORMER_IS_ASKED : List Event
FORMER_IS_ASKED = Lowers 1 ∷ Loses 2 ∷ Ends 3 ∷ Succeeds 1 5 0 ∷ []

-- Or the former primary gets leave of server 1, without a primary, and goes; server 1 becomes primary.
abbrev pub FORMER_IS_RELEASED : List Event
FORMER_IS_RELEASED = Lowers 1 ∷ Ends 3 ∷ Releases 0 (λ t. t == 1) ∷ Goes 0 ∷ Changes 1 5 (λ _. true) ∷ []

-- Or server 2, which lags, gets leave of the others and goes; comes again by server 1's copy, without a primary; and
-- becomes primary itself when server 1 has lost its disk.
abbrev pub LAGGARD_COMES_AGAIN : List Event
LAGGARD_COMES_AGAIN =
    Ends 3 ∷ Releases 2 (λ t. nat_lt t 2) ∷ Goes 2 ∷ Takes 2 1 ∷ Joins 2 ∷ Loses 1 ∷ Changes 2 5 (λ _. true) ∷ []

-- A play with these events behind the write is allowed. The write is acknowledged and with the primary, which began
-- a view.
pub record EndsWithTheWrite (events : List Event) (successor view : ℕ) : Type 0 where
  pub allowed : MayHappenInTurn THREE (SEVEN_IS_WRITTEN ++ events)
  pub has_primary : HasPrimary (all_left (SEVEN_IS_WRITTEN ++ events) THREE)
  pub primary : (all_left (SEVEN_IS_WRITTEN ++ events) THREE).primary ≡ successor
  pub acknowledged : (all_left (SEVEN_IS_WRITTEN ++ events) THREE).acknowledged ≡ beginning 0 ∷ SEVEN ∷ []
  pub copy :
      (all_left (SEVEN_IS_WRITTEN ++ events) THREE).copies successor ≡ Some (beginning 0 ∷ SEVEN ∷ beginning view ∷ [])

-- A write outlives its primary: the new one is not the one that executed it.
abbrev pub OutlivesItsPrimary : Type 0
OutlivesItsPrimary = EndsWithTheWrite PRIMARY_IS_LOST 1 5

-- A secondary becomes primary by the former primary's copy, where too few others are left.
abbrev pub SucceedsItsPrimary : Type 0
SucceedsItsPrimary = EndsWithTheWrite FORMER_IS_ASKED 1 5

-- A replica goes without a primary, by leave of one that has all that it has.
abbrev pub LeavesWithoutPrimary : Type 0
LeavesWithoutPrimary = EndsWithTheWrite FORMER_IS_RELEASED 1 5

-- A replica comes without a primary, by the copy of another one.
abbrev pub ComesWithoutPrimary : Type 0
ComesWithoutPrimary = EndsWithTheWrite LAGGARD_COMES_AGAIN 2 5
