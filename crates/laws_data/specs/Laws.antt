-- The laws of data.
use Rattle.std.specs.Prelude.{◌≡◌, ◌<◌, ◌≤◌, ℕ, Bool, true, false, not, List, Some}
use Rattle.std.specs.List.{AllByRecursion}
use Rattle.sm_copies.specs.Lists.{ListEntry, begins}
use Rattle.laws_data.specs.Shard.{HasPrimary, MayHappenInTurn, Event, IsGreatest, IsShardReached, Shard, counted, gone}
use Rattle.laws_data.specs.Shard.{lacks, names, all_left}

-- Whatever happens from now on, if the shard is not named as lost its primary has all that is acknowledged now, as long
-- as there is one, and it has a whole copy.
abbrev pub AcknowledgedWritesStay : Type 0
AcknowledgedWritesStay = (w : Shard) (events : List Event) (copy : List ListEntry) →
    IsShardReached w → MayHappenInTurn w events → AllByRecursion (λ e. names e ≡ false) events →
    HasPrimary (all_left events w) → (all_left events w).copies (all_left events w).primary ≡ Some copy
    → begins w.acknowledged copy ≡ true

-- As many replicas as are asked for lack nothing that is acknowledged: they have it, or have no whole copy.
abbrev pub EnoughHaveThem : Type 0
EnoughHaveThem = (w : Shard) → IsShardReached w → w.needed ≤ counted w (λ s. not (lacks w.acknowledged (w.copies s)))

-- If fewer replicas than are asked for are gone, the greatest of the copies that are told has all that is acknowledged.
abbrev pub GreatestHasAll : Type 0
GreatestHasAll = (w : Shard) (answered : ℕ → Bool) (successor : ℕ) (copy : List ListEntry) →
    IsShardReached w → w.copies successor ≡ Some copy → IsGreatest w answered copy → gone w answered < w.needed
    → begins w.acknowledged copy ≡ true
