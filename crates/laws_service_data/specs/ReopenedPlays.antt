-- Worked plays of reopenings: behind a write that is acknowledged a server loses its copy, and is given up.
use Rattle.std.specs.Prelude.{◌≡◌, ◌++◌, ℕ, true, false, List, [], ◌∷◌, Some, slice_index_or}
use Rattle.sm_agent.specs.declared.request.Routing.TheVariants.{Execute}
use Rattle.sm_copies.specs.Lists.{ListEntry, beginning}
use Rattle.laws_network.specs.Fleet.{Fleet, Routed, Serve, fleet_comes}
use Rattle.laws_data.specs.Shard.{Acknowledges, Copies, Ends, Event, Executes, Follows, Hears, Loses, Shard, Tells, all_left, new_shard}
use Rattle.laws_service_data.specs.Laws.{IsJoinedReached}
use Rattle.laws_service_data.specs.Epochs.{Epoch}
use Rattle.laws_service_data.specs.Reopened.{IsReopened}
use Rattle.laws_service_data.specs.Plays.{list_with}

-- Server 0 executes the write 7, server 2 follows, and it is acknowledged.
abbrev pub WRITE_OF_SEVEN : List Event
WRITE_OF_SEVEN =
    Copies 2 ∷ Executes 7 ∷ Follows 2 (list_with (7 ∷ [])) ∷ Tells 2 ∷ Hears 0 ∷ Acknowledges (list_with (7 ∷ [])) ∷ []

-- the data once that is so, of a shard that servers 0 and 2 have, and then this has happened
abbrev pub data_after : List Event → Shard
data_after es =
    all_left es (all_left WRITE_OF_SEVEN (new_shard 3 (λ u. slice_index_or (true ∷ false ∷ true ∷ []) u false) 0 2))

-- A reopening over a fleet with these data settles so that this server executes requests, with this list.
pub record IsServedAnew (w : Shard) (v : ℕ) (list : List ListEntry) : Type 0 where
  pub epoch : Epoch
  pub reached : IsJoinedReached epoch.setup epoch.number epoch.joined
  pub is : epoch.joined.shard ≡ w
  pub fleet : Fleet
  pub acts : List Event
  pub reopened : IsReopened epoch epoch.setup epoch.number fleet acts
  pub executes : (fleet_comes fleet (Serve epoch.number v 0)).0 ≡ Routed epoch.number v Execute
  pub copy : (all_left acts w).copies v ≡ Some list

-- The secondary is lost: the primary is left, and serves.
abbrev pub PrimaryServesOn : Type 0
PrimaryServesOn = IsServedAnew (data_after (Loses 2 ∷ [])) 0 (list_with (7 ∷ []))

-- The primary is lost: the secondary is chosen, begins the view 2, and serves.
abbrev pub SecondaryIsChosen : Type 0
SecondaryIsChosen = IsServedAnew (data_after (Loses 0 ∷ [])) 2 (list_with (7 ∷ []) ++ beginning 2 ∷ [])

-- The primary has become a secondary by the order 1, and the other one is lost: it is the primary again, in the view 2.
abbrev pub FormerServesAgain : Type 0
FormerServesAgain = IsServedAnew (data_after (Ends 1 ∷ Loses 2 ∷ [])) 0 (list_with (7 ∷ []) ++ beginning 2 ∷ [])
