-- A fleet together with the data of one of its shards, and what happens to both.
use Rattle.std.specs.Prelude.{List, [], ◌∷◌}
use Rattle.laws_network.specs.Fleet.{Fleet, FleetEvent, fleet_comes}
use Rattle.laws_data.specs.Shard.{Event, Shard, all_left, left_by}

-- A fleet, and the data of one of its shards.
pub record Joined : Type 0 where
  pub fleet : Fleet
  pub shard : Shard

-- Something that happens.
pub data JoinedEvent : Type 0 where
  -- Something happens to the fleet, and its servers do something with the data for it, or nothing.
  OfFleet : (event : FleetEvent) (acts : List Event) → JoinedEvent
  -- Servers do something with the data by themselves.
  OfData : (event : Event) → JoinedEvent

-- what there is after an event
abbrev pub joined_comes : Joined → JoinedEvent → Joined
joined_comes x (OfFleet e acts) = record { fleet = (fleet_comes x.fleet e).1; shard = all_left acts x.shard }
joined_comes x (OfData event) = record { fleet = x.fleet; shard = left_by x.shard event }

-- after a list of events
abbrev pub joined_run : List JoinedEvent → Joined → Joined
joined_run [] x = x
joined_run (j ∷ js) x = joined_run js (joined_comes x j)

-- what happens to the fleet
abbrev pub fleet_events : List JoinedEvent → List FleetEvent
fleet_events [] = []
fleet_events (OfFleet e acts ∷ js) = e ∷ fleet_events js
fleet_events (OfData event ∷ js) = fleet_events js
