-- Worked plays: a shard moves, and a primary forgets its slots. Each write that was acknowledged stays with who serves.
use Rattle.std.specs.Prelude.{◌≡◌, ◌==◌, ◌++◌, ℕ, not, List, [], ◌∷◌, Some}
use Rattle.sm_placement.specs.SafePlace.{IsServing}
use Rattle.sm_protocol.specs.State.{stream_id}
use Rattle.sm_protocol.specs.Happens.{Begin}
use Rattle.sm_agent.specs.declared.request.Routing.TheVariants.{Execute}
use Rattle.sm_copies.specs.Lists.{ListEntry, beginning}
use Rattle.laws_network.specs.Fleet.{Commit, Forget, HearAsk, HearOwner, HearServer, Judge, Make, Publish, Receive, Recover, Routed, Seal, SendOrder, SendPublication, Serve, fleet_comes}
use Rattle.laws_network.specs.FleetLaws.{held_place}
use Rattle.laws_network.specs.FleetPlays.{example_fleet, example_plan}
use Rattle.laws_data.specs.Shard.{Acknowledges, Copies, Event, Executes, Follows, Goes, Hands, Hears, Joins, Leave, Tells, new_shard}
use Rattle.laws_service_data.specs.Joined.{Joined, JoinedEvent, OfData, OfFleet, joined_run}
use Rattle.laws_service_data.specs.Duties.{KeepDuties, IsLeading}

-- Server 0 is the primary of shard 0, and server 2 has a secondary. Each write is to be at two servers.
abbrev pub FIRST : Joined
FIRST = record { fleet = example_fleet; shard = new_shard 3 (λ v. not (v == 1)) 0 2 }

-- writes in the first view
abbrev pub writes : List ℕ → List ListEntry
writes [] = []
writes (n ∷ ns) = record { view = 0; write = n } ∷ writes ns

-- the list with these writes
abbrev pub list_with : List ℕ → List ListEntry
list_with ns = beginning 0 ∷ writes ns

-- server 2 follows up to these writes, and they are acknowledged; its word is the latest
abbrev pub acknowledging : List ℕ → List JoinedEvent
acknowledging ns =
    OfData (Follows 2 (list_with ns)) ∷ OfData (Tells 2) ∷ OfData (Hears 0) ∷ OfData (Acknowledges (list_with ns)) ∷ []

-- an order makes its way, as the k-th; with what is done with the data until it is committed, and for it
abbrev pub order_way : ℕ → List JoinedEvent → List Event → List JoinedEvent
order_way k work acts =
    OfFleet (SendOrder 0 (stream_id 0 0)) [] ∷ OfFleet (Judge k) []
    ∷ (work ++ OfFleet (Commit k 0) acts ∷ OfFleet (HearServer k) [] ∷ [])

-- The primary executes the write 7, which is acknowledged.
abbrev pub FIRST_WRITE : List JoinedEvent
FIRST_WRITE = OfData (Copies 2) ∷ OfFleet (Serve 0 0 0) (Executes 7 ∷ []) ∷ acknowledging (7 ∷ [])

-- A handover to server 1 begins: server 1 copies the shard, and server 0 makes its cut.
abbrev pub HANDED : List JoinedEvent
HANDED =
    OfFleet (Make (Begin (example_plan 0 0 1 4))) []
    ∷ (order_way 0 (OfData (Copies 1) ∷ []) (Joins 1 ∷ []) ++ order_way 1 [] [])

-- A request is passed on: server 1 takes over, and executes the write 8, which is acknowledged. It becomes primary.
abbrev pub TAKEN_OVER : List JoinedEvent
TAKEN_OVER =
    OfFleet (Serve 0 0 0) [] ∷ OfFleet (Receive 0 0) (Hands 1 ∷ Executes 8 ∷ [])
    ∷ (acknowledging (7 ∷ 8 ∷ []) ++ OfFleet (Seal 0) [] ∷ order_way 2 [] [])

-- The map shows server 1, and server 0 goes by its leave.
abbrev pub OLD_OWNER_GOES : List JoinedEvent
OLD_OWNER_GOES =
    OfFleet (SendPublication 0 (stream_id 0 0)) [] ∷ OfFleet (Publish 0) [] ∷ OfFleet (HearOwner 0) []
    ∷ order_way 3 (OfData (Leave 0) ∷ []) (Goes 0 ∷ [])

-- a whole handover, with a write before it and one behind the cut
abbrev pub HANDOVER : List JoinedEvent
HANDOVER = FIRST_WRITE ++ (HANDED ++ (TAKEN_OVER ++ OLD_OWNER_GOES))

-- Or the primary forgets its slots, asks for them, and is restored.
abbrev pub RESTORED : List JoinedEvent
RESTORED = OfFleet (Forget 0) [] ∷ OfFleet (HearAsk 0) [] ∷ OfFleet (Recover 0 0) [] ∷ []

-- the primary loses its slots behind the write
abbrev pub RESTART : List JoinedEvent
RESTART = FIRST_WRITE ++ RESTORED

-- Servers keep their duties along these events; then this server executes requests, and leads, with all that is
-- acknowledged: these writes.
pub record EndsServed (events : List JoinedEvent) (v : ℕ) (ns : List ℕ) : Type 0 where
  pub opens : (u : ℕ) → IsServing (held_place FIRST.fleet) 0 u → IsLeading FIRST.shard u
  pub kept : KeepDuties 0 FIRST events
  pub executes : (fleet_comes (joined_run events FIRST).fleet (Serve 0 v 0)).0 ≡ Routed 0 v Execute
  pub leading : IsLeading (joined_run events FIRST).shard v
  pub acknowledged : (joined_run events FIRST).shard.acknowledged ≡ list_with ns
  pub copy : (joined_run events FIRST).shard.copies v ≡ Some (list_with ns)

-- What was acknowledged before and behind the cut of a handover is with the new owner.
abbrev pub HandoverKeepsWrites : Type 0
HandoverKeepsWrites = EndsServed HANDOVER 1 (7 ∷ 8 ∷ [])

-- What was acknowledged before a primary lost its slots is there once it is restored.
abbrev pub RestartKeepsWrites : Type 0
RestartKeepsWrites = EndsServed RESTART 0 (7 ∷ [])
