-- The duties of servers: what they do with a shard's data for an order, for a request, and by themselves.
use Rattle.std.specs.Prelude.{◌≡◌, ◌⊎◌, ◌==◌, ◌++◌, ℕ, Bool, true, false, List, [], ◌∷◌, is_some}
use Rattle.sm_server.specs.declared.call.Cell.{Cell}
use Rattle.sm_server.specs.declared.call.Cell.TheVariants.{Prepared, Primary}
use Rattle.sm_server.specs.declared.call.Role.TheVariants as role
use Rattle.sm_server.specs.declared.call.Call.{Call}
use Rattle.sm_server.specs.declared.call.Call.TheVariants.{Add, Change, Drop, PrepareAdd, PrepareDrop}
use Rattle.sm_agent.specs.declared.request.Routing.TheVariants.{Execute}
use Rattle.laws_network.specs.Fleet.{Committed, Fleet, FleetEvent, FleetOutcome, Routed, fleet_comes}
use Rattle.laws_data.specs.Shard.{Changes, Chooses, Ends, Event, Executes, Goes, Hands, HasPrimary, Joins, MayHappen, MayHappenInTurn, Releases, Removes, Restarts, Shard, Succeeds, all_left}
use Rattle.laws_service_data.specs.Joined.{Joined, JoinedEvent, OfData, OfFleet, joined_comes}

-- Whether servers do something only for an order or a request, or in a reopening. By themselves they copy, follow,
-- tell, acknowledge, give leave, and lose what they have.
abbrev pub has_cause : Event → Bool
has_cause (Executes write) = true
has_cause (Joins s) = true
has_cause (Goes s) = true
has_cause (Hands s) = true
has_cause (Changes s view answered) = true
has_cause (Succeeds s view former) = true
has_cause (Ends number) = true
has_cause (Restarts view) = true
has_cause (Removes gone needed) = true
has_cause (Chooses choice) = true
has_cause _ = false

-- A server leads: it is the primary of the data.
abbrev pub IsLeading : Shard → ℕ → Type 0
IsLeading w v = (w.primary ≡ v) × HasPrimary w

-- The new owner of a handover takes over from the old one, which has handed it all; or it leads already.
abbrev pub TakesOver : Shard → ℕ → List Event → Type 0
TakesOver w v acts = (acts ≡ Hands v ∷ []) ⊎ ((acts ≡ []) × IsLeading w v)

-- A replica becomes primary by the greatest of the copies that were told, or by the former primary's.
abbrev pub BecomesPrimary : ℕ → ℕ → List Event → Type 0
BecomesPrimary v number acts =
    ((answered : ℕ → Bool) × (acts ≡ Changes v number answered ∷ []))
    ⊎ ((former : ℕ) × (acts ≡ Succeeds v number former ∷ []))

-- A primary that is dropped ends its view, and goes by leave of others that have no less.
abbrev pub GoesAsPrimary : ℕ → ℕ → List Event → Type 0
GoesAsPrimary v number acts = (others : ℕ → Bool) × (acts ≡ Ends number ∷ Releases v others ∷ Goes v ∷ [])

-- For an order: what a server has done with the data when it commits the order's call, with this number. From its cut
-- on an old owner does nothing. An empty primary, where nobody else has anything, begins another list than this one.
abbrev pub ForOrder : Shard → ℕ → ℕ → Call → Cell → List Event → Type 0
ForOrder w v number (PrepareAdd owner handover) cell acts = acts ≡ Joins v ∷ []
ForOrder w v number (PrepareDrop new_owner handover) cell acts = acts ≡ []
ForOrder w v number (Add role.Primary) (Prepared from handover) acts = TakesOver w v acts
ForOrder w v number (Add role.Primary) cell acts = ⊥
ForOrder w v number (Add role.Secondary) cell acts = acts ≡ Joins v ∷ []
ForOrder w v number (Change from role.Primary) cell acts = BecomesPrimary v number acts
ForOrder w v number (Change from role.Secondary) cell acts = acts ≡ Ends number ∷ []
ForOrder w v number Drop Primary acts = GoesAsPrimary v number acts
ForOrder w v number Drop cell acts = acts ≡ Goes v ∷ []

-- A server executes a write; or it reads, or repeats a reply.
abbrev pub IsExecuted : List Event → Type 0
IsExecuted acts = ((write : ℕ) × (acts ≡ Executes write ∷ [])) ⊎ (acts ≡ [])

-- For a request that is to be executed: what a server does by its cell. A prepared one takes over first.
abbrev pub ForRequest : Shard → ℕ → Cell → List Event → Type 0
ForRequest w v (Prepared from handover) acts =
    (first rest : List Event) × TakesOver w v first × IsExecuted rest × (acts ≡ first ++ rest)
ForRequest w v cell acts = IsExecuted acts

-- A server has a whole copy.
abbrev pub HasCopy : Shard → ℕ → Type 0
HasCopy w v = is_some (w.copies v) ≡ true

-- For an order or a request of another shard nothing is done with these data.
abbrev pub ForShard : Bool → Type 0 → List Event → Type 0
ForShard true duty acts = duty
ForShard false duty acts = acts ≡ []

-- what a server has of a shard
abbrev pub cell_at : Fleet → ℕ → ℕ → Cell
cell_at f s v = ((f.servers v).slots s).cell

-- What is done with the data of a shard is what the outcome of an event of the fleet asks for. Who executes a request
-- has a whole copy: no server serves a shard whose data it has lost.
abbrev pub IsAskedFor : ℕ → Joined → List Event → FleetOutcome → Type 0
IsAskedFor s x acts (Committed o) =
    ForShard (o.call.shard == s)
    (ForOrder x.shard o.call.server o.number o.call.call (cell_at x.fleet s o.call.server) acts) acts
IsAskedFor s x acts (Routed r v Execute) =
    ForShard (r == s) (ForRequest x.shard v (cell_at x.fleet s v) acts × HasCopy (all_left acts x.shard) v) acts
IsAskedFor s x acts outcome = acts ≡ []

-- The data of a shard follow an event of the fleet.
abbrev pub DataFollow : ℕ → Joined → FleetEvent → List Event → Type 0
DataFollow s x e acts = IsAskedFor s x acts (fleet_comes x.fleet e).0

-- Servers keep their duties, and the rules of data.
abbrev pub KeepsDuties : ℕ → Joined → JoinedEvent → Type 0
KeepsDuties s x (OfFleet e acts) = DataFollow s x e acts × MayHappenInTurn x.shard acts
KeepsDuties s x (OfData event) = (has_cause event ≡ false) × MayHappen x.shard event

-- so they do at each event when it comes
abbrev pub KeepDuties : ℕ → Joined → List JoinedEvent → Type 0
KeepDuties s x [] = Unit {0}
KeepDuties s x (j ∷ js) = KeepsDuties s x j × KeepDuties s (joined_comes x j) js
