-- The cut by which a new owner goes is the one that the old owner has made, since no handover's number is used again:
-- so it takes over with all.
use Rattle.std.specs.Prelude.{◌≡◌, ◌⊎◌, ℕ, true, false, List, [], ◌∷◌, Some, length}
use Rattle.std.specs.List.{AllByRecursion}
use Rattle.sm_server.specs.declared.call.Call.TheVariants.{Add, PrepareDrop}
use Rattle.sm_server.specs.declared.call.Role.TheVariants as role
use Rattle.sm_server.specs.declared.call.Cell.TheVariants.{Forwarding, Prepared}
use Rattle.sm_placement.specs.Setup.{Setup}
use Rattle.sm_agent.specs.declared.request.Routing.TheVariants.{Execute}
use Rattle.sm_copies.specs.Lists.{ListEntry, begins}
use Rattle.laws_network.specs.Net.{Order}
use Rattle.laws_network.specs.Fleet.{Commit, Committed, Fleet, FleetEvent, Receive, Routed, fleet_comes, fleet_run, has_lost, held_cells}
use Rattle.laws_network.specs.FleetLaws.{AllFleetFit, IsFleetReached}
use Rattle.laws_data.specs.Shard.{Event, Hands, MayHappen}
use Rattle.laws_service_data.specs.Joined.{Joined, JoinedEvent, OfFleet, fleet_events, joined_comes, joined_run}
use Rattle.laws_service_data.specs.Duties.{KeepDuties, KeepsDuties, cell_at}
use Rattle.laws_service_data.specs.Laws.{ForwardsAlong, IsJoinedReached}

-- A server forwards before each of these events.
abbrev pub ForwardsWhile : ℕ → ℕ → Fleet → List FleetEvent → Type 0
ForwardsWhile s u f [] = Unit {0}
ForwardsWhile s u f (e ∷ es) =
    (to number : ℕ) × (held_cells f s u ≡ Forwarding to number) × ForwardsWhile s u (fleet_comes f e).1 es

-- This is the cut of a handover, wherever one is told under its number: by requests that were passed on, and at servers
-- that are prepared in it.
pub record IsCutTold (f : Fleet) (s number cut : ℕ) : Type 0 where
  pub passed : AllByRecursion (λ h. h.shard ≡ s → h.pass.handover ≡ number → h.pass.cut ≡ cut) f.passes
  pub heard : (v from known : ℕ) → has_lost f v ≡ false → ((f.servers v).slots s).cell ≡ Prepared from number
      → ((f.servers v).slots s).cut ≡ Some known → known ≡ cut

-- An old owner makes its cut at the position up to which it has applied the shard's writes. As long as it forwards, no
-- other cut is told under the handover's number.
abbrev pub CutIsToldAsMade : Type 0
CutIsToldAsMade = (setup : Setup) (f : Fleet) (place at to number : ℕ) (o : Order) (es : List FleetEvent) →
    IsFleetReached setup f → (fleet_comes f (Commit place at)).0 ≡ Committed o → o.call.call ≡ PrepareDrop to number
    → AllFleetFit setup (fleet_comes f (Commit place at)).1 es
    → ForwardsWhile o.call.shard o.call.server (fleet_comes f (Commit place at)).1 es
    → IsCutTold (fleet_run es (fleet_comes f (Commit place at)).1) o.call.shard number at

-- A new owner takes over with the shard's writes applied up to a position: it executes a request that was passed on, or
-- commits its order.
abbrev pub TakesOverBy : Fleet → ℕ → ℕ → ℕ → FleetEvent → Type 0
TakesOverBy f s v position e =
    ((place : ℕ) × (e ≡ Receive place position) × ((fleet_comes f e).0 ≡ Routed s v Execute))
    ⊎ ((place : ℕ) × (o : Order) × (e ≡ Commit place position) × ((fleet_comes f e).0 ≡ Committed o)
    × (o.call.shard ≡ s) × (o.call.server ≡ v) × (o.call.call ≡ Add role.Primary))

-- An old owner has just made its cut, at the end of its list.
pub record IsCutMade (setup : Setup) (s u number : ℕ) (list : List ListEntry) (x : Joined) : Type 0 where
  pub before : Joined
  pub reached : IsJoinedReached setup s before
  pub place : ℕ
  pub order : Order
  pub acts : List Event
  pub kept : KeepsDuties s before (OfFleet (Commit place (length list)) acts)
  pub commits : (fleet_comes before.fleet (Commit place (length list))).0 ≡ Committed order
  pub shard : order.call.shard ≡ s
  pub server : order.call.server ≡ u
  pub to : ℕ
  pub call : order.call.call ≡ PrepareDrop to number
  pub is : x ≡ joined_comes before (OfFleet (Commit place (length list)) acts)
  pub copy : x.shard.copies u ≡ Some list

-- As long as the old owner forwards and leads, who takes over in the handover at the end of its copy, which is a
-- beginning of what the old owner has, has all: the rules let it.
abbrev pub TakesOverWithAll : Type 0
TakesOverWithAll = (setup : Setup) (s u v from number position : ℕ) (x : Joined) (js : List JoinedEvent) (e : FleetEvent) →
    (list source copy : List ListEntry) →
    IsCutMade setup s u number list x → AllFleetFit setup x.fleet (fleet_events js) → KeepDuties s x js
    → ForwardsAlong s u x js → cell_at (joined_run js x).fleet s v ≡ Prepared from number
    → TakesOverBy (joined_run js x).fleet s v position e → position ≡ length copy
    → (joined_run js x).shard.copies v ≡ Some copy → (joined_run js x).shard.copies u ≡ Some source
    → begins copy source ≡ true → MayHappen (joined_run js x).shard (Hands v)
