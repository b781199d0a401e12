-- Other numbers of servers and shards. A reopening has numbers for all that it asks; the next controller numbers those
-- of its document, in the document's order.
use Rattle.std.specs.Prelude.{◌≡◌, ◌≢◌, ◌≤◌, ℕ, true, false, Option, Some, None, List, [], length, slice_get}
use Rattle.std.specs.List.{AllByRecursion, range_with_len}
use Rattle.sm_server.specs.declared.call.Cell.TheVariants.{Absent}
use Rattle.sm_agent.specs.Order.{cell_load}
use Rattle.laws_network.specs.Words.{Entry, IsOpening, Setup, Ticket, opened, sizes_of}
use Rattle.laws_network.specs.Net.{Order}
use Rattle.laws_network.specs.World.{Publication}
use Rattle.laws_network.specs.Fleet.{Fleet, has_lost}
use Rattle.laws_network.specs.FleetLaws.{ArePermits, HasAskedUnder, IsFleetOpening}
use Rattle.laws_network.specs.FleetReopening.{IsNoServer, IsOneOf, agent_settled, pass_seen}
use Rattle.laws_network.specs.Reopening.{Server, Settlement, Settling, is_settled_at, settled_base}
use Rattle.laws_network.specs.ReopeningLaws.{AllTook}

-- By its new number, the number that each server and each shard had. Whoever is not among them has no new number.
pub record Renumbering : Type 0 where
  pub servers : List ℕ
  pub shards : List ℕ

-- no number stands at two places
abbrev pub StandsAtOnePlace : List ℕ → Type 0
StandsAtOnePlace numbers = (u v number : ℕ) → slice_get numbers u ≡ Some number → slice_get numbers v ≡ Some number
    → u ≡ v

-- what is known of a shard and a server that had numbers, and otherwise this
abbrev pub at_old_numbers : {A : Type 0} → (ℕ → ℕ → A) → A → Option ℕ → Option ℕ → A
at_old_numbers f none (Some i) (Some j) = f i j
at_old_numbers f none (Some i) None = none
at_old_numbers f none None server = none

-- the same by new numbers
abbrev pub renumbered : {A : Type 0} → Renumbering → (ℕ → ℕ → A) → A → ℕ → ℕ → A
renumbered n f none k v = at_old_numbers f none (slice_get n.shards k) (slice_get n.servers v)

-- a server by its old number is this one by its new number, or there is none
abbrev pub IsSameServer : Renumbering → Option ℕ → Option ℕ → Type 0
IsSameServer n None None = Unit {0}
IsSameServer n (Some old) (Some new) = slice_get n.servers new ≡ Some old
IsSameServer n _ _ = ⊥

-- A settlement in new numbers: a controller may open on it, cells and listed servers are the same, and whoever has
-- something of a shard has a new number, as the shard has.
pub record IsRenumberedAs (n : Renumbering) (old new : Settlement) : Type 0 where
  pub opening : IsOpening new.setup new.place new.room
  pub servers : StandsAtOnePlace n.servers
  pub shards : StandsAtOnePlace n.shards
  pub cells : (k v : ℕ) → new.place.cells k v ≡ renumbered n old.place.cells Absent k v
  pub listed : (k i : ℕ) → slice_get n.shards k ≡ Some i → IsSameServer n (old.place.listed i) (new.place.listed k)
  pub versions : (k i : ℕ) → slice_get n.shards k ≡ Some i → new.place.version k ≡ old.place.version i
  pub all : (i j : ℕ) → old.place.cells i j ≢ Absent
      → (k : ℕ) × (v : ℕ) × (slice_get n.shards k ≡ Some i) × (slice_get n.servers v ≡ Some j)

-- the numbers that a configuration has in its own order: each stays
abbrev pub own_numbers : Setup → Renumbering
own_numbers c = record { servers = range_with_len 0 (length c.servers); shards = range_with_len 0 (length c.shards) }

-- numbers may stay: a settlement on which a controller may open is itself in its own numbers
abbrev pub NumbersMayStay : Type 0
NumbersMayStay = (s : Settlement) → IsOpening s.setup s.place s.room → IsRenumberedAs (own_numbers s.setup) s s

-- ---- what was sent before

-- an order, or its answer: of the same number, to the same server and of the same shard
abbrev pub IsOrderAs : Renumbering → Order → Order → Type 0
IsOrderAs n old new =
    (new.number ≡ old.number) × (slice_get n.shards new.call.shard ≡ Some old.call.shard)
    × (slice_get n.servers new.call.server ≡ Some old.call.server)

-- a request that was passed on: under the same number, to the same server and of the same shard
abbrev pub IsPassAs : Renumbering → Ticket → Ticket → Type 0
IsPassAs n old new = (new.number ≡ old.number) × (slice_get n.shards new.shard ≡ Some old.shard)
    × (slice_get n.servers new.target ≡ Some old.target)

-- a publication, or its answer: of the same version and the same shard
abbrev pub IsPublicationAs : Renumbering → Publication → Publication → Type 0
IsPublicationAs n old new = (new.entry.version ≡ old.entry.version) × (slice_get n.shards new.shard ≡ Some old.shard)

-- an entry of the map: of the same version and the same server
abbrev pub IsEntryAs : Renumbering → Entry → Entry → Type 0
IsEntryAs n old new = (new.version ≡ old.version) × IsSameServer n old.server new.server

-- it was one of these, by old numbers
abbrev pub WasOneOf : {A : Type 0} → (A → A → Type 0) → List A → A → Type 0
WasOneOf {A = A} R olds new = (old : A) × IsOneOf olds old × R old new

-- ---- the fleet

-- The server that now has the number v, and had j, has its slots as it has taken them.
pub record HasSettledAs (x : Settling) (n : Renumbering) (s : Settlement) (f : Fleet) (v j : ℕ) : Type 0 where
  pub taken : x.bases (Server j) ≡ settled_base x.reopening.base
  pub base : (f.servers v).base ≡ agent_settled f.start.journal x.reopening.base
  pub cells : (k : ℕ) → ((f.servers v).slots k).cell ≡ renumbered n x.world.net.cells Absent k v
  pub lasts : (k : ℕ) → ((f.servers v).slots k).last ≡ renumbered n x.world.net.last 0 k v
  pub loads : (k : ℕ) → ((f.servers v).slots k).load
      ≡ cell_load ((f.servers v).slots k).cell ((sizes_of s.setup).load k)

-- The controller opens on this fleet, whose servers and shards have new numbers, over the settlement in these: the
-- number of the reopening is its base, and what was sent before may still come. A server that has not taken its part
-- has lost its slots: it turns Unknown by the next message, and counts with what a restore will bring it.
pub record IsFleetInForceAs (x : Settling) (n : Renumbering) (s : Settlement) (f : Fleet) : Type 0 where
  pub journal : f.journal ≡ []
  pub record_is : f.start.w ≡ opened (sizes_of s.setup) s.place s.room
  pub base : f.start.base ≡ x.reopening.base
  pub fence : f.start.fence ≡ x.reopening.base
  pub restores : f.start.restores ≡ []
  pub permits : ArePermits f.start
  pub known : (v j : ℕ) → slice_get n.servers v ≡ Some j → has_lost f v ≡ false → HasSettledAs x n s f v j
  pub others : (v : ℕ) → slice_get n.servers v ≡ None → IsNoServer x s f v
  pub had : (k v : ℕ) → has_lost f v ≡ true → f.had k v ≡ s.place.cells k v
  pub nonces : (v nonce : ℕ) → (f.servers v).base.nonce ≡ Some nonce → HasAskedUnder f.asks v nonce
  pub owner : f.owner ≡ agent_settled f.start.journal x.reopening.base
  pub shown : (k i : ℕ) → slice_get n.shards k ≡ Some i → IsEntryAs n (x.world.shown i) (f.shown k)
  pub none_shown : (k : ℕ) → slice_get n.shards k ≡ None
      → ((f.shown k).server ≡ s.place.listed k) × ((f.shown k).version ≤ x.reopening.base)
  pub sent : AllByRecursion (λ l. WasOneOf (IsOrderAs n) x.world.net.sent l.order) f.sent
  pub answers : AllByRecursion (WasOneOf (IsOrderAs n) x.world.net.answers) f.answers
  pub passes : AllByRecursion (λ h. WasOneOf (IsPassAs n) x.world.net.passes (pass_seen h)) f.passes
  pub published : AllByRecursion (λ m. WasOneOf (IsPublicationAs n) x.world.published m.publication) f.published
  pub stored : AllByRecursion (WasOneOf (IsPublicationAs n) x.world.stored) f.stored

-- Once a settlement is in force, the fleet opens on it, whatever its numbers: so all laws of the fleet hold from there
-- on.
abbrev pub FleetOpensAs : Settling → Type 0
FleetOpensAs x = (s new : Settlement) (n : Renumbering) (f : Fleet) → x.reopening.settlement ≡ Some s
    → AllTook x.reopening →
    IsRenumberedAs n s new → IsFleetInForceAs x n new f → IsFleetOpening new.setup f

-- There is such a fleet, without permits, in which each server that has taken its part has its slots.
abbrev pub FleetIsThereAs : Settling → Type 0
FleetIsThereAs x = (s new : Settlement) (n : Renumbering) → x.reopening.settlement ≡ Some s → AllTook x.reopening
    → IsRenumberedAs n s new →
    (f : Fleet) × IsFleetInForceAs x n new f × ((v : ℕ) → f.start.permits v ≡ None)
    × ((v j : ℕ) → slice_get n.servers v ≡ Some j → is_settled_at x.reopening.base (x.bases (Server j)) ≡ true
    → has_lost f v ≡ false)
