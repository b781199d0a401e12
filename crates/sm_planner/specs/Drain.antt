-- To which servers the replicas of a server go that is to be emptied.
-- `AreStaying`, `IsMost`, `IsBestOf` and `IsRoomBeside` are internal: you need not read them for the public contracts.
use Rattle.std.specs.Prelude.{◌≡◌, ◌<◌, ◌≤◌, ◌⊎◌, ℕ, zero, suc, ◌-◌, ◌&&◌, ◌||◌, ◌==◌, not, nat_le, Bool, true, false}
use Rattle.std.specs.Prelude.{Option, Some, None, option_map, MatchOption, length, slice_index, slice_index_or, List}
use Rattle.std.specs.Prelude.{[], ◌∷◌, ◌++◌, sum_by, if◌then◌else◌}
use Rattle.std.specs.Option.{option_or}
use Rattle.sm_server.specs.Cell.{is_absent, is_primary, is_secondary}
use Rattle.sm_placement.specs.Opening.{first_below}
use Rattle.sm_placement.specs.Place.{Place}
use Rattle.sm_placement.specs.Setup.{Setup, sizes_of}
use Rattle.sm_reservation.specs.declared.right.PlainCell.TheVariants.{Absent, Secondary}
use Rattle.sm_reservation.specs.Amounts.{is_cell}
use Rattle.sm_planner.specs.declared.refusal.NoPlan.{NoPlan}
use Rattle.sm_planner.specs.declared.refusal.NoPlan.TheVariants.{NoMemory, Held, ServerDown, NoPlace}
use Rattle.sm_planner.specs.Basis.{Basis, is_replica}
use Rattle.sm_planner.specs.Rights.{has_crown_at}
use Rattle.sm_planner.specs.Placing.{taken_by}
use Rattle.sm_planner.specs.Spread.{region_count, spread_of}
use Rattle.sm_planner.specs.Refusal.{IsPlanOf}
use Rattle.sm_plan_code.specs.Plan.{PlanModel}
use Rattle.sm_plan_code.specs.declared.moves.Move.{Move}

-- the server has nothing of the shard, or a replica that may leave it: a primary with its crown in the pool, or a
-- secondary with the right to its cell there
abbrev pub may_leave : Basis → ℕ → ℕ → Bool
may_leave b v s =
    is_absent (b.place.cells s v)
    || ((is_primary (b.place.cells s v) && has_crown_at b s v)
    || (is_secondary (b.place.cells s v) && is_cell Secondary (b.pool.cells s v)))

-- the lowest shard that may not leave the server
abbrev pub first_stuck : Basis → ℕ → Option ℕ
first_stuck b v = first_below (sizes_of b.setup).shards (λ s. not (may_leave b v s))

-- why a server is not emptied, before targets are looked for
abbrev pub drain_refusal : Basis → ℕ → Option NoPlan
drain_refusal b v =
    option_or (option_map (λ s. Held s v) (first_stuck b v)) (if b.place.down v then Some (ServerDown v) else None)

-- the room of a server that is left once these moves go where they go; what they free is not counted
abbrev pub room_beside : Basis → List Move → ℕ → ℕ
room_beside b moves u = b.pool.room u - sum_by (taken_by b.setup u) moves

-- the servers that are marked are those whose replica of the shard stays when v is left
pub record AreStaying (setup : Setup) (p : Place) (s v : ℕ) (marks : List Bool) : Type 0 where
  pub wide : length marks ≡ length setup.servers
  pub marked : (w : ℕ) → w < length setup.servers
      → slice_index_or marks w false ≡ (is_replica (p.cells s w) && not (w == v))

-- A server that a shard may go to from v, with the room that is left of each: another one, up, with nothing of the
-- shard and the right to its cell in the pool, with room for the load, and in whose place the replicas lie in enough
-- regions.
abbrev pub has_place : Basis → ℕ → (ℕ → ℕ) → ℕ → ℕ → Bool
has_place b v room s u =
    not (u == v)
    && (not (b.place.down u)
    && (is_absent (b.place.cells s u)
    && (is_cell Absent (b.pool.cells s u)
    && (nat_le ((sizes_of b.setup).load s) (room u)
    && nat_le (spread_of b.setup s) (region_count b.setup (λ w. (w == u) || (is_replica (b.place.cells s w) && not (w == v))))))))

-- so it is besides these moves
abbrev pub may_take : Basis → ℕ → List Move → ℕ → ℕ → Bool
may_take b v moves s u = has_place b v (room_beside b moves) s u

-- of the first n servers that pass, one with the most room, of equals the lowest
pub record IsMost (has : ℕ → Bool) (room : ℕ → ℕ) (n u : ℕ) : Type 0 where
  pub known : u < n
  pub passes : has u ≡ true
  pub most : (w : ℕ) → w < n → has w ≡ true → (room w < room u) ⊎ ((room w ≡ room u) × (u ≤ w))

-- it, or None if none of them passes
abbrev pub IsBestOf : (ℕ → Bool) → (ℕ → ℕ) → ℕ → Option ℕ → Type 0
IsBestOf has room n o = MatchOption o ((w : ℕ) → w < n → has w ≡ false) (IsMost has room n)

-- the room of each server that is left besides these moves
pub record IsRoomBeside (b : Basis) (moves : List Move) (room : List ℕ) : Type 0 where
  pub wide : length room ≡ length b.setup.servers
  pub left : (w : ℕ) → w < length b.setup.servers → slice_index room w ≡ room_beside b moves w

-- the target of a shard: of the servers that may take it the one with the most room left, of equals the lowest
pub record IsTarget (b : Basis) (v : ℕ) (moves : List Move) (s u : ℕ) : Type 0 where
  pub known : u < (sizes_of b.setup).servers
  pub takes : may_take b v moves s u ≡ true
  pub most : (w : ℕ) → w < (sizes_of b.setup).servers → may_take b v moves s w ≡ true →
      (room_beside b moves w < room_beside b moves u) ⊎ ((room_beside b moves w ≡ room_beside b moves u) × (u ≤ w))

-- the move of a shard from v to u
abbrev pub leaving : ℕ → ℕ → ℕ → Move
leaving v s u = record { shard = s; from = v; to = u }

-- the moves of the first n shards: each replica at v goes to its target besides the moves of the shards before it
abbrev pub AreLeaving : Basis → ℕ → ℕ → List Move → Type 0
AreLeaving b v zero moves = moves ≡ []
AreLeaving b v (suc s) moves =
    (is_absent (b.place.cells s v) ≡ true → AreLeaving b v s moves)
    × (is_absent (b.place.cells s v) ≡ false →
    (earlier : List Move) × (u : ℕ) × AreLeaving b v s earlier × IsTarget b v earlier s u
    × (moves ≡ earlier ++ leaving v s u ∷ []))

-- no server may take the shard
abbrev pub HasNoPlace : Basis → ℕ → List Move → ℕ → Type 0
HasNoPlace b v moves s = (u : ℕ) → u < (sizes_of b.setup).servers → may_take b v moves s u ≡ false

-- the shard is the first that has to leave the server and has no target
pub record IsStuck (b : Basis) (v s : ℕ) (moves : List Move) : Type 0 where
  pub known : s < (sizes_of b.setup).shards
  pub before : AreLeaving b v s moves
  pub stands : is_absent (b.place.cells s v) ≡ false
  pub placeless : HasNoPlace b v moves s

-- the moves that empty the server
abbrev pub AreDepartures : Basis → ℕ → List Move → Type 0
AreDepartures b v moves = (drain_refusal b v ≡ None) × AreLeaving b v (sizes_of b.setup).shards moves

-- the plan is the rule's for emptying the server
abbrev pub IsDrainPlan : Basis → ℕ → PlanModel → Type 0
IsDrainPlan b v plan = (moves : List Move) × AreDepartures b v moves × IsPlanOf b moves plan

-- Why the rule doesn't empty a server: for the server's own reason, or if it has none, for the first shard that has no
-- target. If the setup is a configuration there is no other reason, since of the moves to the targets the rule then
-- refuses none (`DrainsHavePlans`).
abbrev pub IsDrainRefused : Basis → ℕ → NoPlan → Type 0
IsDrainRefused b v why =
    (drain_refusal b v ≡ Some why)
    ⊎ ((s : ℕ) × (moves : List Move) × (drain_refusal b v ≡ None) × IsStuck b v s moves × (why ≡ NoPlace s))

-- memory was short, or the rule doesn't empty the server for this reason
abbrev pub IsNoDrainFor : Basis → ℕ → NoPlan → Type 0
IsNoDrainFor b v why = (why ≡ NoMemory) ⊎ IsDrainRefused b v why
