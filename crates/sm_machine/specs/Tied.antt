-- A machine's pool, its streams' grants and its parcels under way, at a state of the protocol.
-- Internal definitions: you need not read them for the public contracts.
use Rattle.std.specs.Prelude.{◌≡◌, ◌<◌, ℕ, zero, suc, Bool, true, List, length, not, if◌then◌else◌}
use Rattle.sm_placement.specs.Sums.{count_below}
use Rattle.sm_reservation.specs.declared.stream_id.StreamId.{StreamId}
use Rattle.sm_reservation.specs.Hold.{Hold, no_hold, minus, pay_spare, get_spare}
use Rattle.sm_reservation.specs.HoldOf.{hold_of}
use Rattle.sm_plan_code.specs.Plan.{StreamModel}
use Rattle.sm_verifier.specs.FirstHolding.{declared_rights}
use Rattle.sm_protocol.specs.State.{State, stream_count, is_running, signal_count, hold_of_stream, parcel_at}
use Rattle.sm_protocol.specs.State.{is_under_way, free_places}
use Rattle.sm_protocol.specs.Happens.{running_plans}
use Rattle.sm_protocol.specs.State as state

-- what stands for a signal's parcel: it while it is under way, and nothing else
abbrev pub carried : State → ℕ → ℕ → Hold
carried w k q = if is_under_way (w.marks k q) then hold_of (parcel_at w k q) else no_hold

-- The pool is the state's. The grant of each stream that was begun and has not finished is what the stream holds, by
-- the plan's number and by the stream's; and by the plan's number and by the signal's, each parcel is what is under
-- way.
pub record IsTied (w : State) (free : Hold) (granted : ℕ → ℕ → Hold) (sent : ℕ → ℕ → Hold) : Type 0 where
  pub pool : free ≡ state.pool w
  pub grants : (id : StreamId) → is_running w id ≡ true → granted id.plan id.stream ≡ hold_of_stream w id.plan id.stream
  pub parcels : (k q : ℕ) → k < length w.plans → q < signal_count w k → sent k q ≡ carried w k q

-- ---- what starts of plans and restarts do to a pool

-- a pool from which what the first n streams declare has been taken
abbrev pub pool_left : Hold → List StreamModel → ℕ → Hold
pool_left h streams zero = h
pool_left h streams (suc n) = minus (pool_left h streams n) (declared_rights streams n)

-- a pool from which a spare replica of each of the first n shards that are live has been taken
abbrev pub pay_live : Hold → (ℕ → Bool) → ℕ → Hold
pay_live h live zero = h
pay_live h live (suc n) = if live n then pay_spare (pay_live h live n) n 1 else pay_live h live n

-- a pool to which a spare replica of each of the first n shards that are live has been given
abbrev pub get_live : Hold → (ℕ → Bool) → ℕ → Hold
get_live h live zero = h
get_live h live (suc n) = if live n then get_spare (get_live h live n) n 1 else get_live h live n

-- ---- what is counted

-- how many streams of a plan have not finished
abbrev pub unfinished_count : State → ℕ → ℕ
unfinished_count w k = count_below (stream_count w k) (λ i. not (w.progress k i).done)

-- as many streams of each plan, and as many plans, are unfinished, and as many places of the log free, as are counted
pub record HasCounters (w : State) (unfinished : ℕ → ℕ) (running free : ℕ) : Type 0 where
  pub streams : (k : ℕ) → k < length w.plans → unfinished k ≡ unfinished_count w k
  pub plans : running ≡ running_plans w
  pub places : free ≡ free_places w
