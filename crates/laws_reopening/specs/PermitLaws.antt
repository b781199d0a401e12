-- The law of permits over all epochs of the service.
use Rattle.std.specs.Prelude.{◌≤◌, ℕ, ◌+◌, Bool, false, List, [], ◌∷◌}
use Rattle.sm_placement.specs.Sums.{bit}
use Rattle.laws_network.specs.FleetLaws.{ends_restart}
use Rattle.laws_reopening.specs.Service.{AllServiceFit, Goes, Runs, Service, ServiceEvent, service_comes}

-- the event ends a restart by this permit: only a controller that runs plans ends restarts
abbrev pub ends_by : ℕ → Service → ServiceEvent → Bool
ends_by permit (Runs setup f) (Goes e) = ends_restart permit f e
ends_by permit _ _ = false

-- how many restarts end by this permit along a list of events
abbrev pub ended_by : ℕ → List ServiceEvent → Service → ℕ
ended_by permit [] p = 0
ended_by permit (e ∷ es) p = bit (ends_by permit p e) + ended_by permit es (service_comes p e)

-- a permit ends at most one restart, over all epochs and reopenings
abbrev pub PermitEndsOnce : Service → Type 0
PermitEndsOnce p = (es : List ServiceEvent) (permit : ℕ) → AllServiceFit es p → ended_by permit es p ≤ 1
