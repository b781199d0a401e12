use Rattle.std.proofs.Common.{◌≡◌, ◌<◌, ℕ, length, get_or}
use Rattle.sm_planner.specs.Regions.{IsRegionOf}
use Rattle.sm_planner.proofs.region_numbers.regions_of.Given as goal

abbrev pub invariant-loop-number : goal.invariant-loop-number
invariant-loop-number l = record {
  wide : length l.regions.items ≡ l.number;
  each : (v : ℕ) → v < l.number → IsRegionOf l.config v (get_or l.regions.items v 0);
}
