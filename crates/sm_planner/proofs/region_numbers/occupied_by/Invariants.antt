use Rattle.std.proofs.Common.{◌≡◌, ◌<◌, ◌≤◌, ℕ, false, length, get_or}
use Rattle.sm_placement.specs.Sums.{count_below}
use Rattle.sm_planner.specs.Regions.{is_occupied}
use Rattle.sm_planner.proofs.Numbering.{lowest}
use Rattle.sm_planner.proofs.region_numbers.occupied_by.Given as goal

-- the regions in which the servers so far lie
abbrev pub invariant-loop-number : goal.invariant-loop-number
invariant-loop-number l = record {
  wide : length l.occupied.marks.items ≡ length l.config.servers;
  marked : (r : ℕ) → r < length l.config.servers → get_or l.occupied.marks.items r false ≡ is_occupied l.regions (λ v. get_or l.has v false) l.number r;
  count : l.occupied.count ≡ count_below l.number (lowest l.config (λ v. get_or l.has v false));
  few : l.occupied.count ≤ l.number;
}
