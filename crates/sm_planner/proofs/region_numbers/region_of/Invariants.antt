use Rattle.std.proofs.Common.{◌≡◌, ◌<◌, ℕ, false}
use Rattle.sm_planner.specs.Spread.{same_region}
use Rattle.sm_planner.proofs.region_numbers.region_of.Given as goal

-- the lower ones stand in other regions
abbrev pub invariant-loop-number : goal.invariant-loop-number
invariant-loop-number l = (u : ℕ) → u < l.number → same_region l.config u l.server ≡ false
