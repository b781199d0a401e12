use Rattle.std.proofs.Common.{◌≡◌, ◌≤◌, ◌<◌, ℕ, Some}
use Rattle.sm_driver.specs.Permits.{permit_of}
use Rattle.sm_driver.proofs.permits.are_earlier_permits.Given as goal

-- the permits so far are below the base, and no two of them are alike
abbrev pub invariant-loop-server : goal.invariant-loop-server
invariant-loop-server l = record {
  earlier : (v permit : ℕ) → v < l.server → permit_of l.permits v ≡ Some permit → permit ≤ l.base;
  apart : (u v permit : ℕ) → u < l.server → v < l.server → permit_of l.permits u ≡ Some permit → permit_of l.permits v ≡ Some permit → u ≡ v;
}
