use Rattle.std.proofs.Common.{◌≡◌, ◌<◌, ℕ, Some}
use Rattle.sm_driver.specs.Permits.{permit_of}
use Rattle.sm_driver.proofs.permits.is_given.Given as goal

-- no server so far has the permit
abbrev pub invariant-loop-server : goal.invariant-loop-server
invariant-loop-server l = (v : ℕ) → v < l.server → permit_of l.permits v ≡ Some l.permit → ⊥
