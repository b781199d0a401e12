use Rattle.std.proofs.Common.{◌≡◌, ◌<◌, ℕ, false}
use Rattle.sm_placement.specs.Opening.{is_handing}
use Rattle.sm_driver.specs.Driver.{record_of}
use Rattle.sm_driver.proofs.driver.Driver.is_handed_over.Given as goal

-- no server so far has a part in a handover
abbrev pub invariant-loop-number : goal.invariant-loop-number
invariant-loop-number l = (v : ℕ) → v < l.number → is_handing ((record_of l.self).place.cells l.shard v) ≡ false
