use Rattle.std.proofs.Common.{◌≡◌, None, replicate}
use Rattle.sm_driver.proofs.restores.Restores.none.Given as goal

-- no server so far was told anything
abbrev pub invariant-loop : goal.invariant-loop
invariant-loop l = l.told.items ≡ replicate l.counter None
