use Rattle.std.proofs.Common.{◌<◌, ℕ}
use Rattle.sm_placement.specs.Layout.{place_of}
use Rattle.sm_reopening.specs.Faults.{IsFairAt}
use Rattle.sm_reopening.proofs.ongoing.OngoingReopening.fault_of_shard.Given as goal

abbrev pub invariant-loop-number : goal.invariant-loop-number
invariant-loop-number l = (v : ℕ) → v < l.number → IsFairAt l.self (place_of l.settlement) l.shard v
