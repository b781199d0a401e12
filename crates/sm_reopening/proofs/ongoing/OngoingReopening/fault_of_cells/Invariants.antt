use Rattle.std.proofs.Common.{◌<◌, ℕ}
use Rattle.sm_placement.specs.Layout.{place_of}
use Rattle.sm_reopening.specs.Ongoing.{net_reopening}
use Rattle.sm_reopening.specs.Faults.{IsFairAt}
use Rattle.sm_reopening.proofs.ongoing.OngoingReopening.fault_of_cells.Given as goal

abbrev pub invariant-loop-number : goal.invariant-loop-number
invariant-loop-number l = (k v : ℕ) → k < l.number → v < (net_reopening l.self).servers → IsFairAt l.self (place_of l.settlement) k v
