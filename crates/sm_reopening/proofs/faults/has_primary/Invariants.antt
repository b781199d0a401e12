use Rattle.std.proofs.Common.{◌≢◌, ◌<◌, ℕ}
use Rattle.sm_server.specs.declared.call.Cell.TheVariants.{Primary}
use Rattle.sm_placement.specs.Layout.{place_of}
use Rattle.sm_reopening.proofs.faults.has_primary.Given as goal

abbrev pub invariant-loop-number : goal.invariant-loop-number
invariant-loop-number l = (k : ℕ) → k < l.number → (place_of l.placement).cells l.shard k ≢ Primary
