use Rattle.std.proofs.Common.{ℕ, ◌<◌}
use Rattle.sm_placement.specs.Setup.{sizes_of}
use Rattle.sm_placement.specs.Layout.{place_of}
use Rattle.sm_reservation.specs.declared.right.Key.{Key}
use Rattle.sm_verifier.specs.Admission.{IsTrueAt}
use Rattle.sm_verifier.proofs.truth.first_untrue.Given as goal

-- what the streams so far declare is true
abbrev pub invariant-loop-stream : goal.invariant-loop-stream
invariant-loop-stream l = (j : ℕ) → j < l.stream-index → (key : Key) → IsTrueAt (sizes_of l.placement.setup) (place_of l.placement) l.streams j key
