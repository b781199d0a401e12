use Rattle.std.proofs.Common.{◌≡◌, drop}
use Rattle.sm_placement.specs.Setup.{sizes_of}
use Rattle.sm_placement.specs.Layout.{place_of}
use Rattle.sm_reservation.specs.Pool.{true_rights}
use Rattle.sm_verifier.specs.Finding.{holds_crown, first_crown}
use Rattle.sm_verifier.proofs.truth.untrue_crown.Given as goal

-- the first one is among those still to come
abbrev pub invariant-loop-crown : goal.invariant-loop-crown
invariant-loop-crown l =
    first_crown (holds_crown (true_rights (sizes_of l.placement.setup) (place_of l.placement))) (drop l.crown-index l.crowns)
    ≡ first_crown (holds_crown (true_rights (sizes_of l.placement.setup) (place_of l.placement))) l.crowns
