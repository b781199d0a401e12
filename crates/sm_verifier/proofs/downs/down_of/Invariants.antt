use Rattle.std.proofs.Common.{◌≡◌, drop, None}
use Rattle.sm_placement.specs.Layout.{place_of}
use Rattle.sm_verifier.specs.Downs.{down_in_streams}
use Rattle.sm_verifier.proofs.downs.down_of.Given as goal

-- the streams still to come lead to what all streams lead to
abbrev pub invariant-loop-stream : goal.invariant-loop-stream
invariant-loop-stream l = down_in_streams (place_of l.placement).down l.lowest (drop l.stream-index l.streams) ≡ down_in_streams (place_of l.placement).down None l.streams
