use Rattle.std.proofs.Common.{◌≡◌, ℕ, ◌<◌, Some, length, get_or, min}
use Rattle.std.specs.Prelude.{slice_get}
use Rattle.sm_verifier.specs.Order.{code_at}
use Rattle.sm_verifier.proofs.order.stops_of.Given as goal

abbrev pub invariant-loop-stream : goal.invariant-loop-stream
invariant-loop-stream l = record {
  count : length l.stops.items ≡ l.stream;
  each : (i : ℕ) → i < l.stream → slice_get l.stops.items i ≡ Some (min (get_or l.positions i 0) (length (code_at l.plan i)));
}
