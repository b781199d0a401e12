use Rattle.std.proofs.Common.{ℕ, ◌<◌, length, get_or}
use Rattle.sm_verifier.specs.Order.{code_at}
use Rattle.sm_verifier.proofs.order.have_ended.Given as goal

abbrev pub invariant-loop-stream : goal.invariant-loop-stream
invariant-loop-stream l = (i : ℕ) → i < l.stream → length (code_at l.plan i) < get_or l.positions i 0
