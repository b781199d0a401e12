use Rattle.std.proofs.Common.{◌≡◌, ◌==◌, filter}
use Rattle.std.specs.List.{range_with_len}
use Rattle.sm_planner.specs.Payment.{stream_of}
use Rattle.sm_planner.proofs.writing.moves_of.Given as goal

abbrev pub invariant-loop-k : goal.invariant-loop-k
invariant-loop-k l = l.numbers.items ≡ filter (λ k. stream_of k == l.stream) (range_with_len 0 l.k)
