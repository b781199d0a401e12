use Rattle.std.proofs.Common.{◌≡◌, map}
use Rattle.std.specs.Prelude.{if◌then◌else◌}
use Rattle.std.specs.List.{range_with_len}
use Rattle.sm_driver.specs.Copies.{copies_of, is_moving}
use Rattle.sm_driver.proofs.driver.Driver.kept_copies.Given as goal

-- what is kept of the shards so far
abbrev pub invariant-loop-number : goal.invariant-loop-number
invariant-loop-number l = l.kept.items ≡ map (λ s. if is_moving l.self s then 1 else copies_of l.self s) (range_with_len 0 l.number)
