use Rattle.std.proofs.Common.{◌≡◌, map}
use Rattle.std.specs.List.{range_with_len}
use Rattle.smpland_reopening.specs.Confirmed.{is_still_down}
use Rattle.smpland_reopening.proofs.reopening.DocumentReopening.recorded_down.Given as goal

-- the servers so far
abbrev pub invariant-loop-number : goal.invariant-loop-number
invariant-loop-number l = l.down.items ≡ map (is_still_down l.self) (range_with_len 0 l.number)
