use Rattle.std.proofs.Common.{◌≡◌}
use Rattle.std.specs.List.{filter, range_with_len}
use Rattle.smpland_reopening.specs.Proposed.{is_silent}
use Rattle.smpland_reopening.proofs.reopening.DocumentReopening.silent_servers.Given as goal

-- the servers so far
abbrev pub invariant-loop-number : goal.invariant-loop-number
invariant-loop-number l = l.servers.items ≡ filter (is_silent l.self) (range_with_len 0 l.number)
