use Rattle.std.proofs.Common.{◌≡◌}
use Rattle.std.specs.List.{filter, range_with_len}
use Rattle.smpland_state.specs.Audit.{differs}
use Rattle.smpland_state.proofs.audit.Audit.differing.Given as goal

-- those of the shards so far
abbrev pub invariant-loop-number : goal.invariant-loop-number
invariant-loop-number l =
    l.shards.items
    ≡ filter (differs l.self.opened.now l.self.server l.self.place l.self.told.items l.self.streams.items) (range_with_len 0 l.number)
