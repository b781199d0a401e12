use Rattle.std.proofs.Common.{◌≡◌, ◌-◌}
use Rattle.std.specs.List.{find, range_with_len}
use Rattle.sm_placement.specs.Opening.{first_below}
use Rattle.sm_reopening.specs.Ongoing.{net_reopening}
use Rattle.sm_reopening.specs.Losses.{tells_whole}
use Rattle.sm_reopening.proofs.ongoing.OngoingReopening.first_told_whole.Given as goal

abbrev pub invariant-loop-number : goal.invariant-loop-number
invariant-loop-number l =
    find (tells_whole l.self l.shard) (range_with_len l.number ((net_reopening l.self).servers - l.number))
    ≡ first_below ((net_reopening l.self).servers) (tells_whole l.self l.shard)
