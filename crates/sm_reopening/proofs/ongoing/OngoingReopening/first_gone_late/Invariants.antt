use Rattle.std.proofs.Common.{◌≡◌, ◌-◌}
use Rattle.std.specs.List.{find, range_with_len}
use Rattle.sm_placement.specs.Opening.{first_below}
use Rattle.sm_reopening.specs.Ongoing.{net_reopening}
use Rattle.sm_reopening.specs.Losses.{has_gone_late}
use Rattle.sm_reopening.proofs.ongoing.OngoingReopening.first_gone_late.Given as goal

abbrev pub invariant-loop-number : goal.invariant-loop-number
invariant-loop-number l =
    find (has_gone_late l.self l.shard) (range_with_len l.number ((net_reopening l.self).servers - l.number))
    ≡ first_below ((net_reopening l.self).servers) (has_gone_late l.self l.shard)
