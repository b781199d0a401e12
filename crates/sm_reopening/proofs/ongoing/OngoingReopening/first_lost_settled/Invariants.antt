use Rattle.std.proofs.Common.{◌≡◌, ◌-◌}
use Rattle.std.specs.List.{find, range_with_len}
use Rattle.sm_placement.specs.Opening.{first_below}
use Rattle.sm_reopening.specs.Ongoing.{net_reopening}
use Rattle.sm_reopening.specs.Losses.{has_lost_settled}
use Rattle.sm_reopening.proofs.ongoing.OngoingReopening.first_lost_settled.Given as goal

abbrev pub invariant-loop-number : goal.invariant-loop-number
invariant-loop-number l =
    find (has_lost_settled l.self) (range_with_len l.number ((net_reopening l.self).servers - l.number))
    ≡ first_below ((net_reopening l.self).servers) (has_lost_settled l.self)
