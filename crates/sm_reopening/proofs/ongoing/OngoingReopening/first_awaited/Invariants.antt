use Rattle.std.proofs.Common.{◌≡◌, ◌-◌, length}
use Rattle.std.specs.List.{find, range_with_len}
use Rattle.sm_placement.specs.Opening.{first_below}
use Rattle.sm_reopening.specs.Ongoing.{net_reopening}
use Rattle.sm_reopening.specs.Ongoing.{is_waited_for}
use Rattle.sm_reopening.proofs.ongoing.OngoingReopening.first_awaited.Given as goal

abbrev pub invariant-loop-number : goal.invariant-loop-number
invariant-loop-number l =
    find (is_waited_for l.self) (range_with_len l.number ((net_reopening l.self).servers - l.number)) ≡ first_below ((net_reopening l.self).servers) (is_waited_for l.self)
