use Rattle.std.proofs.Common.{◌≡◌, ◌-◌, length}
use Rattle.std.specs.List.{find, range_with_len}
use Rattle.sm_placement.specs.Opening.{first_below}
use Rattle.sm_reopening.specs.Ongoing.{net_reopening}
use Rattle.laws_network.specs.Reopening.{Server}
use Rattle.sm_reopening.specs.Settles.{is_unsettled}
use Rattle.sm_reopening.proofs.ongoing.OngoingReopening.first_unsettled.Given as goal

abbrev pub invariant-loop-number : goal.invariant-loop-number
invariant-loop-number l =
    find (λ v. is_unsettled (net_reopening l.self) (Server v)) (range_with_len l.number ((net_reopening l.self).servers - l.number)) ≡ first_below ((net_reopening l.self).servers) (λ v. is_unsettled (net_reopening l.self) (Server v))
