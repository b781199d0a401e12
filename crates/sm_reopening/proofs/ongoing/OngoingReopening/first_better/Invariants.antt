use Rattle.std.proofs.Common.{◌≡◌, ◌-◌}
use Rattle.std.specs.List.{find, range_with_len}
use Rattle.sm_placement.specs.Opening.{first_below}
use Rattle.sm_reopening.specs.Ongoing.{net_reopening}
use Rattle.sm_reopening.specs.Survivors.{standing_of, stands_above}
use Rattle.sm_reopening.proofs.ongoing.OngoingReopening.first_better.Given as goal

abbrev pub invariant-loop-number : goal.invariant-loop-number
invariant-loop-number l =
    find (λ u. stands_above (standing_of l.self l.shard u) (standing_of l.self l.shard l.fn.server)) (range_with_len l.number ((net_reopening l.self).servers - l.number)) ≡ first_below ((net_reopening l.self).servers) (λ u. stands_above (standing_of l.self l.shard u) (standing_of l.self l.shard l.fn.server))
