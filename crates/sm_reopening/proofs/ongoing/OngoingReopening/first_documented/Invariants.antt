use Rattle.std.proofs.Common.{◌≡◌, ◌-◌}
use Rattle.std.specs.List.{find, range_with_len}
use Rattle.sm_placement.specs.Opening.{first_below}
use Rattle.sm_reopening.specs.Ongoing.{net_reopening}
use Rattle.std.specs.Prelude.{None}
use Rattle.sm_placement.specs.Layout.{grid_of}
use Rattle.sm_reopening.specs.Proposal.{is_primary_role}
use Rattle.sm_reopening.proofs.ongoing.OngoingReopening.first_documented.Given as goal

abbrev pub invariant-loop-number : goal.invariant-loop-number
invariant-loop-number l =
    find (λ v. is_primary_role (grid_of (net_reopening l.self).servers None l.documented l.shard v)) (range_with_len l.number ((net_reopening l.self).servers - l.number))
    ≡ first_below ((net_reopening l.self).servers) (λ v. is_primary_role (grid_of (net_reopening l.self).servers None l.documented l.shard v))
