use Rattle.std.proofs.Common.{◌≡◌, ◌-◌}
use Rattle.std.specs.List.{find, range_with_len}
use Rattle.sm_placement.specs.Opening.{first_below}
use Rattle.sm_reopening.specs.Ongoing.{net_reopening}
use Rattle.std.specs.Prelude.{None}
use Rattle.sm_placement.specs.Layout.{grid_of}
use Rattle.sm_reopening.specs.Losses.{had_something}
use Rattle.sm_reopening.proofs.ongoing.OngoingReopening.first_with_something.Given as goal

abbrev pub invariant-loop-number : goal.invariant-loop-number
invariant-loop-number l =
    find (had_something l.self (grid_of (net_reopening l.self).servers None l.documented) l.shard) (range_with_len l.number ((net_reopening l.self).servers - l.number)) ≡ first_below ((net_reopening l.self).servers) (had_something l.self (grid_of (net_reopening l.self).servers None l.documented) l.shard)
