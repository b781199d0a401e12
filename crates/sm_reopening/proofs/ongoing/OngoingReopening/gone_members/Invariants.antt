use Rattle.std.proofs.Common.{◌≡◌, ◌≤◌}
use Rattle.sm_placement.specs.Sums.{count_below}
use Rattle.sm_reopening.specs.Losses.{is_gone_member}
use Rattle.sm_reopening.proofs.ongoing.OngoingReopening.gone_members.Given as goal

-- those so far are counted, and no more than were looked at
abbrev pub invariant-loop-number : goal.invariant-loop-number
invariant-loop-number l = record {
  few : l.gone ≤ l.number;
  gone : l.gone ≡ count_below l.number (is_gone_member l.self l.shard);
}
