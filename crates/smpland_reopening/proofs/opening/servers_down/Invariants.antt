use Rattle.std.proofs.Common.{◌≡◌}
use Rattle.smpland_reopening.specs.Roles.{is_down_in}
use Rattle.smpland_reopening.specs.Settled.{down_among}
use Rattle.smpland_reopening.proofs.opening.servers_down.Given as goal

-- the servers so far are told, and no other
abbrev pub invariant-loop-number : goal.invariant-loop-number
invariant-loop-number l = l.list.items ≡ down_among l.number (is_down_in l.down)
