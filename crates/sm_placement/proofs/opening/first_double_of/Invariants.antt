use Rattle.std.proofs.Common.{◌≡◌, ◌-◌, nat_lt}
use Rattle.std.specs.List.{find, range_with_len}
use Rattle.sm_placement.specs.Layout.{grid_of}
use Rattle.sm_placement.specs.Opening.{first_below}
use Rattle.sm_placement.proofs.opening.first_double_of.Given as goal

abbrev pub invariant-loop-server : goal.invariant-loop-server
invariant-loop-server l =
    find (λ v. nat_lt 1 (grid_of l.servers 0 l.counts l.shard v)) (range_with_len l.server (l.servers - l.server)) ≡ first_below l.servers (λ v. nat_lt 1 (grid_of l.servers 0 l.counts l.shard v))
