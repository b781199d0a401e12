use Rattle.std.proofs.Common.{◌≡◌, ◌-◌, length}
use Rattle.std.specs.List.{find, range_with_len}
use Rattle.sm_placement.specs.Rows.{serves}
use Rattle.sm_placement.specs.Layout.{place_of}
use Rattle.sm_placement.specs.Opening.{first_below}
use Rattle.sm_placement.proofs.placement.Placement.first_serving.Given as goal

abbrev pub invariant-loop-number : goal.invariant-loop-number
invariant-loop-number l =
    find (serves ((place_of l.self).cells l.shard)) (range_with_len l.number (length l.self.setup.servers - l.number)) ≡ first_below (length l.self.setup.servers) (serves ((place_of l.self).cells l.shard))
