use Rattle.std.proofs.Common.{◌≡◌, map}
use Rattle.std.specs.List.{range_with_len}
use Rattle.sm_placement.specs.Layout.{place_of}
use Rattle.sm_driver.specs.Permits.{opening_permit}
use Rattle.sm_driver.proofs.permits.Permits.at_opening.Given as goal

-- the servers so far have their permits
abbrev pub invariant-loop-number : goal.invariant-loop-number
invariant-loop-number l = l.given.items ≡ map (opening_permit l.base l.before (place_of l.placement).down) (range_with_len 0 l.number)
