use Rattle.std.proofs.Common.{◌≡◌, map}
use Rattle.std.specs.Prelude.{◌&&◌}
use Rattle.std.specs.List.{range_with_len}
use Rattle.sm_placement.specs.Layout.{place_of}
use Rattle.sm_driver.specs.Carried.{was_carried}
use Rattle.sm_driver.proofs.carried.CarriedServers.at_opening.Given as goal

-- the servers so far have their marks
abbrev pub invariant-loop-number : goal.invariant-loop-number
invariant-loop-number l = l.kept.items ≡ map (λ v. was_carried l.marks v && (place_of l.placement).down v) (range_with_len 0 l.number)
