use Rattle.std.proofs.Common.{◌≡◌, ◌-◌, length}
use Rattle.std.specs.List.{find, range_with_len}
use Rattle.sm_placement.specs.Opening.{first_below}
use Rattle.sm_placement.specs.Layout.{place_of}
use Rattle.sm_reopening.specs.Faults.{is_carried_up}
use Rattle.sm_reopening.proofs.ongoing.OngoingReopening.first_carried_up.Given as goal

abbrev pub invariant-loop-number : goal.invariant-loop-number
invariant-loop-number l =
    find (is_carried_up l.self (place_of l.settlement)) (range_with_len l.number (length l.settlement.setup.servers - l.number)) ≡ first_below (length l.settlement.setup.servers) (is_carried_up l.self (place_of l.settlement))
