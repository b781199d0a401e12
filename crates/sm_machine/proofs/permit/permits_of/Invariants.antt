use Rattle.std.proofs.Common.{◌≡◌, ◌≤◌, length}
use Rattle.std.specs.Prelude.{vec_len, vec_capacity}
use Rattle.sm_placement.specs.Layout.{place_of}
use Rattle.sm_machine.specs.Permits.{filter_below}
use Rattle.sm_machine.proofs.permit.permits_of.Given as goal

-- the permits of the servers so far, and places for those of the others
abbrev pub invariant-loop-number : goal.invariant-loop-number
invariant-loop-number l = record {
  permits : l.permits.items ≡ filter_below (place_of l.placement).down l.number;
  few : vec_len l.permits ≤ l.number;
  room : length l.placement.setup.servers ≤ vec_capacity l.permits;
}
