use Rattle.std.proofs.Common.{◌≡◌, ◌≤◌, false}
use Rattle.sm_server.specs.Cell.{is_primary}
use Rattle.sm_placement.specs.Sums.{count_below, any_below}
use Rattle.sm_placement.specs.Grid.{cells_of}
use Rattle.sm_placement.specs.Opening.{is_handing}
use Rattle.sm_placement.proofs.faults.has_bad_lead.Given as goal

abbrev pub invariant-loop-number : goal.invariant-loop-number
invariant-loop-number l = record {
  primaries : l.primaries ≡ count_below l.number (λ v. is_primary (cells_of l.table l.shard v));
  few : l.primaries ≤ l.number;
  rests : any_below l.number (λ v. is_handing (cells_of l.table l.shard v)) ≡ false;
}
