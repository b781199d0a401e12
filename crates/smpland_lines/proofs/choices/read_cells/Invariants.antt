use Rattle.std.proofs.Common.{◌≡◌, All, take, true}
use Rattle.json_tree.specs.View.{items_view}
use Rattle.smpland_lines.specs.Choices.{AreCellsSaid, HasKnownServer}
use Rattle.smpland_lines.specs.Reading.{is_clean}
use Rattle.smpland_lines.proofs.choices.read_cells.Given as goal

-- the replicas so far are of known servers, and without a fault those that the rows so far say
abbrev pub invariant-loop-at : goal.invariant-loop-at
invariant-loop-at l = record {
  known : All (HasKnownServer l.config) l.cells.items;
  kept : is_clean l.faults ≡ true → is_clean l.initial.faults ≡ true;
  said : is_clean l.faults ≡ true → AreCellsSaid l.config (items_view (take l.at l.entries)) l.cells.items;
}
