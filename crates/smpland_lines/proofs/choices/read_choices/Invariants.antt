use Rattle.std.proofs.Common.{◌≡◌, All, take, true}
use Rattle.json_tree.specs.View.{items_view}
use Rattle.smpland_lines.specs.Choices.{AreChoicesSaid, IsKnownChoice}
use Rattle.smpland_lines.specs.Reading.{is_clean}
use Rattle.smpland_lines.proofs.choices.read_choices.Given as goal

-- the choices so far are known, and without a fault those that the rows so far say
abbrev pub invariant-loop-at : goal.invariant-loop-at
invariant-loop-at l = record {
  known : All (IsKnownChoice l.config) l.choices.items;
  said : is_clean l.faults ≡ true → AreChoicesSaid l.config (items_view (take l.at l.entries)) l.choices.items;
}
