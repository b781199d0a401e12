use Rattle.std.proofs.Common.{◌≡◌, ◌++◌, drop}
use Rattle.std.specs.List.{flat_map}
use Rattle.smpland_reopening_lines.specs.Proposals.{floor_text}
use Rattle.smpland_reopening_lines.proofs.proposed.write_each_floor.Given as goal

-- what is written, and what is left
abbrev pub invariant-loop-floor : goal.invariant-loop-floor
invariant-loop-floor l =
    l.writer.tokens ++ flat_map (floor_text l.numbering) (drop l.floor-index l.floors)
    ≡ l.fn.writer.tokens ++ flat_map (floor_text l.numbering) l.floors
