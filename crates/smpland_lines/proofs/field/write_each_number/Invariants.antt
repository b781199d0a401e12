use Rattle.std.proofs.Common.{◌≡◌, ◌++◌, drop}
use Rattle.std.specs.List.{flat_map}
use Rattle.smpland_lines.specs.Refusals.{number_item}
use Rattle.smpland_lines.proofs.field.write_each_number.Given as goal

-- what is written, and what is left
abbrev pub invariant-loop-number : goal.invariant-loop-number
invariant-loop-number l = l.writer.tokens ++ flat_map number_item (drop l.number-index l.numbers) ≡ l.fn.writer.tokens ++ flat_map number_item l.numbers
