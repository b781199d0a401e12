use Rattle.std.proofs.Common.{◌≡◌, ◌++◌, string_bytes, drop}
use Rattle.std.specs.List.{flat_map}
use Rattle.sm_refusals.specs.Refusals.{spaced_number}
use Rattle.sm_refusals.proofs.field.push_numbers.Given as goal

-- what is added, and what is left
abbrev pub invariant-loop-number : goal.invariant-loop-number
invariant-loop-number l = string_bytes l.out ++ flat_map spaced_number (drop l.number-index l.numbers) ≡ string_bytes l.fn.out ++ flat_map spaced_number l.numbers
