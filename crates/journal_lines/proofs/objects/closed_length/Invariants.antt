use Rattle.std.proofs.Common.{◌≡◌, ◌≤◌, ◌+◌, option_map, drop}
use Rattle.journal_lines.specs.Objects.{closed_length}
use Rattle.journal_lines.specs.declared.objects.Quoting.TheVariants.{Outside}
use Rattle.journal_lines.proofs.objects.closed_length.Given as goal

abbrev pub invariant-loop-i : goal.invariant-loop-i
invariant-loop-i l = (l.depth ≤ l.i + 1) × (option_map (λ n. l.i + n) (closed_length l.quoting l.depth (drop l.i l.bytes)) ≡ closed_length Outside 1 l.bytes)
