use Rattle.std.proofs.Common.{◌≡◌, ℕ, ◌≤◌, length, take, drop}
use Rattle.std.specs.Io.KnownBytes.{Appends}
use Rattle.journal_serve.proofs.writing.write_out.Given as goal

abbrev pub invariant-loop : goal.invariant-loop
invariant-loop g l = (m : ℕ) × (m ≤ length l.bytes) × (l.rest ≡ drop m l.bytes) × Appends (g.W.Write.contents l.initial.writer) (g.W.Write.contents l.writer) (take m l.bytes)
