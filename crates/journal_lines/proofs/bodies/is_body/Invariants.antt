use Rattle.std.proofs.Common.{length, ◌≤◌}
use Rattle.journal_lines.specs.Lines.{IsBody}
use Rattle.journal_lines.proofs.bodies.is_body.Given as goal

abbrev pub invariant-objects : goal.invariant-objects
invariant-objects l = record {
  within : length l.rest ≤ length l.fn.bytes;
  back : IsBody l.rest → IsBody l.fn.bytes;
  on : IsBody l.fn.bytes → IsBody l.rest;
}

abbrev pub decreases-objects : goal.decreases-objects
decreases-objects l = length l.rest
