use Rattle.std.proofs.Common.{◌≡◌}
use Rattle.sm_executor.proofs.board.Board.step_or_wait.Given as goal

-- the runner is as it was, and the link has not been asked
abbrev pub invariant-loop : goal.invariant-loop
invariant-loop g l = (goal.iterator-loop g).can_next l.iterator' × (goal.iterator-loop g).is_finite l.iterator' × (l.runner ≡ l.initial.runner) × (l.link ≡ l.initial.link)
