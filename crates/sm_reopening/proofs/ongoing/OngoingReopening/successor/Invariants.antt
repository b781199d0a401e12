use Rattle.sm_reopening.proofs.Successors.{IsBestBelow}
use Rattle.sm_reopening.proofs.ongoing.OngoingReopening.successor.Given as goal

abbrev pub invariant-loop-number : goal.invariant-loop-number
invariant-loop-number l = IsBestBelow l.self l.shard l.number l.successor l.best
