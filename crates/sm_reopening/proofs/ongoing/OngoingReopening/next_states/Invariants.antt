use Rattle.std.proofs.Common.{ltb}
use Rattle.std.specs.Prelude.{◌&&◌}
use Rattle.sm_reopening.specs.States.{AreNextStates}
use Rattle.sm_reopening.specs.Ongoing.{net_reopening}
use Rattle.sm_reopening.proofs.ongoing.OngoingReopening.next_states.Given as goal

abbrev pub invariant-loop-number : goal.invariant-loop-number
invariant-loop-number l = AreNextStates l.members (λ v. ltb v l.number && (net_reopening l.self).promised v) l.states.items
