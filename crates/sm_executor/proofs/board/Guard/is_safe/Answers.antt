-- Facts about the machine are facts about the guard's.
use Rattle.std.proofs.Common.{◌≡◌, ℕ, Some, subst}
use Rattle.sm_placement.specs.SafePlace.{IsServing}
use Rattle.sm_protocol.specs.declared.event.Played.TheVariants as played
use Rattle.sm_protocol.specs.Steps.{Answered}
use Rattle.sm_protocol.specs.Happens.{Happening, happens}
use Rattle.sm_protocol.specs.Safe.{SomeCanStepOrSpent}
use Rattle.sm_protocol.specs.Laws.{IsReached, asked}
use Rattle.sm_machine.specs.Machine.{MachineModel}
use Rattle.sm_machine.specs.State.{state_of}
use Rattle.sm_executor.proofs.board.Guard.is_safe.Goals as goal

pub returns-clause-reached : goal.returns-clause-reached
returns-clause-reached g c = subst (λ (m : MachineModel). IsReached m.placement.setup (state_of m)) c.machine-machine.ensures c.is_reached.ensures

pub returns-clause-onward : goal.returns-clause-onward
returns-clause-onward g c = subst (λ m. SomeCanStepOrSpent (state_of m)) c.machine-machine.ensures c.is_safe.ensures.onward

pub returns-clause-executed : goal.returns-clause-executed
returns-clause-executed g c =
    subst (λ (m : MachineModel). (e : Happening) (s v : ℕ) → asked e ≡ Some s → (happens (state_of m) e).0 ≡ Answered (played.Executed v) →
    IsServing (state_of m).place s v × ((u : ℕ) → IsServing (state_of m).place s u → u ≡ v))
    c.machine-machine.ensures c.is_safe.ensures.executed
