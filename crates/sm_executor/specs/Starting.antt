-- A plan's start at a board. No contract has a name for the state behind the lock at that moment, so the start is told
-- by some state of the board.
use Rattle.std.specs.Prelude.{List, ◌≡◌, length}
use Rattle.sm_placement.specs.Setup.{Setup}
use Rattle.sm_plan_code.specs.Plan.{PlanModel}
use Rattle.sm_protocol.specs.declared.event.BeginFault.{BeginFault}
use Rattle.sm_protocol.specs.declared.event.Played.TheVariants.{Begun}
use Rattle.sm_protocol.specs.State.{State}
use Rattle.sm_protocol.specs.Steps.{Answered}
use Rattle.sm_protocol.specs.Happens.{happens, Begin}
use Rattle.sm_machine.specs.Started.{IsNotStarted}
use Rattle.sm_executor.specs.Closed.{IsBoardState}
use Rattle.sm_executor.specs.Views.{RunnerModel, AreRunners}

-- At a state of the board the plan begins, with the next number, and there is a runner for each of its streams.
pub record HasBegun (setup : Setup) (opened : State) (plan : PlanModel) (runners : List RunnerModel) : Type 0 where
  pub now : State
  pub state : IsBoardState setup opened now
  pub begun : (happens now (Begin plan)).0 ≡ Answered (Begun (length now.plans))
  pub given : AreRunners (length now.plans) (length plan.streams) runners

-- At a state of the board the plan does not begin, for this reason.
pub record HasNotBegun (setup : Setup) (opened : State) (plan : PlanModel) (why : BeginFault) : Type 0 where
  pub now : State
  pub state : IsBoardState setup opened now
  pub refused : IsNotStarted now plan why
