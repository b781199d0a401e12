-- The conditions of a plan's start, and what it leaves.
-- `IsStarted` is internal: you need not read it for the public contracts.
use Rattle.std.specs.Prelude.{◌≡◌, ◌<◌, ℕ, Option, Some, None, length, slice_index}
use Rattle.sm_placement.specs.Setup.{Sizes}
use Rattle.sm_verifier.specs.Checked.{CheckedModel}
use Rattle.sm_verifier.specs.Peak.{IsPeak}
use Rattle.sm_verifier.specs.Stream.{stream_at}
use Rattle.sm_plan_code.specs.Plan.{PlanModel}
use Rattle.sm_protocol.specs.declared.event.BeginFault.{BeginFault}
use Rattle.sm_protocol.specs.declared.event.Played.{Played}
use Rattle.sm_protocol.specs.declared.event.Played.TheVariants as played
use Rattle.sm_protocol.specs.State.{State}
use Rattle.sm_protocol.specs.Steps.{Answered}
use Rattle.sm_protocol.specs.Happens.{happens, Begin}
use Rattle.sm_machine.specs.State.{Whole}
use Rattle.sm_machine.specs.Working.{IsWorking}

-- the peaks of the first n streams of the plan are those that were found for them
abbrev pub ArePeaksOf : Sizes → CheckedModel → ℕ → Type 0
ArePeaksOf c p n = (i : ℕ) → i < n → IsPeak (stream_at c p.plan i) (slice_index p.peaks i)

-- The plan has started with this number, as the protocol says, and all that every machine keeps is kept.
pub record IsStarted (x : Whole) (p : CheckedModel) (number : ℕ) (y : Whole) : Type 0 where
  pub happens : happens x.state (Begin p.plan) ≡ (Answered (played.Begun number), y.state)
  pub latest : number ≡ length x.state.plans
  pub setup : y.setup ≡ x.setup
  pub working : IsWorking y

-- The plan does not start, as the protocol says.
abbrev pub IsNotStarted : State → PlanModel → BeginFault → Type 0
IsNotStarted w plan why = happens w (Begin plan) ≡ (Answered (played.NotBegun why), w)

-- the answer to the begin of a plan, by what is against it: it gets the next number if nothing is
abbrev pub begin_answer : State → Option BeginFault → Played
begin_answer w None = played.Begun (length w.plans)
begin_answer w (Some why) = played.NotBegun why
