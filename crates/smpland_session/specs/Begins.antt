-- Begins under a name under which a plan has begun before.
use Rattle.std.specs.Prelude.{◌≡◌, ◌≢◌, ◌==◌, ◌&&◌, ℕ, Bool, List, [], ◌++◌, Option, Some, None, IfSome, IsSome, codes}
use Rattle.std.specs.Prelude.{if◌then◌else◌, length, nat_lt, string_bytes}
use Rattle.std.specs.Option.{IsSomeAnd}
use Rattle.json.specs.Token.{Token}
use Rattle.serde_json.specs.Data.{Data}
use Rattle.sm_placement.specs.Setup.{Setup}
use Rattle.sm_plan_code.specs.Plan.{PlanModel}
use Rattle.sm_protocol.specs.State.{plan_at}
use Rattle.sm_plan_text.specs.declared.fault.TextFault.{TextFault}
use Rattle.sm_driver.specs.Driver.{DriverModel, record_of}
use Rattle.smpland_lines.specs.BadLines.{told_bad}
use Rattle.smpland_lines.specs.Members.{text_member}
use Rattle.smpland_lines.specs.Refusals.{RefusedLine, refused_member}
use Rattle.smpland_lines.specs.declared.bad_line.BadLine.TheVariants as bad
use Rattle.smpland_lines.specs.declared.command_member.CommandMember.TheVariants.{Plan as PlanMember}
use Rattle.smpland_state.specs.declared.begun_plan.BegunPlan.{BegunPlan}
use Rattle.smpland_state.specs.Begun.{begun_again_members}
use Rattle.smpland_session.specs.Asked.{SaysPlan}
use Rattle.smpland_session.specs.Checks.{SaysNoPlan}
use Rattle.smpland_session.specs.declared.decline.Decline.{Decline}
use Rattle.smpland_session.specs.declared.decline.Decline.TheVariants as decline

-- a plan that has begun, as it was begun, if it is of the present epoch: those of earlier ones are not kept
abbrev pub kept_plan : DriverModel → BegunPlan → Option PlanModel
kept_plan d begun =
    if (begun.epoch == d.epoch) && nat_lt begun.number (length (record_of d).plans) then Some (plan_at (record_of d) begun.number) else None

-- a value says another plan than this one
abbrev pub SaysOther : Setup → Data → PlanModel → Type 0
SaysOther setup value kept = (said : PlanModel) × SaysPlan setup value said × (said ≢ kept)

-- why a value does not say the plan that has begun under a name: it says none, or another one
abbrev pub IsNotSaid : Setup → Data → List ℕ → PlanModel → Decline → Type 0
IsNotSaid setup value name kept (decline.NoPlan fault) = SaysNoPlan setup value fault
IsNotSaid setup value name kept (decline.OtherPlan other) = (string_bytes other ≡ name) × SaysOther setup value kept
IsNotSaid setup value name kept why = ⊥

-- under this name another plan has begun
abbrev pub other_plan : List ℕ → RefusedLine
other_plan name = record {
  kind = codes "OtherPlan";
  number = None;
  fields = text_member (codes "name") name;
  text = codes "refused: OtherPlan name " ++ name;
}

-- The reply to a begin under the name of a plan that has begun. If that is kept, and the value says no plan, its fault
-- is told; if it says another one, it is refused. Otherwise the reply tells the plan that has begun again, with the
-- messages that its streams stand before now.
pub record TellsUnder (d : DriverModel) (goes_on : Bool) (value : Data) (name : List ℕ) (begun : BegunPlan) (before after : List Token) : Type 0 where
  pub same : IfSome (kept_plan d begun) (SaysPlan d.machine.placement.setup value)
      → after ≡ before ++ begun_again_members d begun goes_on
  pub other : IsSomeAnd (kept_plan d begun) (SaysOther d.machine.placement.setup value)
      → after ≡ before ++ refused_member (other_plan name)
  pub no_plan : (fault : TextFault) → IsSome (kept_plan d begun) → SaysNoPlan d.machine.placement.setup value fault
      → after ≡ before ++ told_bad (bad.Within PlanMember fault)
