-- Replies to `moves` and `drain`: a plan that is made for the machine as it stands, or why there is none.
-- `TellsMade` is internal: you need not read it for the public contracts.
use Rattle.std.specs.Prelude.{◌≡◌, ℕ, List, ◌∷◌, ◌++◌, Option, Some, None, Result, Ok, Err, codes}
use Rattle.json.specs.Lex.{tokens}
use Rattle.json.specs.Token.{Token, key}
use Rattle.sm_placement.specs.Setup.{Setup, names_of_servers, names_of_shards}
use Rattle.sm_plan_code.specs.Plan.{PlanModel}
use Rattle.sm_plan_code.specs.declared.moves.Move.{Move}
use Rattle.sm_verifier.specs.Checked.{CheckedModel}
use Rattle.sm_plan_text.specs.PlanTexts.{plan_text}
use Rattle.sm_machine.specs.Machine.{MachineModel}
use Rattle.sm_planner.specs.Basis.{basis_now}
use Rattle.sm_planner.specs.Drain.{IsDrainPlan, IsNoDrainFor}
use Rattle.sm_planner.specs.NoPlans.{no_plan_refusal}
use Rattle.sm_planner.specs.Refusal.{IsNoPlanFor, IsPlanOf}
use Rattle.sm_planner.specs.declared.refusal.NoPlan.{NoPlan}
use Rattle.smpland_lines.specs.BadLines.{told_bad}
use Rattle.smpland_lines.specs.Refusals.{refused_member, shared_refusal}
use Rattle.smpland_lines.specs.declared.bad_line.BadLine.{BadLine}
use Rattle.smpland_lines.specs.declared.bad_line.BadLine.TheVariants as bad
use Rattle.smpland_lines.specs.declared.command_member.CommandMember.TheVariants.{Server}
use Rattle.smpland_lines.specs.declared.line_part.LinePart.TheVariants.{Line}
use Rattle.smpland_state.specs.Copies.{good_tokens}

-- a plan as a member: the JSON of its text, which is read as that plan
abbrev pub plan_member : Setup → PlanModel → List Token
plan_member setup plan = key (codes "plan") ∷ good_tokens (tokens (plan_text (names_of_shards setup) (names_of_servers setup) plan))

-- the reply tells what a planner has answered
abbrev pub TellsMade : Setup → Result CheckedModel NoPlan → List Token → List Token → Type 0
TellsMade setup (Ok checked) before after = after ≡ before ++ plan_member setup checked.plan
TellsMade setup (Err why) before after = after ≡ before ++ refused_member (shared_refusal (no_plan_refusal setup why))

-- A planner's reply: a plan of the kind that was asked for, or why there is none.
pub data TellsPlanned (setup : Setup) (IsMade : PlanModel → Type 0) (IsNone : NoPlan → Type 0) (before after : List Token) : Type 0 where
  Made : (plan : PlanModel) → IsMade plan → after ≡ before ++ plan_member setup plan
      → TellsPlanned setup IsMade IsNone before after
  NotMade : (why : NoPlan) → IsNone why → after ≡ before ++ refused_member (shared_refusal (no_plan_refusal setup why))
      → TellsPlanned setup IsMade IsNone before after

-- The reply to `moves`: what is wrong with them; or otherwise a plan that makes moves, or why there is none.
pub data TellsMoves (m : MachineModel) (before after : List Token) : Type 0 where
  Malformed : (fault : BadLine) → after ≡ before ++ told_bad fault → TellsMoves m before after
  Planned : (moves : List Move) → TellsPlanned m.placement.setup (IsPlanOf (basis_now m) moves) (IsNoPlanFor (basis_now m) moves) before after
      → TellsMoves m before after

-- the reply to `drain` of a server: a plan that empties it, or why there is none; or that there is no such server
abbrev pub TellsDrain : MachineModel → Option ℕ → List Token → List Token → Type 0
TellsDrain m (Some v) before after = TellsPlanned m.placement.setup (IsDrainPlan (basis_now m) v) (IsNoDrainFor (basis_now m) v) before after
TellsDrain m None before after = after ≡ before ++ told_bad (bad.UnknownName Line Server)
