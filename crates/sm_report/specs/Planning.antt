-- Plans that are made for a document: for its moves, or to empty a server.
-- `aim_of` and `IsAimOf` are internal: you need not read them for the public contracts.
use Rattle.std.specs.Prelude.{◌≡◌, ◌⊎◌, ◌<◌, ℕ, List, [], ◌∷◌, All, codes, length, Option, Some, None, Result, Ok, Err}
use Rattle.sm_placement.specs.Setup.{Setup, sizes_of, names_of_servers, names_of_shards}
use Rattle.sm_placement.specs.Place.{Place}
use Rattle.sm_plan_code.specs.Plan.{PlanModel}
use Rattle.sm_plan_code.specs.declared.moves.Move.{Move}
use Rattle.sm_protocol.specs.State.{opened}
use Rattle.sm_planner.specs.declared.refusal.NoPlan.{NoPlan}
use Rattle.sm_planner.specs.declared.refusal.NoPlan.TheVariants as no_plan
use Rattle.sm_planner.specs.Basis.{Basis, basis_at, IsMoveOf}
use Rattle.sm_planner.specs.Refusal.{IsRefused, IsPlanOf}
use Rattle.sm_planner.specs.Drain.{IsDrainPlan, IsDrainRefused}
use Rattle.sm_plan_text.specs.declared.fault.TextFault.TheVariants.{Shape}
use Rattle.sm_plan_text.specs.declared.member.Member.TheVariants as members
use Rattle.sm_plan_text.specs.PlanTexts.{plan_text}
use Rattle.sm_report_text.specs.PlanLines.{no_plan_line}
use Rattle.sm_report.specs.declared.planning.Wanted.{Wanted}
use Rattle.sm_report.specs.declared.planning.Wanted.TheVariants as wanted
use Rattle.sm_report.specs.Report.{Output, bad_input, refused, done}
use Rattle.sm_report_text.specs.BadInput.{text_fault_line}
use Rattle.sm_report_text.specs.Lines.{line}

-- ---- what is asked for

-- what a plan is to do: to make moves, or to empty a server
pub data Aim : Type 0 where
  Moving : (moves : List Move) → Aim
  Emptying : (server : ℕ) → Aim

-- a document that a plan is made for has moves or a server to empty, and not both
abbrev pub aim_stage : Option (List Move) → Option ℕ → Result Aim Output
aim_stage (Some moves) None = Ok (Moving moves)
aim_stage None (Some server) = Ok (Emptying server)
aim_stage (Some moves) (Some server) = Err (bad_input (text_fault_line (Shape members.Drain)))
aim_stage None None = Err (bad_input (text_fault_line (Shape members.Moves)))

-- what the code keeps of it
abbrev pub aim_of : Wanted → Aim
aim_of (wanted.Moves moves) = Moving moves.now
aim_of (wanted.Drain server) = Emptying server

-- it names shards and servers of the configuration
abbrev pub IsAimOf : Setup → Aim → Type 0
IsAimOf setup (Moving moves) = All (IsMoveOf setup) moves
IsAimOf setup (Emptying server) = server < length setup.servers

-- ---- what it is made from

-- what a plan is made from when a machine is opened over a placement
abbrev pub opened_basis : Setup → Place → ℕ → Basis
opened_basis setup p log = basis_at setup (opened (sizes_of setup) p log)

-- ---- the answer

-- the plan is the rule's for this
abbrev pub IsPlanFor : Basis → Aim → PlanModel → Type 0
IsPlanFor b (Moving moves) = IsPlanOf b moves
IsPlanFor b (Emptying server) = IsDrainPlan b server

-- the rule has no plan for it, for this reason
abbrev pub IsRefusedFor : Basis → Aim → NoPlan → Type 0
IsRefusedFor b (Moving moves) = IsRefused b moves
IsRefusedFor b (Emptying server) = IsDrainRefused b server

-- a plan on a line of its own
abbrev pub made_line : Setup → PlanModel → List ℕ
made_line setup plan = line (plan_text (names_of_shards setup) (names_of_servers setup) plan ∷ [])

-- the rule's plan is told
abbrev pub IsPlanTold : Setup → Basis → Aim → Output → Type 0
IsPlanTold setup b aim output = (plan : PlanModel) × IsPlanFor b aim plan × (output ≡ done (made_line setup plan))

-- why the rule has none is told
abbrev pub IsRefusalTold : Setup → Basis → Aim → Output → Type 0
IsRefusalTold setup b aim output = (why : NoPlan) × IsRefusedFor b aim why × (output ≡ refused (no_plan_line setup why))

-- the rule's answer
abbrev pub IsAnswered : Setup → Basis → Aim → Output → Type 0
IsAnswered setup b aim output = IsPlanTold setup b aim output ⊎ IsRefusalTold setup b aim output
