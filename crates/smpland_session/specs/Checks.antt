-- Replies to `check`: whether a plan would begin now.
use Rattle.std.specs.Prelude.{◌≡◌, ℕ, List, ◌++◌, Err, None, Some, codes, count_by, length, sum_by}
use Rattle.json.specs.Token.{Token}
use Rattle.serde_json.specs.Data.{Data}
use Rattle.sm_placement.specs.Setup.{Setup, names_of_servers, names_of_shards, sizes_of}
use Rattle.sm_plan_code.specs.Instr.{is_call}
use Rattle.sm_plan_code.specs.Plan.{PlanModel}
use Rattle.sm_verifier.specs.Plan.{IsFault, IsSound}
use Rattle.sm_verifier.specs.declared.checking.Fault.{Fault}
use Rattle.sm_plan_text.specs.Reading.{read_plan_data}
use Rattle.sm_plan_text.specs.declared.fault.TextFault.{TextFault}
use Rattle.sm_protocol.specs.declared.event.BeginFault.{BeginFault}
use Rattle.sm_protocol.specs.declared.event.Played.TheVariants as played
use Rattle.sm_protocol.specs.Happens.{Begin, happens}
use Rattle.sm_protocol.specs.Steps.{Answered}
use Rattle.sm_machine.specs.Machine.{MachineModel}
use Rattle.sm_machine.specs.State.{state_of}
use Rattle.sm_refusals.specs.Plans.{begin_refusal, check_refusal}
use Rattle.sm_driver.specs.Driver.{DriverModel}
use Rattle.smpland_lines.specs.BadLines.{told_bad}
use Rattle.smpland_lines.specs.Members.{number_member, object_member, server_text, text_member}
use Rattle.smpland_lines.specs.Refusals.{RefusedLine, refused_member, shared_refusal}
use Rattle.smpland_lines.specs.declared.bad_line.BadLine.TheVariants as bad
use Rattle.smpland_lines.specs.declared.command_member.CommandMember.TheVariants.{Plan as PlanMember}
use Rattle.smpland_state.specs.Known.{unknown_called}
use Rattle.smpland_session.specs.Asked.{SaysPlan}
use Rattle.smpland_session.specs.declared.decline.Decline.{Decline}
use Rattle.smpland_session.specs.declared.decline.Decline.TheVariants as decline

-- how many calls and streams a plan has that is accepted
abbrev pub accepted_members : PlanModel → List Token
accepted_members plan =
    number_member (codes "calls") (sum_by (λ stream. count_by is_call stream.code) plan.streams)
    ++ number_member (codes "streams") (length plan.streams)

-- the same as a member
abbrev pub accepted_member : PlanModel → List Token
accepted_member plan = object_member (codes "accepted") (accepted_members plan)

-- A sound plan is accepted exactly if it would begin now, and otherwise refused, by what is in its way.
pub data TellsVerdict (m : MachineModel) (plan : PlanModel) (before after : List Token) : Type 0 where
  WouldBegin : (happens (state_of m) (Begin plan)).0 ≡ Answered (played.Begun (length (state_of m).plans))
      → after ≡ before ++ accepted_member plan → TellsVerdict m plan before after
  WouldNot : (why : BeginFault) → (happens (state_of m) (Begin plan)).0 ≡ Answered (played.NotBegun why)
      → after ≡ before ++ refused_member (shared_refusal (begin_refusal m.placement.setup why))
      → TellsVerdict m plan before after

-- ---- values

-- a value says no plan over the names of servers and shards: this is its first fault
abbrev pub SaysNoPlan : Setup → Data → TextFault → Type 0
SaysNoPlan setup value fault = read_plan_data (names_of_shards setup) (names_of_servers setup) (Some value) ≡ Err fault

-- a value says a plan that is not sound: this is the plan's first fault
abbrev pub SaysUnsound : Setup → Data → Fault → Type 0
SaysUnsound setup value fault =
    (plan : PlanModel) × SaysPlan setup value plan × (¬ IsSound (sizes_of setup) plan)
    × IsFault (sizes_of setup) plan fault

-- why a value is declined that says no sound plan
abbrev pub IsUnchecked : Setup → Data → Decline → Type 0
IsUnchecked setup value (decline.NoPlan fault) = SaysNoPlan setup value fault
IsUnchecked setup value (decline.Unchecked fault) = SaysUnsound setup value fault
IsUnchecked setup value why = ⊥

-- a value says a sound plan that calls servers that are not known: first this one
abbrev pub SaysUnknown : DriverModel → Data → ℕ → Type 0
SaysUnknown d value server =
    (plan : PlanModel) × SaysPlan d.machine.placement.setup value plan
    × IsSound (sizes_of d.machine.placement.setup) plan
    × (unknown_called d plan ≡ Some server)

-- why a value is declined that says no sound plan, or one that calls a server that is not known
abbrev pub IsUnready : DriverModel → Data → Decline → Type 0
IsUnready d value (decline.Unknown server) = SaysUnknown d value server
IsUnready d value why = IsUnchecked d.machine.placement.setup value why

-- a plan calls this server, which is not known
abbrev pub unknown_refusal : Setup → ℕ → RefusedLine
unknown_refusal setup v = record {
  kind = codes "Unknown";
  number = None;
  fields = text_member (codes "server") (server_text setup v);
  text = codes "refused: Unknown server " ++ server_text setup v;
}

-- The reply to `check` of a value. If the value says no plan, its first fault is told. If it says one that is not
-- sound, the plan is refused by its first fault; if it calls servers that are not known, by the first of these.
-- Otherwise the reply tells whether the plan would begin now.
pub data TellsCheck (d : DriverModel) (value : Data) (before after : List Token) : Type 0 where
  NoPlan : (fault : TextFault) → SaysNoPlan d.machine.placement.setup value fault
      → after ≡ before ++ told_bad (bad.Within PlanMember fault)
      → TellsCheck d value before after
  Unsound : (fault : Fault) → SaysUnsound d.machine.placement.setup value fault
      → after ≡ before ++ refused_member (shared_refusal (check_refusal fault))
      → TellsCheck d value before after
  Unknown : (server : ℕ) → SaysUnknown d value server
      → after ≡ before ++ refused_member (unknown_refusal d.machine.placement.setup server)
      → TellsCheck d value before after
  Sound : (plan : PlanModel) → SaysPlan d.machine.placement.setup value plan
      → IsSound (sizes_of d.machine.placement.setup) plan
      → unknown_called d plan ≡ None → TellsVerdict d.machine plan before after → TellsCheck d value before after
