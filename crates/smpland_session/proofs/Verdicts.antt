-- Replies to `check`.
use Rattle.std.proofs.Common.{◌≡◌, ◌++◌, List, None, Result, Ok, Err, IfOk, OnOk, length, subst}
use Rattle.std.specs.Prelude.{IfErr}
use Rattle.json.specs.Token.{Token}
use Rattle.serde_json.specs.Data.{Data}
use Rattle.sm_placement.specs.Setup.{sizes_of}
use Rattle.sm_plan_code.specs.Plan.{PlanModel}
use Rattle.sm_verifier.specs.Plan.{IsSound}
use Rattle.sm_protocol.specs.declared.event.BeginFault.{BeginFault}
use Rattle.sm_protocol.specs.declared.event.Played.TheVariants as played
use Rattle.sm_protocol.specs.Happens.{Begin, happens}
use Rattle.sm_protocol.specs.Steps.{Answered}
use Rattle.sm_machine.specs.Machine.{MachineModel}
use Rattle.sm_machine.specs.State.{state_of}
use Rattle.sm_driver.specs.Driver.{DriverModel}
use Rattle.sm_refusals.specs.Plans.{begin_refusal}
use Rattle.smpland_lines.specs.Refusals.{refused_member, shared_refusal}
use Rattle.smpland_state.specs.Known.{unknown_called}
use Rattle.smpland_session.specs.Asked.{SaysPlan}
use Rattle.smpland_session.specs.Checks.{IsUnchecked, IsUnready, NoPlan, Sound, TellsCheck, TellsVerdict, Unknown, Unsound, WouldBegin, WouldNot, accepted_member}
use Rattle.smpland_session.specs.Outcomes.{TellsDecline}
use Rattle.smpland_session.specs.declared.decline.Decline.{Decline}
use Rattle.smpland_session.specs.declared.decline.Decline.TheVariants as decline

-- it would not begin, and is refused
pub would_not : {A E : Type 0} (r : Result A E) (m : MachineModel) (plan : PlanModel) (why : BeginFault) (before after : List Token) →
    (happens (state_of m) (Begin plan)).0 ≡ Answered (played.NotBegun why) →
    OnOk r (after ≡ before ++ refused_member (shared_refusal (begin_refusal m.placement.setup why))) → OnOk r (TellsVerdict m plan before after)
would_not (Ok x) m plan why before after is told = WouldNot why is told
would_not (Err x) m plan why before after is told = tt

-- it would, and is accepted
pub would_begin : {A E : Type 0} (r : Result A E) (m : MachineModel) (plan shown : PlanModel) (before after : List Token) →
    (happens (state_of m) (Begin plan)).0 ≡ Answered (played.Begun (length (state_of m).plans)) → shown ≡ plan →
    OnOk r (after ≡ before ++ accepted_member shown) → OnOk r (TellsVerdict m plan before after)
would_begin (Ok x) m plan shown before after is same told = WouldBegin is (subst (λ (p : PlanModel). after ≡ before ++ accepted_member p) same told)
would_begin (Err x) m plan shown before after is same told = tt

-- ---- values

-- a sound plan is told as it would begin
pub tells_sound : {A E : Type 0} (r : Result A E) (d : DriverModel) (m : MachineModel) (value : Data) (plan : PlanModel) (before after : List Token) →
    SaysPlan d.machine.placement.setup value plan → IsSound (sizes_of d.machine.placement.setup) plan → unknown_called d plan ≡ None → m ≡ d.machine →
    OnOk r (TellsVerdict m plan before after) → OnOk r (TellsCheck d value before after)
tells_sound (Ok x) d m value plan before after says sound known same told =
    Sound plan says sound known (subst (λ (k : MachineModel). TellsVerdict k plan before after) same told)
tells_sound (Err x) d m value plan before after says sound known same told = tt

-- any other value is declined
tells_why : (d : DriverModel) (value : Data) (why : Decline) (before after : List Token) →
    IsUnready d value why → TellsDecline d.machine.placement.setup why before after → TellsCheck d value before after
tells_why d value (decline.NoPlan fault) before after is told = NoPlan fault is told
tells_why d value (decline.Unchecked fault) before after is told = Unsound fault is told
tells_why d value (decline.Unknown server) before after is told = Unknown server is told
tells_why d value _ before after is told = absurd is

-- so it is as long as memory is not short
pub tells_unready : {A E : Type 0} (r : Result A E) (d : DriverModel) (value : Data) (why : Decline) (before after : List Token) →
    IsUnready d value why → OnOk r (TellsDecline d.machine.placement.setup why before after) → OnOk r (TellsCheck d value before after)
tells_unready (Ok x) d value why before after is told = tells_why d value why before after is told
tells_unready (Err x) d value why before after is told = tt

-- a value that says no sound plan is not ready
pub unready : (d : DriverModel) (value : Data) (why : Decline) → IsUnchecked d.machine.placement.setup value why → IsUnready d value why
unready d value (decline.Unknown server) is = absurd is
unready d value _ is = is
