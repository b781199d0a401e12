use Rattle.std.proofs.Common.{◌≡◌, None}
use Rattle.json_tree.specs.View.{view}
use Rattle.sm_placement.specs.Setup.{sizes_of}
use Rattle.sm_verifier.specs.Plan.{IsSound}
use Rattle.smpland_state.specs.Known.{unknown_called}
use Rattle.smpland_session.specs.Asked.{SaysPlan}
use Rattle.smpland_session.specs.Checks.{IsUnready}
use Rattle.smpland_session.proofs.Found.{read_is, not_read_is}
use Rattle.smpland_session.proofs.Verdicts.{tells_sound, tells_unready}
use Rattle.smpland_session.proofs.planning.write_check.Goals as goal

-- The plan is the one that the value says.
pub returns-in-Ok : goal.returns-in-Ok
returns-in-Ok c =
    let d = c.args.opened.now.driver in
    let setup = d.machine.placement.setup in
    let value = view c.args.value.now in
    let checked = c.in-Ok.checked in
    let said = read_is (λ checked. SaysPlan setup value checked.plan) _ checked c.in-Ok.is c.in_ok-checked.ensures.said in
    let sound = read_is (λ checked. IsSound (sizes_of setup) checked.plan) _ checked c.in-Ok.is c.in_ok-checked.ensures.sound in
    let known = read_is (λ checked. unknown_called d checked.plan ≡ None) _ checked c.in-Ok.is c.in_ok-checked.ensures.known in
    tells_sound c.write_verdict.result d c.machine.result.now value checked.plan _ _ said sound known c.machine.ensures c.write_verdict.ensures

pub returns-in-Err : goal.returns-in-Err
returns-in-Err c =
    let d = c.args.opened.now.driver in
    let value = view c.args.value.now in
    let why = not_read_is (IsUnready d value) _ c.in-Err.why c.in-Err.is c.in_ok-checked.ensures.unready in
    tells_unready c.write.result d value c.in-Err.why _ _ why c.write.ensures
