use Rattle.std.proofs.Common.{◌≡◌, ◌∙◌, None, refl, sym}
use Rattle.json_tree.specs.View.{view}
use Rattle.sm_placement.specs.Setup.{sizes_of}
use Rattle.sm_verifier.specs.Plan.{IsCheckedPlan}
use Rattle.smpland_state.specs.Known.{unknown_called}
use Rattle.smpland_state.specs.Names.{value_of}
use Rattle.smpland_session.specs.Asked.{SaysPlan}
use Rattle.smpland_session.specs.Checks.{IsUnready}
use Rattle.smpland_session.proofs.Outcomes.{begins_as_said, checked_for, not_ready_under}
use Rattle.smpland_session.proofs.Found.{not_read_is, read_is}
use Rattle.smpland_session.proofs.beginning.begin.Goals as goal

-- The plan was checked for the driver's configuration.
pub returns-in-Ok : goal.returns-in-Ok
returns-in-Ok c =
    let d = c.args.opened.now.driver in
    let ready = c.in-Ok.ready in
    let said = read_is (λ ready. SaysPlan d.machine.placement.setup (view c.args.value.now) ready.plan) _ ready c.in-Ok.is c.in_ok-ready.ensures.said in
    let same = read_is (λ ready. ready.setup ≡ d.machine.placement.setup) _ ready c.in-Ok.is c.in_ok-ready.ensures.setup in
    let checked = read_is (λ ready. IsCheckedPlan (sizes_of ready.setup) ready.plan) _ ready c.in-Ok.is c.in_ok-ready.ensures.checked in
    let known = read_is (λ ready. unknown_called d ready.plan ≡ None) _ ready c.in-Ok.is c.in_ok-ready.ensures.known in
    begins_as_said c.start.result ready.plan (view c.args.value.now) c.args.name.now c.args.at.is_reopening c.args.opened.now c.start.new.opened
    c.if-at.false (sym c.get.ensures ∙ c.in_default.is) said (checked_for d ready.setup ready.plan same checked) known c.start.ensures

-- It is not ready.
pub returns-in-Err : goal.returns-in-Err
returns-in-Err c =
    let o = c.args.opened.now in
    let value = view c.args.value.now in
    let why = not_read_is (IsUnready o.driver value) _ c.in-Err.why c.in-Err.is c.in_ok-ready.ensures.unready in (
      refl,
      not_ready_under (value_of o.plans c.args.name.now) c.args.name.now value c.args.at.is_reopening o.driver c.in-Err.why
          (sym c.get.ensures ∙ c.in_default.is) c.if-at.false why,
    )
