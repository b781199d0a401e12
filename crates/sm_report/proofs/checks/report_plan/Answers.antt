use Rattle.std.proofs.Common.{◌≡◌, Err, rules}
use Rattle.sm_placement.specs.Layout.{place_of}
use Rattle.sm_report.proofs.Onward.{plan_refused, plan_held, plan_accepted}
use Rattle.sm_report.proofs.checks.report_plan.Goals as goal

pub returns-in_err-checked : goal.returns-in_err-checked
returns-in_err-checked c =
    let stop = c.in_err-checked.field-0.0 in
    let result = c.from_residual-in_err-checked.result in
    let is : result ≡ Err stop = search rules in
    plan_refused c.args.placement.now.setup (place_of c.args.placement.now) c.args.plan stop result is c.in_err-checked.ensures.ends

pub returns-in_err-may_start : goal.returns-in_err-may_start
returns-in_err-may_start c =
    let stop = c.in_err-may_start.field-0.0 in
    let result = c.from_residual-in_err-may_start.result in
    let is : result ≡ Err stop = search rules in
    plan_held c.args.placement.now.setup (place_of c.args.placement.now) c.args.plan c.in_ok-checked.checked.plan stop result is
    c.in_ok-checked.ensures.plan c.in_ok-checked.ensures.sound c.in_err-may_start.ensures.ends

pub returns : goal.returns
returns c =
    plan_accepted c.args.placement.now.setup (place_of c.args.placement.now) c.args.plan c.in_ok-checked.checked.plan c.plan.result.now c.in_ok-accepted.field-0
    c.in_ok-checked.ensures.plan c.plan.ensures.value c.in_ok-checked.ensures.sound c.in_ok-may_start.ensures.admitted c.in_ok-accepted.ensures
