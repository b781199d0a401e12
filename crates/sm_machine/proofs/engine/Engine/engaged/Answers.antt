-- The lowest stream that engages a server.
use Rattle.std.proofs.Common.{sym, ap, ◌∙◌, ◌<◌, ℕ, List, length, get_or, subst}
use Rattle.sm_machine.specs.State.{whole_of, state_of}
use Rattle.sm_machine.specs.Engaged.{engaged_by}
use Rattle.sm_machine.specs.Unfinished.{unfinished_below}
use Rattle.sm_machine.proofs.Unfinished.{first_in, all_engaged, first_found, first_passed, first_past, unfinished_known}
use Rattle.sm_machine.proofs.engine.Engine.engaged.Goals as goal

pub loop-plan-init : goal.loop-plan-init
loop-plan-init c = ap (first_in (engaged_by (state_of c.args.self.now) c.args.server)) c.unfinished-plans.ensures ∙ all_engaged (whole_of c.args.self.now) c.requires c.args.server

pub engaged_by-found-requires : goal.engaged_by-found-requires
engaged_by-found-requires c =
    let w = whole_of c.args.self.now in
    let plans : List ℕ = unfinished_below w.unfinished (length w.state.plans) in
    let here : c.loop-plan.plan-index < length plans = subst (λ ks. c.loop-plan.plan-index < length ks) c.unfinished-plans.ensures c.loop-plan-test.true in
    subst (λ ks. get_or ks c.loop-plan.plan-index 0 < length w.state.plans) (sym c.unfinished-plans.ensures) (unfinished_known w.unfinished (length w.state.plans) c.loop-plan.plan-index 0 here)

pub returns-then-is_some : goal.returns-then-is_some
returns-then-is_some c =
    sym (first_found (engaged_by (state_of c.args.self.now) c.args.server) c.unfinished-plans.result.now c.loop-plan.plan-index 0 c.engaged_by-found.result c.loop-plan-test.true
    (sym c.engaged_by-found.ensures) (sym c.is_some.ensures ∙ c.if-is_some.true)) ∙ c.loop-plan.invariant

pub loop-plan-preserved : goal.loop-plan-preserved
loop-plan-preserved c =
    sym (first_passed (engaged_by (state_of c.args.self.now) c.args.server) c.unfinished-plans.result.now c.loop-plan.plan-index 0 c.engaged_by-found.result c.loop-plan-test.true
    (sym c.engaged_by-found.ensures) (sym c.is_some.ensures ∙ c.if-is_some.false)) ∙ c.loop-plan.invariant

pub returns : goal.returns
returns c = sym (first_past (engaged_by (state_of c.args.self.now) c.args.server) c.unfinished-plans.result.now c.loop-plan.plan-index c.loop-plan-test.false) ∙ c.loop-plan.invariant
