-- The streams that wait for answers are those of the unfinished plans.
use Rattle.std.proofs.Common.{◌∙◌, ◌<◌, get_or, length, sym, ap, subst}
use Rattle.std.specs.List.{flat_map}
use Rattle.std.proofs.lemmas.List.{take_all}
use Rattle.sm_protocol.specs.Next.{unfinished_plans}
use Rattle.sm_machine.specs.State.{state_of}
use Rattle.sm_driver.specs.Orders.{awaiting_in}
use Rattle.sm_driver.proofs.Searches.{plan_is_known}
use Rattle.sm_driver.proofs.Waiting.{of_unfinished}
use Rattle.sm_driver.proofs.ordering.awaiting.Goals as goal

pub push_streams-requires : goal.push_streams-requires
push_streams-requires c =
    let w = state_of c.args.machine.now in
    let here : c.loop-plan.plan-index < length (unfinished_plans w) = subst (λ ks. c.loop-plan.plan-index < length ks) c.unfinished-plan-items.ensures c.loop-plan-test.true in
    subst (λ ks. get_or ks c.loop-plan.plan-index 0 < length w.plans) (sym c.unfinished-plan-items.ensures) (plan_is_known w c.loop-plan.plan-index here)

pub returns : goal.returns
returns c =
    let w = state_of c.args.machine.now in
    let items = c.unfinished-plan-items.result.now in
    c.loop-plan.invariant
    ∙ ap (flat_map (awaiting_in w)) (take_all c.loop-plan.plan-index items c.loop-plan-test.false ∙ c.unfinished-plan-items.ensures)
    ∙ of_unfinished w
