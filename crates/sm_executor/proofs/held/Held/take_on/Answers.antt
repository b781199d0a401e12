-- Runners for streams that have begun: there are 64 at most for each plan, and fewer than 2 ^ 33 plans.
use Rattle.std.proofs.Common.{◌≤◌, ◌+◌, ◌*◌, length, sym, subst, arith}
use Rattle.sm_machine.specs.State.{state_of}
use Rattle.sm_executor.specs.Views.{HeldModel, state_in}
use Rattle.sm_executor.proofs.PlanCount.{few_plans}
use Rattle.sm_executor.proofs.held.Held.take_on.Goals as goal

pub fill_runners-requires-clause-parts : goal.fill_runners-requires-clause-parts
fill_runners-requires-clause-parts g c =
    let i = c.self.invariant in
    let w = state_of c.self.inside.machine in
    let plans = few_plans c.self.inside.machine.placement.setup w c.is_reached.ensures in
    let parts = i.2 in
    let all = i.4 in
    let few : c.self.inside.runners + length c.args.tokens.items ≤ 64 * length w.plans =
    subst (λ (h : HeldModel). h.runners + length c.args.tokens.items ≤ 64 * length (state_in h).plans) (sym c.self.view_is) c.requires.few in
    omega (arith, plans, parts, all, few)
