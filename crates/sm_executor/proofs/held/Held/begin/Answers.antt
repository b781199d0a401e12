-- A plan begins.
use Rattle.std.proofs.Common.{◌≤◌, ◌≡◌, ◌∙◌, ap, sym, subst, arith, length}
use Rattle.sm_placement.specs.Setup.{Sizes, sizes_of}
use Rattle.sm_plan_code.specs.Plan.{IsKnownPlan, IsPlan, PlanModel}
use Rattle.sm_verifier.specs.Checked.{CheckedModel}
use Rattle.sm_verifier.specs.Plan.{IsCheckedPlan, IsSound}
use Rattle.sm_protocol.specs.Happens.{Begin, started}
use Rattle.sm_machine.specs.State.{state_of}
use Rattle.sm_executor.specs.Views.{HeldModel, state_in, AreRunners}
use Rattle.sm_machine.proofs.HandPlays.{sizes_are}
use Rattle.sm_executor.proofs.Leading.{led_by}
use Rattle.sm_executor.proofs.Starting.{begun_is, started_kept, few_runners, runners_are}
use Rattle.sm_executor.proofs.held.Held.begin.Goals as goal

pub invariant_of-self : goal.invariant_of-self
invariant_of-self g c =
    let i = c.self.invariant in
    let w = state_of c.self.inside.machine in
    let v = state_of c.start.new.self in
    let plan = c.args.ready.plan in
    let ens = c.in-Ok.ensures in
    let e : v ≡ started w plan = ens.state ∙ begun_is w plan (length w.plans) ens.answer in
    let k = started_kept g.N.Naming.words g.N.Naming.opened w v c.self.inside.publisher c.self.inside.steps.total c.self.inside.executed.total c.self.inside.refused.total plan e i.0 i.1 in
    let ok = c.in-Ok.tokens.ok in
    let parts = c.fill_runners.ensures.parts in
    let all = i.2 in
    let same = c.checked.ensures.value in
    let is = c.plan.ensures.value ∙ ap (λ (r : CheckedModel). r.plan) same in
    let n : length c.streams.result.now ≡ length plan.streams = ap length c.streams.ensures.value ∙ ap (λ (p : PlanModel). length p.streams) is in
    let whole : IsPlan plan = subst IsPlan is c.streams.ensures.plan in
    let fits = subst (λ (r : CheckedModel). IsKnownPlan (length r.setup.shards) (length r.setup.servers) r.plan) same c.plan.ensures.fits in
    let sound = subst (λ (r : CheckedModel). IsSound (sizes_of r.setup) r.plan) same c.plan.ensures.sound in
    let sizes : sizes_of c.args.ready.setup ≡ w.sizes = ap sizes_of (c.requires.setup ∙ sym i.12) ∙ sym (sizes_are c.self.inside.machine) in
    let checked : IsCheckedPlan w.sizes plan = subst (λ (s : Sizes). IsCheckedPlan s plan) sizes (record { parts = whole; fits = fits; sound = sound }) in
    let few : length plan.streams ≤ 64 = whole.small.stream_count in
    let count = ens.tokens.count in
    let most : length c.streams.result.now ≤ 64 = omega arith in
    (k.tied, k.counted, omega arith, c.fill_runners.ensures.amount, i.4, i.5, i.6, i.7, i.8, i.9, i.10, i.11, ens.setup ∙ i.12, few_runners w v plan c.self.inside.runners (length c.streams.result.now) e most i.13, led_by g.N.Naming.opened w v (Begin plan) checked ens.state i.14)

pub returns-in-Ok-clause-runners : goal.returns-in-Ok-clause-runners
returns-in-Ok-clause-runners g c =
    subst (λ (h : HeldModel). AreRunners (length (state_in h).plans) (length c.args.ready.plan.streams) c.fill_runners.new.runners.items) c.self.view_is
    (runners_are (length (state_of c.self.inside.machine).plans) (length c.args.ready.plan.streams) c.in-Ok.tokens.items c.fill_runners.new.runners.items c.in-Ok.ensures.tokens c.fill_runners.ensures.runners)
