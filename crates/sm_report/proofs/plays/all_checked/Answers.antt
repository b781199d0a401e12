use Rattle.std.proofs.Common.{◌≡◌, ◌<◌, ◌≤◌, ◌∙◌, List, None, Err, length, sym, ap, subst, rules, arith}
use Rattle.std.specs.Prelude.{slice_index_or}
use Rattle.std.specs.List.{remove}
use Rattle.std.proofs.lemmas.List.{length-append}
use Rattle.sm_placement.specs.Setup.{sizes_of}
use Rattle.sm_machine.specs.Hand.{AreFor}
use Rattle.sm_plan_code.specs.Plan.{PlanModel, IsKnownPlan}
use Rattle.sm_report_text.specs.EventLines.{plan_front}
use Rattle.sm_report.specs.Stages.{IsFaultReport, AtChecks}
use Rattle.sm_report.proofs.Onward.{ended_weaker}
use Rattle.sm_report.proofs.PlayStages.{first_of_left, left_after, rest_more, stopped_here, waits_more, for_more, all_passed, ended_so}
use Rattle.sm_report.proofs.plays.all_checked.Goals as goal

pub check_at-requires : goal.check_at-requires
check_at-requires c =
    let plans = c.args.plans.items in
    let place = c.loop-place.place in
    let plan = c.remove-plan.result in
    let below : place < length plans = omega arith in
    let is : plan ≡ slice_index_or plans place plan =
    c.remove-plan.ensures.value ∙ ap (λ (xs : List PlanModel). slice_index_or xs 0 plan) c.loop-place.invariant.left ∙ first_of_left plans place plan in
    subst (IsKnownPlan (length c.args.placement.now.setup.shards) (length c.args.placement.now.setup.servers)) (sym is) (c.requires place plan below)

pub returns-in_err-checked-clause-ends : goal.returns-in_err-checked-clause-ends
returns-in_err-checked-clause-ends c =
    let plans = c.args.plans.items in
    let place = c.loop-place.place in
    let plan = c.remove-plan.result in
    let below : place < length plans = omega arith in
    let is : plan ≡ slice_index_or plans place plan =
    c.remove-plan.ensures.value ∙ ap (λ (xs : List PlanModel). slice_index_or xs 0 plan) c.loop-place.invariant.left ∙ first_of_left plans place plan in
    let sizes = sizes_of c.args.placement.now.setup in
    let stop = c.in_err-checked.field-0.0 in
    let result = c.from_residual-in_err-checked.result in
    let ended : result ≡ Err stop = search rules in
    ended_so result stop (AtChecks sizes c.args.many 0 plans (λ other. ⊥)) ended
    (ended_weaker stop (IsFaultReport sizes (plan_front c.args.many place) plan) (AtChecks sizes c.args.many 0 plans (λ other. ⊥))
    (λ made fault. stopped_here plans place plan below is sizes c.args.many None made fault c.loop-place.invariant.rest) c.in_err-checked.ensures.ends)

pub loop-place-preserved : goal.loop-place-preserved
loop-place-preserved c =
    let plans = c.args.plans.items in
    let place = c.loop-place.place in
    let plan = c.remove-plan.result in
    let below : place < length plans = omega arith in
    let is : plan ≡ slice_index_or plans place plan =
    c.remove-plan.ensures.value ∙ ap (λ (xs : List PlanModel). slice_index_or xs 0 plan) c.loop-place.invariant.left ∙ first_of_left plans place plan in
    let sizes = sizes_of c.args.placement.now.setup in
    let added = c.push_reserved.ensures.items in
    let longer = ap length added ∙ length-append c.loop-place.waiting.items _ in
    let count = c.loop-place.invariant.count in
    let room = c.loop-place.invariant.room in
    let capacity = c.push_reserved.ensures.capacity in
    record {
      left = c.remove-plan.ensures.items ∙ ap (λ (xs : List PlanModel). remove xs 0) c.loop-place.invariant.left ∙ left_after plans place plan below is;
      waits = waits_more plans place plan below is c.push_reserved.new.self.items c.loop-place.waiting.items c.in_ok-checked.checked c.in_ok-checked.ensures.plan added c.loop-place.invariant.waits;
      count = omega (arith, longer, count);
      room = omega (arith, room, capacity);
      checked = subst (AreFor c.args.placement.now.setup) (sym added) (for_more c.args.placement.now.setup c.loop-place.waiting.items c.in_ok-checked.checked c.loop-place.invariant.checked c.in_ok-checked.ensures.setup);
      rest = rest_more plans place plan below is sizes c.args.many c.in_ok-checked.ensures.sound c.loop-place.invariant.rest;
    }

pub returns-clause-passed : goal.returns-clause-passed
returns-clause-passed c =
    let end : length c.args.plans.items ≤ c.loop-place.place = omega arith in
    all_passed (sizes_of c.args.placement.now.setup) c.args.many c.args.plans.items c.loop-place.place end c.loop-place.invariant.rest
