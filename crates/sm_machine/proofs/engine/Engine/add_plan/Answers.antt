-- A plan is begun.
use Rattle.sm_machine.specs.contracts.engine.Engine.{the_view}
use Rattle.sm_machine.proofs.Added.{begun_from, filled_unstepped}
use Rattle.sm_machine.proofs.Since.{since_more}
use Rattle.sm_machine.proofs.Writes.{unfinished_is}
use Rattle.sm_machine.proofs.Unfinished.{one_more}
use Rattle.std.proofs.Common.{ap, length, arith, sym, refl, ◌∙◌}
use Rattle.std.specs.Prelude.{nat_lt}
use Rattle.sm_plan_code.specs.Plan.{PlanModel}
use Rattle.sm_verifier.specs.Checked.{CheckedModel}
use Rattle.sm_machine.specs.Begun.{BegunModel}
use Rattle.sm_machine.proofs.engine.Engine.add_plan.Goals as goal

pub returns-clause-begun : goal.returns-clause-begun
returns-clause-begun c =
    begun_from (the_view c.self.inside) c.args.self.now c.self.view_is c.args.ready c.into_begun-begun.result.0 c.fill.new.self c.fill.new.pool c.len-since.result c.push.new.self
    c.into_begun-begun.ensures.begun c.len-since.ensures.count c.fill.ensures.others c.fill.ensures.filled c.fill.ensures.taken c.push.ensures

pub add_number-requires : goal.add_number-requires
add_number-requires c =
    let is = ap length (unfinished_is (the_view c.self.inside) c.args.self.now c.self.inside.unfinished.items c.self.view_is c.self.invariant.6) in
    let few = c.requires.place in
    let places = c.self.invariant.7 in
    omega arith

pub invariant_of-self : goal.invariant_of-self
invariant_of-self c =
    let streams = ap length (c.streams-streams.ensures.value ∙ ap (λ (p : PlanModel). p.streams) (c.plan.ensures.value ∙ ap (λ (p : CheckedModel). p.plan) c.checked.ensures.value)) in
    let plans = one_more c.self.inside.plans c.push.new.self c.into_begun-begun.result.0 c.fill.new.self (nat_lt 0 (length c.streams-streams.result.now)) c.len-number.result (length c.streams-streams.result.now)
    c.self.inside.unfinished.items c.add_number.new.numbers.items c.push.ensures c.fill.ensures.others (ap (λ (n : BegunModel). n.unfinished) c.into_begun-begun.ensures.begun ∙ sym streams)
    c.len-number.ensures refl c.add_number.ensures.items c.self.invariant.6 in
    let places = c.self.invariant.7 in
    let more = c.add_number.ensures.capacity in
    let since = since_more c.self.inside.plans c.push.new.self c.fill.new.self (the_view c.self.inside).journal.log c.push.ensures
    (filled_unstepped c.args.ready c.into_begun-begun.result.0 c.fill.new.self c.len-since.result c.into_begun-begun.ensures.begun c.fill.ensures.filled) c.self.invariant.8 in
    (c.self.invariant.0, c.self.invariant.1, c.self.invariant.2, c.self.invariant.3, c.fill.ensures.size.shards ∙ c.self.invariant.4, c.fill.ensures.size.servers ∙ c.self.invariant.5, plans, omega arith, since, c.self.invariant.9)
