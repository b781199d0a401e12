use Rattle.std.proofs.lemmas.Bool.{iff_false}
use Rattle.sm_verifier.proofs.Walks.{order_at_end, stuck_at_end}
use Rattle.sm_verifier.proofs.order.order_of.Goals as goal

pub returns-then-have_ended-clause-order : goal.returns-then-have_ended-clause-order
returns-then-have_ended-clause-order c =
    let ended = rw c.as_slice.ensures.value at c.have_ended.ensures in
    order_at_end c.args.plan.now c.go_on.new.walk c.in_ok-go_on.ensures.walk (ended.0 c.if-have_ended.true)

pub returns-clause-stuck : goal.returns-clause-stuck
returns-clause-stuck c =
    let ended = rw c.as_slice.ensures.value at c.have_ended.ensures in
    stuck_at_end c.args.plan.now c.go_on.new.walk c.in_ok-stops_of.field-0.items c.in_ok-go_on.ensures.walk c.in_ok-go_on.ensures.stuck (iff_false ended c.if-have_ended.false) (rw c.as_slice-2.ensures.value at c.in_ok-stops_of.ensures)
