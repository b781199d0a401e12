-- The shards that streams stand before orders for.
use Rattle.std.proofs.Common.{arith, ap, sym, ◌∙◌, ◌||◌, ℕ, get_or, false}
use Rattle.laws_network.specs.Net.{order_of}
use Rattle.sm_reservation.specs.declared.stream_id.StreamId.{StreamId}
use Rattle.sm_driver.specs.Copies.{is_order_for}
use Rattle.sm_driver.specs.Driver.{base, record_of}
use Rattle.sm_driver.proofs.Marks.{mark_next, marks_all}
use Rattle.sm_driver.proofs.driver.Driver.ordered.Goals as goal

pub loop-id-preserved : goal.loop-id-preserved
loop-id-preserved c =
    let d = c.args.self.now in
    mark_next (λ s id. is_order_for s (order_of (base d) (record_of d) id)) _ c.loop-id.id-index (record_of d).sizes.shards _
    c.loop-id.marks.items c.mark.new.marks.items c.loop-id-test.true c.loop-id.invariant c.mark.ensures.count
    (λ s h. c.mark.ensures.marked s h ∙ ap (λ o. get_or c.loop-id.marks.items s false || is_order_for s o) c.order.ensures)

pub returns : goal.returns
returns c =
    let d = c.args.self.now in
    rw (c.as_slice-id-items.ensures.value, c.in_ok-awaiting.ensures) at (
    marks_all (λ s id. is_order_for s (order_of (base d) (record_of d) id)) c.as_slice-id-items.result.now c.loop-id.id-index (record_of d).sizes.shards
    c.loop-id.marks.items (omega (arith, c.loop-id-test.false)) c.loop-id.invariant)
