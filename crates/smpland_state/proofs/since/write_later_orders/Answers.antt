use Rattle.std.proofs.Common.{◌≡◌, ◌∙◌, ◌++◌, List, OnOk, ap, subst}
use Rattle.sm_reservation.specs.declared.stream_id.StreamId.{StreamId}
use Rattle.sm_driver.specs.Driver.{DriverModel}
use Rattle.smpland_state.specs.History.{later_streams}
use Rattle.smpland_state.specs.Messages.{orders_member}
use Rattle.smpland_state.proofs.since.write_later_orders.Goals as goal

-- Those of the streams that wait for answers.
pub returns : goal.returns
returns c =
    let o = c.args.opened.now in
    let before = c.args.writer.now.tokens in
    let ts = c.write_orders.new.writer.tokens in
    let later = c.as_slice.ensures.value ∙ c.keep_later.ensures ∙ ap (later_streams o.history c.args.place) c.in_ok-awaiting.ensures in
    subst (λ (ids : List StreamId). OnOk c.write_orders.result (ts ≡ before ++ orders_member o.driver ids)) later
    (subst (λ (d : DriverModel). OnOk c.write_orders.result (ts ≡ before ++ orders_member d c.as_slice.result.now)) c.messages.ensures c.write_orders.ensures)
