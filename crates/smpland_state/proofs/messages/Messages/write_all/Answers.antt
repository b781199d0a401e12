use Rattle.std.proofs.Common.{◌≡◌, ◌∙◌, ◌++◌, List, OnOk, subst}
use Rattle.sm_reservation.specs.declared.stream_id.StreamId.{StreamId}
use Rattle.smpland_state.specs.Messages.{orders_member}
use Rattle.smpland_state.proofs.messages.Messages.write_all.Goals as goal

-- The messages of the streams that wait for answers.
pub returns : goal.returns
returns c =
    subst (λ (ids : List StreamId). OnOk c.write_orders.result (c.write_orders.new.writer.tokens
    ≡ c.args.writer.now.tokens ++ orders_member c.args.self.now.driver.now ids)) (c.as_slice.ensures.value ∙ c.in_ok-awaiting.ensures) c.write_orders.ensures
