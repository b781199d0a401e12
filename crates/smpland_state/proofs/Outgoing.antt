-- Messages as they leave a driver.
use Rattle.std.proofs.Common.{◌≡◌, ap, refl}
use Rattle.sm_reservation.specs.declared.stream_id.StreamId.{StreamId}
use Rattle.sm_driver.specs.Driver.{DriverModel, order_number}
use Rattle.sm_driver.specs.Orders.{message_number, net_message, net_publication}
use Rattle.sm_driver.specs.declared.order.StreamMessage.{StreamMessage}
use Rattle.sm_driver.specs.declared.order.StreamMessage.TheVariants as outgoing
use Rattle.smpland_state.specs.Messages.{message_text, notice_by, notice_text, outgoing_text}

-- a message under the number that its stream stands before
pub goes_out : (d : DriverModel) (id : StreamId) (m : StreamMessage) → message_number m ≡ order_number d id → outgoing_text d m ≡ message_text d id (net_message m)
goes_out d id (outgoing.Order o) e = refl
goes_out d id (outgoing.Publication p) e = ap (λ n. notice_text d (notice_by d (net_publication p)) n) e
