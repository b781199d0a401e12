use Rattle.std.proofs.Common.{◌≡◌, ◌∙◌, ◌++◌, [], ap, List, Option, OnOk, subst}
use Rattle.std.specs.Prelude.{IfSome, option_map}
use Rattle.std.specs.Option.{option_map_or}
use Rattle.json.specs.Token.{Token}
use Rattle.sm_driver.specs.Driver.{base, order_number, record_of}
use Rattle.sm_driver.specs.Orders.{message_number, message_of, net_message}
use Rattle.sm_driver.specs.declared.order.StreamMessage.{StreamMessage}
use Rattle.smpland_state.specs.Messages.{message_text}
use Rattle.smpland_state.proofs.Outgoing.{goes_out}
use Rattle.smpland_state.proofs.messages.Messages.write_of.Goals as goal

-- The message goes out under the number that the stream stands before.
pub returns-in-Some : goal.returns-in-Some
returns-in-Some c =
    let d = c.args.self.now.driver.now in
    let id = c.args.stream in
    let m = c.in-Some.message in
    let number = subst (λ (f : Option StreamMessage). IfSome f (λ x. message_number x ≡ order_number d id)) c.in-Some.is c.message.ensures.number in
    let found = subst (λ (f : Option StreamMessage). option_map net_message f ≡ message_of (base d) (record_of d) id) c.in-Some.is c.message.ensures.message in
    subst (λ (ts : List Token). OnOk c.write_message.result (c.write_message.new.writer.tokens ≡ c.args.writer.now.tokens ++ ts))
    (goes_out d id m number ∙ ap (λ o. option_map_or (message_text d id) o []) found) c.write_message.ensures
