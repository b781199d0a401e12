-- The fleet's controller sends exactly the driver's messages.
use Rattle.std.proofs.Common.{◌∙◌, ◌++◌, Option, ap}
use Rattle.std.specs.Prelude.{option_map}
use Rattle.std.specs.Option.{option_to_list}
use Rattle.sm_placement.specs.Setup.{Sizes}
use Rattle.laws_network.specs.Controller.{Letter, Notice, letter_of, notice_of, order_of}
use Rattle.laws_network.specs.Fleet.{controller}
use Rattle.sm_driver.specs.Driver.{base, record_of}
use Rattle.laws_driver.specs.Driven.{EachDriven}
use Rattle.laws_driver.specs.DrivenLaws.{IsFleetDriven, SendsAsDriven}
use Rattle.laws_driver.proofs.Controls.{is_that, sizes_are}

-- by the controller that the driver is
pub sends_as_driven : EachDriven IsFleetDriven → EachDriven SendsAsDriven
sends_as_driven driven x reached =
    let d = x.driver in
    let that = is_that d (controller x.fleet) (driven x reached).1 in
    record {
      orders = λ id. ap (λ (l : Option Letter). record x.fleet { sent = x.fleet.sent ++ option_to_list l })
          (ap (λ c. letter_of c id) that
          ∙ ap (λ (s : Sizes). option_map (λ o. record { order = o; journal = d.journal; fence = d.fence; load = s.load o.call.shard; room = s.room o.call.server }) (order_of (base d) (record_of d) id)) (sizes_are d));
      publications = λ id. ap (λ (n : Option Notice). record x.fleet { published = x.fleet.published ++ option_to_list n }) (ap (λ c. notice_of c id) that);
    }
