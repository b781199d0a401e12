-- The driver is that of the settlement.
use Rattle.std.proofs.Common.{◌≡◌, ◌∙◌, ℕ, Bool, List, Option, ap, is_some, subst, subst₂, sym, true}
use Rattle.sm_placement.specs.Setup.{IsSetup}
use Rattle.sm_driver.specs.Orders.{epoch_base}
use Rattle.sm_driver.specs.Permits.{AreEarlierPermits}
use Rattle.sm_reopening.specs.Ongoing.{net_reopening}
use Rattle.smpland_reopening.specs.InForce.{IsOpenedOver}
use Rattle.smpland_reopening.specs.Reopening.{IsReopening, ReopeningModel}
use Rattle.smpland_reopening.proofs.InForce.{in_force, kept_earlier, some_of}
use Rattle.smpland_reopening.proofs.reopening.DocumentReopening.put_in_force.Goals as goal

pub driver_over-requires-clause-settled : goal.driver_over-requires-clause-settled
driver_over-requires-clause-settled c =
    let s = some_of _ (subst (λ (r : ReopeningModel). is_some (net_reopening r.ongoing).settlement ≡ true) (sym c.self.view_is) c.requires) in
    (c.self.invariant.next c.in-Some.next s.0 (ap (λ (r : ReopeningModel). r.next) c.self.view_is ∙ sym c.in-Some.ensures.next) s.1).settled

pub driver_over-requires-clause-permits : goal.driver_over-requires-clause-permits
driver_over-requires-clause-permits c =
    subst (λ (r : ReopeningModel). AreEarlierPermits (epoch_base r.epoch) c.deref.result.now) (sym c.self.view_is)
    (kept_earlier c.args.self c.deref.result.now (subst IsReopening c.self.view_is c.self.invariant)
    (subst (λ (r : ReopeningModel). IsSetup r.document.config) c.self.view_is c.server_count.ensures.setup) (c.deref.ensures.value ∙ c.in_ok-permits.ensures))

pub driver_over-requires-clause-room : goal.driver_over-requires-clause-room
driver_over-requires-clause-room c =
    let s = some_of _ (subst (λ (r : ReopeningModel). is_some (net_reopening r.ongoing).settlement ≡ true) (sym c.self.view_is) c.requires) in
    (c.self.invariant.next c.in-Some.next s.0 (ap (λ (r : ReopeningModel). r.next) c.self.view_is ∙ sym c.in-Some.ensures.next) s.1).room

pub driver_over-requires-clause-most : goal.driver_over-requires-clause-most
driver_over-requires-clause-most c =
    let s = some_of _ (subst (λ (r : ReopeningModel). is_some (net_reopening r.ongoing).settlement ≡ true) (sym c.self.view_is) c.requires) in
    (c.self.invariant.next c.in-Some.next s.0 (ap (λ (r : ReopeningModel). r.next) c.self.view_is ∙ sym c.in-Some.ensures.next) s.1).most

pub returns-clause-in_force : goal.returns-clause-in_force
returns-clause-in_force c s e =
    in_force c.args.self s c.in-Some.next c.in_ok-driver-in-Some.driver c.deref.result.now c.deref-in-Some.result.now (subst IsReopening c.self.view_is c.self.invariant) (sym c.in-Some.ensures.next) e
    (c.deref.ensures.value ∙ c.in_ok-permits.ensures) (c.deref-in-Some.ensures.value ∙ c.in_ok-carried.ensures)
    (subst (λ (r : ReopeningModel). IsOpenedOver c.in-Some.next r.document.log r.journal r.epoch c.deref.result.now c.deref-in-Some.result.now c.in_ok-driver-in-Some.driver) c.self.view_is c.in_ok-driver-in-Some.ensures)

pub returns-clause-opened : goal.returns-clause-opened
returns-clause-opened c =
    let r = c.args.self in
    let d = c.in_ok-driver-in-Some.driver in
    let log = r.document.log in
    record {
      placement = c.in-Some.next;
      kept = sym c.in-Some.ensures.next;
      opened_over = subst₂ (λ (ps : List (Option ℕ)) (ms : List Bool). IsOpenedOver c.in-Some.next log r.journal r.epoch ps ms d)
          (c.deref.ensures.value ∙ c.in_ok-permits.ensures) (c.deref-in-Some.ensures.value ∙ c.in_ok-carried.ensures)
          (subst (λ (r : ReopeningModel). IsOpenedOver c.in-Some.next r.document.log r.journal r.epoch c.deref.result.now c.deref-in-Some.result.now d) c.self.view_is c.in_ok-driver-in-Some.ensures);
    }
