-- Events that may come: a first driver has a service, each driver can reopen, and one that opens on what was settled has a fleet.
use Rattle.std.proofs.Common.{◌≡◌, ◌∙◌, ℕ, Option, List, refl, sym, ap, subst, []}
use Rattle.sm_protocol.specs.State.{State}
use Rattle.sm_agent.specs.declared.base.Base.{Base as AgentBase}
use Rattle.laws_network.specs.Controller.{Controller}
use Rattle.laws_network.specs.Fleet.{Fleet}
use Rattle.laws_network.specs.FleetLaws.{ArePermits, EachFleet}
use Rattle.laws_network.specs.FleetReopening.{FleetCanReopen, agent_settled}
use Rattle.laws_network.specs.Reopening.{Reopening, Settlement, Settling}
use Rattle.laws_network.specs.ReopeningLaws.{EachSettling}
use Rattle.laws_driver.specs.Control.{IsControllerOf}
use Rattle.laws_driver.specs.DrivenLaws.{DriversOpen, IsJustOpened, OpenedControls}
use Rattle.laws_reopening.specs.Renumbering.{FleetIsThereAs, IsFleetInForceAs, Renumbering}
use Rattle.laws_reopening.specs.Service.{EachService, Reopens as ServiceReopens, Runs}
use Rattle.laws_reopening.specs.ServiceLaws.{IsWithinLaws}
use Rattle.laws_service.specs.Controlled.{AllTook, AreLow, DriverModel, Drives, EachControlled, Settles, base, driver_setup, permits_as}
use Rattle.laws_service.specs.ControlledLaws.{ControlledOpens, DriverCanOpen, DriverCanReopen, IsServiceControlled}

-- the first driver has a service
pub controlled_opens : DriversOpen → ControlledOpens
controlled_opens opens setup p room d opening is fence low =
    let o = opens setup p room d opening is fence in (
      o.0,
      record {
        first = record { driver = d; fleet = o.0 };
        opening = o.1;
        low = subst (λ (w : State). AreLow w.opening.version) (sym is.state) low;
        events = [];
        fit = tt;
        state = refl;
      },
      o.2,
    )

-- a driver that runs plans can reopen
pub driver_can_reopen : EachControlled IsServiceControlled → EachFleet FleetCanReopen → EachService IsWithinLaws → EachControlled DriverCanReopen
driver_can_reopen controlled can within (Settles x ongoing y) r = tt
driver_can_reopen controlled can within (Drives x) r = λ epoch servers lost new later reopening place given.
    let over = can (driver_setup x) x.fleet (within (Runs (driver_setup x) x.fleet) (controlled (Drives x) r).0) in (
      over.world,
      record { reopening = reopening; place = place; epoch = epoch; later = later; number_is = refl; over = over; world_is = refl; given_up = given over.world },
    )

-- ---- a driver opens

module _ (y : Settling) (n : Renumbering) (new : Settlement) (f : Fleet) (force : IsFleetInForceAs y n new f) (d : DriverModel) (c : Controller) (before : List (Option ℕ))
    (is : IsJustOpened new.setup new.place new.room before d) (control : IsControllerOf d c) (restores : c.restores ≡ []) (permits : ArePermits c)
    (base_is : base d ≡ y.reopening.base) (fence_is : d.fence ≡ y.reopening.base) where
  -- the same fleet under the driver's journal
  abbrev under : Fleet
  under = record f {
    start = c;
    servers = λ v. record (f.servers v) { base = record (f.servers v).base { journal = c.journal } };
    owner = agent_settled c.journal y.reopening.base;
  }

  force_under : IsFleetInForceAs y n new under
  force_under = record {
    journal = force.journal;
    record_is = control.recorded ∙ is.state;
    base = control.base ∙ base_is;
    fence = control.fence ∙ fence_is;
    restores = restores;
    permits = permits;
    known = λ v j at h. let t = force.known v j at h in record { taken = t.taken; base = ap (λ (b : AgentBase). record b { journal = c.journal }) t.base; cells = t.cells; lasts = t.lasts; loads = t.loads };
    others = λ v at. let t = force.others v at in record { base = ap (λ (b : AgentBase). record b { journal = c.journal }) t.base; cells = t.cells; lasts = t.lasts; loads = t.loads };
    had = force.had;
    nonces = force.nonces;
    owner = refl;
    shown = force.shown;
    none_shown = force.none_shown;
    sent = force.sent;
    answers = force.answers;
    passes = force.passes;
    published = force.published;
    stored = force.stored;
  }

-- so a driver that opens has a fleet
pub driver_can_open : EachControlled IsServiceControlled → EachService IsWithinLaws → EachSettling FleetIsThereAs → OpenedControls → EachControlled DriverCanOpen
driver_can_open controlled within there opens (Drives x) r = tt
driver_can_open controlled within there opens (Settles x ongoing y) r = λ s new n d settled took renumbered is earlier base_is fence_is low.
    let reached = controlled (Settles x ongoing y) r in
    let under_way = reached.1.1 in
    let at = (within (ServiceReopens (driver_setup x) x.fleet y) reached.0).1 in
    let number = ap (λ (z : Reopening). z.base) under_way.reopening in
    let f = there (driver_setup x) y at s new n (ap (λ (z : Reopening). z.settlement) (sym under_way.reopening) ∙ settled) (subst AllTook under_way.reopening took) renumbered in
    let c = opens new.setup new.place new.room (permits_as n x.driver.permits) d renumbered.opening is earlier in
    let before = permits_as n x.driver.permits in (
      under y n new f.0 f.1 d c.0 before is c.1 c.2 c.3 (base_is ∙ number) (fence_is ∙ number),
      record {
        settlement = s;
        settled = settled;
        took = took;
        renumbered = renumbered;
        opened = is;
        base_is = base_is;
        fence_is = fence_is;
        low = low;
        force = force_under y n new f.0 f.1 d c.0 before is c.1 c.2 c.3 (base_is ∙ number) (fence_is ∙ number);
        control = c.1;
      },
    )
