-- Every event keeps what holds of a driver and its service.
use Rattle.std.proofs.Common.{◌≡◌, ◌≤◌, ◌<◌, ◌+◌, ◌∙◌, ℕ, Bool, true, false, Option, Some, List, [], ◌∷◌, length, map, refl, sym, ap, subst, arith, inl, inr}
use Rattle.std.specs.Prelude.{◌==◌, ◌&&◌, is_some, if◌then◌else◌}
use Rattle.sm_placement.specs.Setup.{Sizes, sizes_of}
use Rattle.sm_protocol.specs.State.{State}
use Rattle.sm_protocol.specs.Laws.{IsReached}
use Rattle.sm_machine.specs.State.{whole_of}
use Rattle.laws_network.specs.Controller.{EPOCH}
use Rattle.laws_network.specs.FleetLaws.{EachFleet, FleetIsReached, IsFleetOpening}
use Rattle.laws_network.specs.Reopening.{Inventory, Party, Reopening, arrives, is_first, put_party}
use Rattle.laws_network.specs.ReopeningLaws.{EachSettling, MaySettle, SettlingFits}
use Rattle.sm_driver.specs.Permits.{permit_of}
use Rattle.laws_driver.specs.Control.{ApproveRestart, BeginPlan, Command, EndRestart, JournalEntry, NoteCopies, OpenEpoch, RestoreServer, TakeAnswer, Writes as WritesEntries}
use Rattle.laws_driver.specs.Driven.{EachDriven, Goes, IsDrivenReached, Takes, with_entries}
use Rattle.laws_driver.specs.DrivenLaws.{CommandsAreEvents, IsFleetDriven}
use Rattle.laws_reopening.specs.Renumbering.{FleetOpensAs, Renumbering}
use Rattle.laws_reopening.specs.Service.{EachService, Goes as ServiceGoes, Begins, IsServiceReached, MayBegin, MayOpen, Meets as ServiceMeets, Opens as ServiceOpens, Reopens as ServiceReopens, Runs, opened_on}
use Rattle.laws_reopening.specs.ServiceLaws.{IsWithinLaws}
use Rattle.sm_reopening.specs.Ongoing.{past_state}
use Rattle.laws_service.specs.Controlled.{AllControlledFit, AllTook, Arrives, AreLow, Comes, Confirm, Controlled, Driven, DriverModel, Drives, EachControlled, Entry, Fleet, Forgets, IsControllerOf, IsDrivenOpening, MayOpenAs, MayReopenAs, MayWriteAs, Meets, ControlledEvent, ControlledFits, OngoingReopening, Opens, Records, Reopen, Reopens, Settlement, Settles, Settling, SettlingEvent, Told, Took, Turn, TurnFits, Turns, World, Writes, WritesNone, controlled_comes, controlled_run, after_turn, base, controller, driver_setup, entered, no_reopening, permits_as, record_of, records, settling_comes, settling_of}
use Rattle.laws_service.specs.ControlledLaws.{IsReopeningOf, IsServiceControlled, VersionsStayBelow}
use Rattle.laws_service.proofs.Lists.{all_go, none_fits, one_more, run_goes, service_on}
use Rattle.laws_service.proofs.Low.{low_stays}
use Rattle.laws_service.proofs.Permits.{permit_was, permits_kept, within_permits}
use Rattle.laws_service.proofs.Stays.{event_stays}
use Rattle.laws_service.proofs.Versions.{AreVersionsRaised, versions_are_raised}

-- the laws that are put together
pub record AreLaws : Type 0 where
  pub controlled : EachDriven IsFleetDriven
  pub events : EachDriven CommandsAreEvents
  pub reached : EachFleet FleetIsReached
  pub opens : EachSettling FleetOpensAs
  pub within : EachService IsWithinLaws

-- Turns lead to the driver and its fleet, events to the service, and versions at the driver's opening are low.
abbrev pub IsHeld : Controlled → Type 0
IsHeld (Drives x) = IsDrivenReached x × IsServiceReached (Runs (driver_setup x) x.fleet) × AreLow (record_of x.driver).opening.version
IsHeld (Settles x ongoing y) =
    IsDrivenReached x × IsServiceReached (ServiceReopens (driver_setup x) x.fleet y) × AreLow (record_of x.driver).opening.version × IsReopeningOf x ongoing y

-- the numbers of the record are those of the configuration
sizes_are : (d : DriverModel) → (record_of d).sizes ≡ sizes_of d.machine.placement.setup
unfolding whole_of
sizes_are d = refl

-- a command leaves the configuration
setup_stays : (command : Command) (old new : DriverModel) (es : List JournalEntry) → WritesEntries command old new es → new.machine.placement.setup ≡ old.machine.placement.setup
setup_stays (BeginPlan plan) old new es h = h.1.journal.setup
setup_stays (TakeAnswer id number) old new es h = h.0.journal.setup
setup_stays (ApproveRestart v) old new es h = h.1.journal.setup
setup_stays (EndRestart permit server_base) old new es h = h.1.journal.setup
setup_stays (RestoreServer v nonce) old new es h = ap (λ (d : DriverModel). d.machine.placement.setup) h.0.told
setup_stays (NoteCopies s copies) old new es h = ap (λ (d : DriverModel). d.machine.placement.setup) h.0
setup_stays OpenEpoch old new es h = h.0.setup

-- ---- what is known of a driver that turns lead to

-- versions of the record are raised by its log alone
raised : AreLaws → (x : Driven) → IsDrivenReached x → AreVersionsRaised (record_of x.driver)
raised laws x r = let is = laws.controlled x r in
    versions_are_raised (driver_setup x) (record_of x.driver) (subst (IsReached (driver_setup x)) is.1.recorded (laws.reached (driver_setup x) x.fleet is.0))

-- so they stay below the length of an epoch
below : AreLaws → (x : Driven) → IsDrivenReached x → AreLow (record_of x.driver).opening.version → (s : ℕ) → (record_of x.driver).place.version s < EPOCH
below laws x r low s = let a = (raised laws x r).raised s in let b = low s in omega arith

-- ---- turns

turn_held : AreLaws → (x : Driven) (t : Turn) → IsHeld (Drives x) → TurnFits x t → IsHeld (Drives (after_turn x t))
turn_held laws x (Goes e) h fits = (
  one_more x (Goes e) h.0 fits,
  service_on (Runs (driver_setup x) x.fleet) (ServiceGoes e ∷ []) h.1 (none_fits (driver_setup x) x.fleet e fits, tt),
  h.2,
)
turn_held laws x (Takes command driver es) h fits =
    let e = laws.events x h.0 command driver es fits in
    let on = service_on (Runs (driver_setup x) x.fleet) (map ServiceGoes e.0) h.1 (all_go (driver_setup x) e.0 x.fleet e.1) in (
      one_more x (Takes command driver es) h.0 fits,
      subst IsServiceReached
          (run_goes (driver_setup x) e.0 x.fleet ∙ ap (Runs (driver_setup x)) e.2 ∙ ap (λ s. Runs s (with_entries x.fleet es)) (sym (setup_stays command x.driver driver es fits.1))) on,
      low_stays command x.driver driver es (raised laws x h.0) h.2 fits.1,
    )

-- ---- a reopening begins

module _ (laws : AreLaws) (x : Driven) (world : World) (number servers : ℕ) (lost : ℕ → Bool) (new : OngoingReopening) (h : IsHeld (Drives x)) (m : MayReopenAs x world number servers lost new) where
  is : IsControllerOf x.driver (controller x.fleet)
  is = (laws.controlled x h.0).1

  record_there : world.net.w ≡ record_of x.driver
  record_there = sym (ap (λ (w : World). w.net.w) m.world_is) ∙ m.over.record_is ∙ is.recorded

  base_there : world.net.base ≡ base x.driver
  base_there = sym (ap (λ (w : World). w.net.base) m.world_is) ∙ m.over.base ∙ is.base

  above : base x.driver + EPOCH ≤ number
  above = let l = m.later in let n = m.number_is in omega arith

  may_begin : MayBegin (driver_setup x) x.fleet world number lost
  may_begin = record {
    over = m.over;
    world_is = m.world_is;
    may = record {
      later = let a = above in omega arith;
      places = let a = above in let b = base_there in omega arith;
      versions = λ s. let a = above in let b = base_there in let v = ap (λ (w : State). w.place.version s) record_there in let l = below laws x h.0 h.2 s in omega arith;
      given_up = m.given_up;
    };
  }

  servers_are : length (driver_setup x).servers ≡ (controller x.fleet).w.sizes.servers
  servers_are = sym (ap (λ (w : State). w.sizes.servers) is.recorded ∙ ap (λ (s : Sizes). s.servers) (sizes_are x.driver))

  reopen_held : IsHeld (Settles x new (records (settling_of x.fleet world) (Reopen number servers lost)))
  reopen_held = (
    h.0,
    service_on (Runs (driver_setup x) x.fleet) (Begins world number servers lost ∷ []) h.1 (may_begin, tt),
    h.2,
    record {
      reopening = m.reopening ∙ ap (λ n. entered (Reopen number servers lost) (no_reopening n)) servers_are;
      record_is = record_there;
      place = m.place;
      base_is = base_there;
      later = above;
    },
  )

-- ---- it goes on

event_fits : (y : Settling) (e : SettlingEvent) → WritesNone y e → SettlingFits y e
event_fits y (Records e) h = absurd h
event_fits y (Comes e) h = tt
event_fits y (Arrives k reached) h = tt
event_fits y (Forgets v) h = tt

meet_held : (x : Driven) (ongoing : OngoingReopening) (y : Settling) (e : SettlingEvent) → IsHeld (Settles x ongoing y) → WritesNone y e → IsHeld (Settles x ongoing (settling_comes y e).1)
meet_held x ongoing y e h none = let stays = event_stays y e none in let r = h.3 in (
  h.0,
  service_on (ServiceReopens (driver_setup x) x.fleet y) (ServiceMeets e ∷ []) h.1 (event_fits y e none, tt),
  h.2,
  record {
    reopening = r.reopening ∙ sym stays.reopening;
    record_is = stays.record_is ∙ r.record_is;
    place = r.place;
    base_is = stays.base ∙ r.base_is;
    later = subst (λ (z : Reopening). base x.driver + EPOCH ≤ z.base) (sym stays.reopening) r.later;
  },
)

-- of what is recorded, a settlement depends on the cells and on who is down
settles_alike : (r : Reopening) (w : State) (s : Settlement) (v : State) → w.place.cells ≡ v.place.cells → w.place.down ≡ v.place.down → MaySettle r w s → MaySettle r v s
settles_alike r w s v cells down m = by (subst (λ f. MaySettle r (record w { place = record w.place { cells = v.place.cells; down = f } }) s) down
    (subst (λ f. MaySettle r (record w { place = record w.place { cells = f } }) s) cells m))
  where
    by : MaySettle r (record w { place = record w.place { cells = v.place.cells; down = v.place.down } }) s → MaySettle r v s
    by n = record {
      first = n.first;
      opening = n.opening;
      servers = n.servers;
      map = n.map;
      answered = n.answered;
      kept = n.kept;
      carried = n.carried;
      down = n.down;
      lost = n.lost;
      claims = n.claims;
      handed = n.handed;
    }

-- an answer leaves the number
told_base : (r : Reopening) (b : Bool) (told : Party → Option Inventory) → (if b then record r { told = told } else r).base ≡ r.base
told_base r true told = refl
told_base r false told = refl

taken_base : (r : Reopening) (b : Bool) (settled : Party → Bool) → (if b then record r { settled = settled } else r).base ≡ r.base
taken_base r true settled = refl
taken_base r false settled = refl

module _ (laws : AreLaws) (x : Driven) (ongoing : OngoingReopening) (y : Settling) (h : IsHeld (Settles x ongoing y)) where
  under : IsReopeningOf x ongoing y
  under = h.3

  -- an entry is that of an event
  record IsEventOf (entry : Entry) : Type 0 where
    pub event : SettlingEvent
    pub fits : SettlingFits y event
    pub comes : (settling_comes y event).1 ≡ records y entry

  event_of : (entry : Entry) (new : OngoingReopening) → MayWriteAs ongoing y entry new → IsEventOf entry
  event_of (Reopen number servers lost) new m = record {
    event = Records (Reopen number servers lost);
    fits = let l : y.reopening.base < number = subst (λ (r : Reopening). r.base < number) under.reopening m.may in let a = under.later in let b = under.base_is in record {
      later = l;
      places = omega arith;
      versions = λ s. let v = ap (λ (w : State). w.place.version s) under.record_is in let low = below laws x h.0 h.2 s in omega arith;
      given_up = m.truth;
    };
    comes = refl;
  }
  event_of (Told p number inventory) new m = record { event = Arrives m.truth.0 (λ s. false); fits = tt; comes = ap (arrives y (λ s. false)) m.truth.1 }
  event_of (Confirm s) new m = record {
    event = Records (Confirm s);
    fits = settles_alike y.reopening (past_state ongoing) s y.world.net.w
        (ap (λ p. p.cells) under.place ∙ ap (λ (w : State). w.place.cells) (sym under.record_is))
        (ap (λ p. p.down) under.place ∙ ap (λ (w : State). w.place.down) (sym under.record_is))
        (subst (λ r. MaySettle r (past_state ongoing) s) under.reopening m.may.allowed);
    comes = refl;
  }
  event_of (Took p number) new m = record { event = Arrives m.truth.0 (λ s. false); fits = tt; comes = ap (arrives y (λ s. false)) m.truth.1 }

  -- numbers of reopenings rise
  above_stays : (entry : Entry) (new : OngoingReopening) → MayWriteAs ongoing y entry new → base x.driver + EPOCH ≤ (entered entry y.reopening).base
  above_stays (Reopen number servers lost) new m = let l : y.reopening.base < number = subst (λ (r : Reopening). r.base < number) under.reopening m.may in let a = under.later in omega arith
  above_stays (Told p number inventory) new m =
      subst (λ n. base x.driver + EPOCH ≤ n) (sym (told_base y.reopening (is_first y.reopening p number) (put_party y.reopening.told p (Some inventory)))) under.later
  above_stays (Confirm s) new m = under.later
  above_stays (Took p number) new m =
      subst (λ n. base x.driver + EPOCH ≤ n) (sym (taken_base y.reopening (number == y.reopening.base && is_some y.reopening.settlement) (put_party y.reopening.settled p true))) under.later

  write_held : (entry : Entry) (new : OngoingReopening) → MayWriteAs ongoing y entry new → IsHeld (Settles x new (records y entry))
  write_held entry new m = let e = event_of entry new m in (
    h.0,
    subst (λ z. IsServiceReached (ServiceReopens (driver_setup x) x.fleet z)) e.comes
        (service_on (ServiceReopens (driver_setup x) x.fleet y) (ServiceMeets e.event ∷ []) h.1 (e.fits, tt)),
    h.2,
    record {
      reopening = m.reopening ∙ ap (entered entry) under.reopening;
      record_is = under.record_is;
      place = m.place ∙ under.place;
      base_is = under.base_is;
      later = above_stays entry new m;
    },
  )

  -- ---- a driver opens

  module _ (numbers : Renumbering) (opening : Settlement) (driver : DriverModel) (fleet : Fleet) (m : MayOpenAs x ongoing y numbers opening driver fleet) where
    settled : y.reopening.settlement ≡ Some m.settlement
    settled = ap (λ (r : Reopening). r.settlement) (sym under.reopening) ∙ m.settled

    took : AllTook y.reopening
    took = subst AllTook under.reopening m.took

    control_was : IsControllerOf x.driver (controller x.fleet)
    control_was = (laws.controlled x h.0).1

    may_open : MayOpen (driver_setup x) x.fleet y numbers opening fleet
    may_open = record {
      settlement = m.settlement;
      settled = settled;
      took = took;
      renumbered = m.renumbered;
      opens = m.force;
      permits = λ v permit e. elim (permits_kept (base driver) (permits_as numbers x.driver.permits) (length opening.setup.servers) opening.place.down v permit
          (ap (λ ps. permit_of ps v) (sym m.opened.permits) ∙ sym (m.control.permits v) ∙ e)) [
            | inl kept ↦ inl (let old = permit_was x.driver.permits numbers.servers v permit kept in (
              old.0,
              old.1,
              subst (λ n. old.0 < n) (control_was.servers ∙ ap (λ (s : Sizes). s.servers) (sizes_are x.driver)) (within_permits x.driver.permits old.0 permit old.2),
              control_was.permits old.0 ∙ old.2,
            ))
            | inr given ↦ inr (let b = m.base_is in let r = ap (λ (r : Reopening). r.base) under.reopening in omega arith)
          ];
    }

    opening_there : IsDrivenOpening (record { driver = driver; fleet = fleet })
    opening_there = record {
      fleet = subst (λ c. IsFleetOpening c fleet) (sym m.opened.setup)
          (laws.opens (driver_setup x) y (laws.within (ServiceReopens (driver_setup x) x.fleet y) h.1).1 m.settlement opening numbers fleet settled took m.renumbered m.force);
      control = m.control;
    }

    open_held : IsHeld (Drives (record { driver = driver; fleet = fleet }))
    open_held = (
      record { first = record { driver = driver; fleet = fleet }; opening = opening_there; turns = []; fit = tt; state = refl },
      subst IsServiceReached (ap (opened_on (ServiceReopens (driver_setup x) x.fleet y) opening.setup fleet) settled ∙ ap (λ c. Runs c fleet) (sym m.opened.setup))
          (service_on (ServiceReopens (driver_setup x) x.fleet y) (ServiceOpens numbers opening fleet ∷ []) h.1 (may_open, tt)),
      subst (λ (w : State). AreLow w.opening.version) (sym m.opened.state) m.low,
    )

-- ---- all events

comes_held : AreLaws → (c : Controlled) (m : ControlledEvent) → IsHeld c → ControlledFits c m → IsHeld (controlled_comes c m)
comes_held laws (Drives x) (Turns t) h fits = turn_held laws x t h fits
comes_held laws (Drives x) (Reopens world number servers lost new) h fits = reopen_held laws x world number servers lost new h fits
comes_held laws (Drives x) (Meets e) h fits = absurd fits
comes_held laws (Drives x) (Writes entry new) h fits = absurd fits
comes_held laws (Drives x) (Opens numbers opening driver fleet) h fits = absurd fits
comes_held laws (Settles x ongoing y) (Meets e) h fits = meet_held x ongoing y e h fits
comes_held laws (Settles x ongoing y) (Writes entry new) h fits = write_held laws x ongoing y h entry new fits
comes_held laws (Settles x ongoing y) (Opens numbers opening driver fleet) h fits = open_held laws x ongoing y h numbers opening driver fleet fits
comes_held laws (Settles x ongoing y) (Turns t) h fits = absurd fits
comes_held laws (Settles x ongoing y) (Reopens world number servers lost new) h fits = absurd fits

run_held : AreLaws → (ms : List ControlledEvent) (c : Controlled) → IsHeld c → AllControlledFit ms c → IsHeld (controlled_run ms c)
run_held laws [] c h fit = h
run_held laws (m ∷ ms) c h fit = run_held laws ms (controlled_comes c m) (comes_held laws c m h fit.0) fit.1

-- so it holds wherever events lead
held : AreLaws → EachControlled IsHeld
held laws c r = subst IsHeld (sym r.state) (run_held laws r.events (Drives r.first) (
  record { first = r.first; opening = r.opening; turns = []; fit = tt; state = refl },
  record { setup = driver_setup r.first; first = r.first.fleet; opening = r.opening.fleet; events = []; fit = tt; state = refl },
  r.low,
) r.fit)

-- ---- the laws

-- the driver is the controller of its service
pub service_is_controlled : AreLaws → EachControlled IsServiceControlled
service_is_controlled laws c r = go c (held laws c r)
  where
    go : (c : Controlled) → IsHeld c → IsServiceControlled c
    go (Drives x) h = (h.1, ((laws.controlled x h.0).1, h.0))
    go (Settles x ongoing y) h = (h.1, ((laws.controlled x h.0).1, h.3))

-- versions stay below the length of an epoch
pub versions_stay_below : AreLaws → EachControlled VersionsStayBelow
versions_stay_below laws c r = go c (held laws c r)
  where
    go : (c : Controlled) → IsHeld c → VersionsStayBelow c
    go (Drives x) h = below laws x h.0 h.2
    go (Settles x ongoing y) h = below laws x h.0 h.2
