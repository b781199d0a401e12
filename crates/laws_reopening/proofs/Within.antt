-- The service is always at a fleet that events of the fleet lead to, or in a reopening that events lead to.
use Rattle.std.proofs.Common.{◌≡◌, ℕ, refl, sym, ap, ◌∙◌, subst, Bool, List, [], ◌∷◌, ◌++◌}
use Rattle.sm_placement.specs.Setup.{Setup}
use Rattle.laws_network.specs.World.{World}
use Rattle.laws_network.specs.Fleet.{Fleet, FleetEvent, fleet_comes, fleet_run}
use Rattle.laws_network.specs.FleetLaws.{AllFleetFit, EachFleet, ExecutesAtOneServer, FleetIsSafe, IsFleetOpening, IsFleetReached, MapIsRight, NoLetterIsRefused, SomeFleetCanGoOn}
use Rattle.laws_network.specs.Reopening.{Reopen, records}
use Rattle.laws_network.specs.ReopeningLaws.{EachSettling, ExecutesSafely, IsOutset, IsSettlingReached, LoadsFit, RefusesNone, ShownExecutes}
use Rattle.laws_network.specs.FleetReopening.{settling_of}
use Rattle.laws_reopening.specs.Floors.{FloorsStay}
use Rattle.laws_reopening.specs.FloorsBegun.{FloorsRemain}
use Rattle.laws_reopening.specs.Renumbering.{FleetIsThereAs, FleetOpensAs}
use Rattle.laws_reopening.specs.Service.{AllServiceFit, Begins, EachService, Goes, MayBegin, Meets, Opens, Reopens, Runs, Service, ServiceEvent, ServiceFits, opened_on, service_comes, service_run}
use Rattle.laws_reopening.specs.ServiceLaws.{CanOpen, IsWithinLaws, ServiceIsSafe}
use Rattle.laws_reopening.proofs.Kept.{reached_on}

-- ---- the fleet

-- events after events
pub run_append : (es fs : List FleetEvent) (f : Fleet) → fleet_run (es ++ fs) f ≡ fleet_run fs (fleet_run es f)
run_append [] fs f = refl
run_append (e ∷ es) fs f = run_append es fs (fleet_comes f e).1

-- what fits after what fits
pub fits_append : (setup : Setup) (es fs : List FleetEvent) (f : Fleet) → AllFleetFit setup f es → AllFleetFit setup (fleet_run es f) fs → AllFleetFit setup f (es ++ fs)
fits_append setup [] fs f a b = b
fits_append setup (e ∷ es) fs f a b = (a.0, fits_append setup es fs (fleet_comes f e).1 a.1 b)

-- events lead on from what is reached
pub fleet_on : (setup : Setup) (f : Fleet) (es : List FleetEvent) → IsFleetReached setup f → AllFleetFit setup f es → IsFleetReached setup (fleet_run es f)
fleet_on setup f es r fit = record {
  first = r.first;
  opening = r.opening;
  events = r.events ++ es;
  fit = fits_append setup r.events es r.first r.fit (subst (λ g. AllFleetFit setup g es) r.state fit);
  state = ap (fleet_run es) r.state ∙ sym (run_append r.events es r.first);
}

-- an opening is reached
pub opening_reached : (setup : Setup) (f : Fleet) → IsFleetOpening setup f → IsFleetReached setup f
opening_reached setup f o = record { first = f; opening = o; events = []; fit = tt; state = refl }

-- ---- reopenings

-- a reopening begins
pub begun_reached : (setup : Setup) (f : Fleet) (world : World) (base servers : ℕ) (lost : ℕ → Bool) → MayBegin setup f world base lost → IsSettlingReached setup (records (settling_of f world) (Reopen base servers lost))
begun_reached setup f world base servers lost m = record {
  start = settling_of f world;
  outset = subst (λ w. IsOutset setup (settling_of f w)) m.world_is m.over.outset;
  base = base;
  servers = servers;
  lost = lost;
  begun = m.may;
  events = [];
  fit = tt;
  state = refl;
}

-- ---- all events

-- an event leads on within the laws
pub within_next : EachSettling FleetOpensAs → (p : Service) (e : ServiceEvent) → ServiceFits p e → IsWithinLaws p → IsWithinLaws (service_comes p e)
within_next opens (Runs setup f) (Goes e) fits w = fleet_on setup f (e ∷ []) w (fits, tt)
within_next opens (Runs setup f) (Begins world base servers lost) fits w = (w, begun_reached setup f world base servers lost fits)
within_next opens (Runs setup f) (Meets e) fits w = w
within_next opens (Runs setup f) (Opens n new fleet) fits w = w
within_next opens (Reopens setup f x) (Goes e) fits w = w
within_next opens (Reopens setup f x) (Begins world base servers lost) fits w = w
within_next opens (Reopens setup f x) (Meets e) fits w = (w.0, reached_on setup x (e ∷ []) w.1 (fits, tt))
within_next opens (Reopens setup f x) (Opens n new fleet) fits w = subst (λ o. IsWithinLaws (opened_on (Reopens setup f x) new.setup fleet o)) (sym fits.settled)
    (opening_reached new.setup fleet (opens setup x w.1 fits.settlement new n fleet fits.settled fits.took fits.renumbered fits.opens))

pub within_run : EachSettling FleetOpensAs → (es : List ServiceEvent) (p : Service) → AllServiceFit es p → IsWithinLaws p → IsWithinLaws (service_run es p)
within_run opens [] p fit w = w
within_run opens (e ∷ es) p fit w = within_run opens es (service_comes p e) fit.1 (within_next opens p e fit.0 w)

-- it is always within the laws
pub within_laws : EachSettling FleetOpensAs → EachService IsWithinLaws
within_laws opens p r = subst IsWithinLaws (sym r.state) (within_run opens r.events (Runs r.setup r.first) r.fit (opening_reached r.setup r.first r.opening))

-- so a controller can open on the fleet that is there
pub can_open : EachService IsWithinLaws → EachSettling FleetIsThereAs → EachService CanOpen
can_open within fleets (Runs setup f) reached = tt
can_open within fleets (Reopens setup f x) reached = λ s new n settled took renumbered.
    let g = fleets setup x (within (Reopens setup f x) reached).1 s new n settled took renumbered in (
      g.0,
      record { settlement = s; settled = settled; took = took; renumbered = renumbered; opens = g.1; permits = λ v permit h. absurd (let z = sym (g.2 v) ∙ h in cc) },
    )

-- ---- so it is safe

-- the laws that are put together
pub record AreLaws : Type 0 where
  pub safe : EachFleet FleetIsSafe
  pub executes : EachFleet ExecutesAtOneServer
  pub refuses : EachFleet NoLetterIsRefused
  pub shown : EachFleet MapIsRight
  pub goes_on : EachFleet SomeFleetCanGoOn
  pub loads : EachSettling LoadsFit
  pub floors_before : EachSettling FloorsRemain
  pub floors : EachSettling FloorsStay
  pub settling_executes : EachSettling ExecutesSafely
  pub settling_refuses : EachSettling RefusesNone
  pub settling_shows : EachSettling ShownExecutes

safe_where : AreLaws → (p : Service) → IsWithinLaws p → ServiceIsSafe p
safe_where l (Runs setup f) w = record { safe = l.safe setup f w; executes = l.executes setup f w; refuses = l.refuses setup f w; shown = l.shown setup f w; goes_on = l.goes_on setup f w }
safe_where l (Reopens setup f x) w = record { loads = l.loads setup x w.1; floors_before = l.floors_before setup x w.1; floors = l.floors setup x w.1; executes = l.settling_executes setup x w.1; refuses = l.settling_refuses setup x w.1; shown = l.settling_shows setup x w.1 }

-- so the service is safe
pub service_is_safe : EachSettling FleetOpensAs → AreLaws → EachService ServiceIsSafe
service_is_safe opens l p r = safe_where l p (within_laws opens p r)
