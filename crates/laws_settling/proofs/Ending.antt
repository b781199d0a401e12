-- A reopening in which all have told can end: events lead on to a controller that runs plans.
use Rattle.std.proofs.Common.{◌≡◌, ℕ, refl, sym, ap, ◌∙◌, subst, arith, Some, List, [], ◌∷◌, ◌++◌}
use Rattle.std.specs.Prelude.{map}
use Rattle.sm_placement.specs.Setup.{Setup}
use Rattle.laws_network.specs.Fleet.{Fleet}
use Rattle.laws_network.specs.Reopening.{Confirm, Records, Settlement, Settling, SettlingEvent, records, settling_comes, settling_run}
use Rattle.laws_network.specs.ReopeningLaws.{AllTook, EachSettling, IsSettlingReached, MaySettle}
use Rattle.laws_network.specs.ReopeningPlays.{arrive}
use Rattle.laws_reopening.specs.Renumbering.{NumbersMayStay, own_numbers}
use Rattle.laws_reopening.specs.Service.{AllServiceFit, EachService, IsServiceReached, MayOpen, Meets, Opens, Reopens, Runs, Service, ServiceEvent, opened_on, service_comes, service_run}
use Rattle.laws_reopening.specs.ServiceLaws.{CanOpen, IsWithinLaws}
use Rattle.laws_settling.specs.Ending.{CanEnd, CanSettle}
use Rattle.laws_settling.specs.Inheriting.{settlement_told}

-- ---- events of a service

-- events after events
run_append : (es fs : List ServiceEvent) (p : Service) → service_run (es ++ fs) p ≡ service_run fs (service_run es p)
run_append [] fs p = refl
run_append (e ∷ es) fs p = run_append es fs (service_comes p e)

-- what fits after what fits
fits_append : (es fs : List ServiceEvent) (p : Service) → AllServiceFit es p → AllServiceFit fs (service_run es p) → AllServiceFit (es ++ fs) p
fits_append [] fs p a b = b
fits_append (e ∷ es) fs p a b = (a.0, fits_append es fs (service_comes p e) a.1 b)

-- events lead on from what is reached
reached_after : (p : Service) (es : List ServiceEvent) → IsServiceReached p → AllServiceFit es p → IsServiceReached (service_run es p)
reached_after p es r fit = record {
  setup = r.setup;
  first = r.first;
  opening = r.opening;
  events = r.events ++ es;
  fit = fits_append r.events es (Runs r.setup r.first) r.fit (subst (AllServiceFit es) r.state fit);
  state = ap (service_run es) r.state ∙ sym (run_append r.events es (Runs r.setup r.first));
}

-- what happens in a reopening
meets_run : (setup : Setup) (f : Fleet) (es : List SettlingEvent) (x : Settling) → service_run (map Meets es) (Reopens setup f x) ≡ Reopens setup f (settling_run es x)
meets_run setup f [] x = refl
meets_run setup f (e ∷ es) x = meets_run setup f es (settling_comes x e).1

-- any message that was sent may come
arrivals_fit : (setup : Setup) (f : Fleet) (places : List ℕ) (x : Settling) → AllServiceFit (map Meets (arrive places)) (Reopens setup f x)
arrivals_fit setup f [] x = tt
arrivals_fit setup f (k ∷ places) x = (tt, arrivals_fit setup f places (settling_run (arrive (k ∷ [])) x))

-- ---- the end

module _ (stay : NumbersMayStay) (opens : EachService CanOpen) (setup : Setup) (f : Fleet) (x : Settling) (r : IsServiceReached (Reopens setup f x)) (s : Settlement) (may : MaySettle x.reopening x.world.net.w s) (places : List ℕ) where
  abbrev settled : Settling
  settled = settling_run (arrive places) (records x (Confirm s))

  abbrev front : List ServiceEvent
  front = Meets (Records (Confirm s)) ∷ map Meets (arrive places)

  front_fits : AllServiceFit front (Reopens setup f x)
  front_fits = (may, arrivals_fit setup f places (records x (Confirm s)))

  front_run : service_run front (Reopens setup f x) ≡ Reopens setup f settled
  front_run = meets_run setup f (arrive places) (records x (Confirm s))

  module _ (confirmed : settled.reopening.settlement ≡ Some s) (took : AllTook settled.reopening) where
    -- a controller may open on this fleet
    opened : (g : Fleet) × MayOpen setup f settled (own_numbers s.setup) s g
    opened = subst CanOpen front_run (opens (service_run front (Reopens setup f x)) (reached_after (Reopens setup f x) front r front_fits)) s s (own_numbers s.setup) confirmed took (stay s may.opening)

    pub ends : (es : List ServiceEvent) × (g : Fleet) × AllServiceFit es (Reopens setup f x) × (service_run es (Reopens setup f x) ≡ Runs s.setup g)
    ends = (
      front ++ Opens (own_numbers s.setup) s opened.0 ∷ [],
      opened.0,
      fits_append front (Opens (own_numbers s.setup) s opened.0 ∷ []) (Reopens setup f x) front_fits (subst (AllServiceFit (Opens (own_numbers s.setup) s opened.0 ∷ [])) (sym front_run) (opened.1, tt)),
      run_append front (Opens (own_numbers s.setup) s opened.0 ∷ []) (Reopens setup f x) ∙ ap (service_run (Opens (own_numbers s.setup) s opened.0 ∷ [])) front_run ∙ ap (opened_on (Reopens setup f settled) s.setup opened.0) confirmed,
    )

-- so it can end
reopening_ends : NumbersMayStay → EachSettling CanSettle → EachService CanOpen → (setup : Setup) (f : Fleet) (x : Settling) → IsSettlingReached setup x → IsServiceReached (Reopens setup f x) → CanEnd (Reopens setup f x)
reopening_ends stay settles opens setup f x reached r first stand new place =
    let c = settles setup x reached first stand new 0 0 place (omega arith) in
    ends stay opens setup f x r (settlement_told x.reopening new 0 0) c.0 c.1.0 c.1.1 c.1.2

-- and so at each moment of a service
pub can_end : NumbersMayStay → EachSettling CanSettle → EachService CanOpen → EachService IsWithinLaws → EachService CanEnd
can_end stay settles opens within (Runs setup f) r = tt
can_end stay settles opens within (Reopens setup f x) r = reopening_ends stay settles opens setup f x (within (Reopens setup f x) r).1 r
