-- Events of a service behind events, and turns behind turns.
use Rattle.std.proofs.Common.{◌≡◌, ◌∙◌, ◌++◌, List, [], ◌∷◌, map, refl, sym, ap, subst}
use Rattle.sm_placement.specs.Setup.{Setup}
use Rattle.laws_network.specs.Fleet.{End, Fleet, FleetEvent, Make, Open, fleet_comes, fleet_run}
use Rattle.laws_network.specs.FleetLaws.{AllFleetFit, FleetFits}
use Rattle.laws_driver.specs.Driven.{AllTurnsFit, Driven, IsDrivenReached, Turn, TurnFits, WritesNothing, after_turn, after_turns}
use Rattle.laws_reopening.specs.Service.{AllServiceFit, Goes, IsServiceReached, Runs, Service, ServiceEvent, service_comes, service_run}

-- ---- events

run_append : (es fs : List ServiceEvent) (p : Service) → service_run (es ++ fs) p ≡ service_run fs (service_run es p)
run_append [] fs p = refl
run_append (e ∷ es) fs p = run_append es fs (service_comes p e)

fit_append : (es fs : List ServiceEvent) (p : Service) → AllServiceFit es p → AllServiceFit fs (service_run es p) → AllServiceFit (es ++ fs) p
fit_append [] fs p a b = b
fit_append (e ∷ es) fs p a b = (a.0, fit_append es fs (service_comes p e) a.1 b)

-- events lead on from what is reached
pub service_on : (p : Service) (es : List ServiceEvent) → IsServiceReached p → AllServiceFit es p → IsServiceReached (service_run es p)
service_on p es r fit = record {
  setup = r.setup;
  first = r.first;
  opening = r.opening;
  events = r.events ++ es;
  fit = fit_append r.events es (Runs r.setup r.first) r.fit (subst (AllServiceFit es) r.state fit);
  state = ap (service_run es) r.state ∙ sym (run_append r.events es (Runs r.setup r.first));
}

-- events of the fleet are events of the service
pub all_go : (setup : Setup) (es : List FleetEvent) (f : Fleet) → AllFleetFit setup f es → AllServiceFit (map Goes es) (Runs setup f)
all_go setup [] f fit = tt
all_go setup (e ∷ es) f fit = (fit.0, all_go setup es (fleet_comes f e).1 fit.1)

-- and lead to the fleet that they lead to
pub run_goes : (setup : Setup) (es : List FleetEvent) (f : Fleet) → service_run (map Goes es) (Runs setup f) ≡ Runs setup (fleet_run es f)
run_goes setup [] f = refl
run_goes setup (e ∷ es) f = run_goes setup es (fleet_comes f e).1

-- an event by which the controller writes nothing may always come
pub none_fits : (setup : Setup) (f : Fleet) (e : FleetEvent) → WritesNothing e → FleetFits setup f e
none_fits setup f (Make e) h = absurd h
none_fits setup f (End v permit) h = absurd h
none_fits setup f (Open room) h = absurd h
none_fits setup f e h = tt

-- ---- turns

turns_append : (ts us : List Turn) (x : Driven) → after_turns (ts ++ us) x ≡ after_turns us (after_turns ts x)
turns_append [] us x = refl
turns_append (t ∷ ts) us x = turns_append ts us (after_turn x t)

turns_fit : (ts us : List Turn) (x : Driven) → AllTurnsFit ts x → AllTurnsFit us (after_turns ts x) → AllTurnsFit (ts ++ us) x
turns_fit [] us x a b = b
turns_fit (t ∷ ts) us x a b = (a.0, turns_fit ts us (after_turn x t) a.1 b)

-- one turn more
pub one_more : (x : Driven) (t : Turn) → IsDrivenReached x → TurnFits x t → IsDrivenReached (after_turn x t)
one_more x t r fit = record {
  first = r.first;
  opening = r.opening;
  turns = r.turns ++ t ∷ [];
  fit = turns_fit r.turns (t ∷ []) r.first r.fit (subst (λ y. TurnFits y t) r.state fit, tt);
  state = ap (λ y. after_turn y t) r.state ∙ sym (turns_append r.turns (t ∷ []) r.first);
}
