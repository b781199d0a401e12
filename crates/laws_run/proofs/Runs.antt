-- Wherever moments lead, the driver is the controller of a fleet that events lead to.
use Rattle.std.proofs.Common.{◌≡◌, ◌∙◌, ◌∷◌, [], Option, Some, List, sym, ap, subst}
use Rattle.std.specs.Prelude.{length, map}
use Rattle.std.specs.List.{range_with_len}
use Rattle.sm_placement.specs.Setup.{Setup}
use Rattle.sm_protocol.specs.State.{State}
use Rattle.laws_network.specs.Controller.{Controller}
use Rattle.laws_network.specs.Fleet.{controller}
use Rattle.laws_network.specs.FleetLaws.{EachFleet, FleetIsReached, IsFleetReached}
use Rattle.sm_driver.specs.Alike.{AreAlike}
use Rattle.sm_driver.specs.Driver.{DriverModel}
use Rattle.sm_driver.specs.Orders.{epoch_base}
use Rattle.sm_driver.specs.Permits.{permit_of}
use Rattle.sm_driver.specs.Restores.{RestoreModel, restore_at}
use Rattle.laws_driver.specs.Control.{IsControllerOf, IsTold}
use Rattle.laws_driver.specs.ControlLaws.{AnswersHaveEntries}
use Rattle.laws_driver.specs.Driven.{Driven, Goes, Takes}
use Rattle.laws_driver.specs.DrivenLaws.{FleetDrivenIsSafe, IsFleetDriven}
use Rattle.laws_driver.proofs.Turns.{opening_is, turn_is}
use Rattle.smpland_session.specs.Changes.{driver_of}
use Rattle.smpland_session.specs.declared.session.Session.{Session}
use Rattle.laws_session.specs.Alike.{AreDriversAlike, AreSessionsAlike}
use Rattle.laws_session.specs.Replays.{ReplaysAgree}
use Rattle.laws_run.specs.RunLaws.{IsRunSafe, LinesGoOn}
use Rattle.laws_run.specs.Runs.{AllMomentsFit, EachRun, Happens, Hears, IsOpenWith, IsRecovered, Moment, MomentFits, Recovers, Run, after_moment, after_moments}
use Rattle.laws_run.proofs.Lines.{goes_on}

-- ---- a driver in another's place

-- the drivers of sessions that are alike
drivers_alike : (o p : Option DriverModel) (d e : DriverModel) → AreDriversAlike o p → o ≡ Some d → p ≡ Some e → AreAlike d e
drivers_alike o p d e alike f g = subst (AreDriversAlike (Some d)) g (subst (λ x. AreDriversAlike x p) f alike)

-- a session that is recovered is alike
recovered_alike : ReplaysAgree → (old new : Session) → IsRecovered old new → AreSessionsAlike old new
recovered_alike agree old new r = agree r.first r.again r.first_is r.again_is r.entries old new r.took r.takes

-- what a server was told
told_alike : (d e : DriverModel) (c : Controller) (told : RestoreModel) → AreAlike d e → IsTold d c told → IsTold e c told
told_alike d e c told alike is = record {
  place = is.place;
  given = is.given;
  among = is.among;
  restoration = is.restoration
      ∙ ap (λ j. record { journal = j; fence = d.fence; number = told.number; nonce = told.nonce }) (sym alike.journal)
      ∙ ap (λ f. record { journal = e.journal; fence = f; number = told.number; nonce = told.nonce }) (sym alike.fence);
  cells = is.cells ∙ ap (λ (w : State). map is.given.cells (range_with_len 0 w.sizes.shards)) (sym alike.recorded);
}

-- the controller
control_alike : (d e : DriverModel) (c : Controller) → AreAlike d e → IsControllerOf d c → IsControllerOf e c
control_alike d e c alike is = record {
  journal = is.journal ∙ sym alike.journal;
  fence = is.fence ∙ sym alike.fence;
  base = is.base ∙ ap epoch_base (sym alike.epoch);
  recorded = is.recorded ∙ sym alike.recorded;
  servers = ap length alike.permits ∙ is.servers ∙ ap (λ (w : State). w.sizes.servers) (sym alike.recorded);
  permits = λ v. is.permits v ∙ ap (λ ps. permit_of ps v) (sym alike.permits);
  restores = λ v told q. told_alike d e c told alike (is.restores v told (ap (λ rs. restore_at rs v) (sym alike.restores) ∙ q));
}

driven_alike : (x : Driven) (e : DriverModel) → AreAlike x.driver e → IsFleetDriven x → IsFleetDriven (record x { driver = e })
driven_alike x e alike is = (subst (λ (s : Setup). IsFleetReached s x.fleet) (sym alike.setup) is.0, control_alike x.driver e (controller x.fleet) alike is.1)

-- ---- moments

-- The journal of the driver is open, and the driver is the controller of a fleet that events lead to.
pub record IsUnder (x : Run) : Type 0 where
  pub open_with : IsOpenWith x.driven.driver x.session
  pub driven : IsFleetDriven x.driven

module _ (laws : EachFleet FleetIsReached) (agree : ReplaysAgree) where
  -- a moment leads on
  pub moment_under : (x : Run) (m : Moment) → IsUnder x → MomentFits x m → IsUnder (after_moment x m)
  moment_under x (Happens e) u fit = record { open_with = u.open_with; driven = turn_is laws x.driven (Goes e) u.driven fit }
  moment_under x (Recovers session driver) u fit = record {
    open_with = fit.1;
    driven = driven_alike x.driven driver
        (drivers_alike (driver_of x.session.opened) (driver_of session.opened) x.driven.driver driver (recovered_alike agree x.session session fit.0).drivers u.open_with.0 fit.1.0) u.driven;
  }
  moment_under x (Hears line command session driver es) u fit =
      record { open_with = fit.open_with; driven = turn_is laws x.driven (Takes command driver es) u.driven fit.writes }

  pub moments_under : (ms : List Moment) (x : Run) → IsUnder x → AllMomentsFit ms x → IsUnder (after_moments ms x)
  moments_under [] x u fit = u
  moments_under (m ∷ ms) x u fit = moments_under ms (after_moment x m) (moment_under x m u fit.0) fit.1

  -- so it is in each run
  pub under : EachRun IsUnder
  under x r = subst IsUnder (sym r.state)
      (moments_under r.moments r.first (record { open_with = r.opening.open_with; driven = opening_is r.first.driven r.opening.driven }) r.fit)

  -- so all laws of the fleet hold
  pub run_is_safe : FleetDrivenIsSafe → EachRun IsRunSafe
  run_is_safe safe x r = let u = under x r in record { open_with = u.open_with; driven = u.driven; safe = safe x.driven u.driven }

  -- and lines go on
  pub lines_go_on : AnswersHaveEntries → EachRun LinesGoOn
  lines_go_on answers x r = let u = under x r in goes_on answers x u.open_with.0 u.open_with.1
