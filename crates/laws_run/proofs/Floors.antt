-- If servers lose their slots only while they are down, and lines are true, only servers that are down have lost theirs.
use Rattle.std.proofs.Common.{◌≡◌, ◌⊎◌, ◌∙◌, ◌∷◌, ◌++◌, [], ℕ, true, false, Some, None, List, inl, inr, map, sym, ap, subst}
use Rattle.std.specs.Prelude.{reverse}
use Rattle.std.specs.List.{AllByRecursion}
use Rattle.sm_reservation.specs.declared.stream_id.StreamId.{StreamId}
use Rattle.sm_protocol.specs.Happens.{Step}
use Rattle.laws_network.specs.Words.{Begin}
use Rattle.laws_network.specs.Controller.{Answered, Ended, JournalEntry, Made, Opened, Restored, Stored, is_permitted}
use Rattle.laws_network.specs.Fleet.{End, Fleet, FleetEvent, Forget, controller, fleet_comes, fleet_run, has_lost, written}
use Rattle.laws_network.specs.FleetLaws.{EachFleet, FleetIsReached}
use Rattle.laws_reopening.specs.FloorRules.{AllFollowRules, AreLostDown, FollowsRules, HasFloors, RulesKeepFloors}
use Rattle.sm_driver.specs.Driver.{DriverModel}
use Rattle.laws_driver.specs.Control.{ApproveRestart, BeginPlan, Command, EndRestart, IsAnswerEntry, NoteCopies, OpenEpoch, RestoreServer, TakeAnswer, Writes, free_steps}
use Rattle.laws_driver.specs.Driven.{Driven, Takes, TellsTruth, TurnFits, WritesNothing, driver_setup, with_entries}
use Rattle.laws_driver.specs.DrivenLaws.{IsFleetDriven}
use Rattle.laws_driver.proofs.Events.{AreEvents, EntryFits, event_of, last_true, steps, steps_fit}
use Rattle.laws_driver.proofs.Turns.{goes_fit, written_is}
use Rattle.laws_session.specs.Replays.{ReplaysAgree}
use Rattle.laws_run.specs.RunLaws.{AllLoseDown, FloorsHold, LosesDown}
use Rattle.laws_run.specs.Runs.{AllMomentsFit, EachRun, Happens, Hears, Moment, MomentFits, Recovers, Run, after_moment, after_moments}
use Rattle.laws_run.specs.Truth.{CommandIsTrue}
use Rattle.laws_run.proofs.Runs.{IsUnder, moment_under, under}

-- an entry follows the rules: a restart that ends is one of a server that has its slots
abbrev EntryFollows : Fleet → JournalEntry → Type 0
EntryFollows f (Ended v permit) = is_permitted ((controller f).permits v) permit ≡ true → has_lost f v ≡ false
EntryFollows f _ = Unit {0}

-- ---- entries as events

event_follows : (x : Driven) (e : JournalEntry) (so : TellsTruth x.fleet e) (fits : EntryFits (driver_setup x) x.fleet e) → EntryFollows x.fleet e →
    FollowsRules x.fleet (event_of (driver_setup x) x.fleet e so fits).0
event_follows x (Made e) so fits follows = tt
event_follows x (Ended v permit) so fits follows = follows
event_follows x (Opened room) so fits follows = tt
event_follows x (Answered o) so fits follows = tt
event_follows x (Stored p) so fits follows = tt
event_follows x (Restored v nonce) so fits follows = tt

steps_follow : (ids : List StreamId) (f : Fleet) → AllFollowRules f (steps ids)
steps_follow [] f = tt
steps_follow (id ∷ ids) f = (tt, steps_follow ids (written f (Made (Step id))))

-- ---- what a command writes

steps_rule : (f : Fleet) (ids : List StreamId) (e : JournalEntry) → EntryFollows f e → AllByRecursion (EntryFollows f) (map (λ id. Made (Step id)) ids ++ e ∷ [])
steps_rule f [] e h = (h, tt)
steps_rule f (id ∷ ids) e h = (tt, steps_rule f ids e h)

answer_rule : (f : Fleet) (d : DriverModel) (id : StreamId) (number : ℕ) (e : JournalEntry) → IsAnswerEntry d id number e → EntryFollows f e
answer_rule f d id number (Answered o) h = tt
answer_rule f d id number (Stored p) h = tt
answer_rule f d id number (Made e) h = absurd h
answer_rule f d id number (Ended v permit) h = absurd h
answer_rule f d id number (Restored v nonce) h = absurd h
answer_rule f d id number (Opened room) h = absurd h

-- each entry of a true command follows the rules
entries_rule : (x : Driven) (command : Command) (new : DriverModel) (es : List JournalEntry) → Writes command x.driver new es → CommandIsTrue x command →
    AllByRecursion (EntryFollows x.fleet) es
entries_rule x (BeginPlan plan) new es w so =
    subst (AllByRecursion (EntryFollows x.fleet)) (sym w.2) (steps_rule x.fleet (reverse w.1.advanced.streams) (Made (Begin plan)) tt)
entries_rule x (TakeAnswer id number) new es w so =
    subst (AllByRecursion (EntryFollows x.fleet)) (sym w.4) (steps_rule x.fleet (reverse w.0.advanced.streams) w.1 (answer_rule x.fleet x.driver id number w.1 w.3))
entries_rule x (ApproveRestart v) new es w so = subst (AllByRecursion (EntryFollows x.fleet)) (sym w.2) (tt, tt)
entries_rule x (EndRestart permit (Some base)) new es w so = subst (AllByRecursion (EntryFollows x.fleet)) (sym w.2) ((λ given. (so w.0 w.1.permitted).0), tt)
entries_rule x (EndRestart permit None) new es w so = absurd (let s = w.1.settled in cc)
entries_rule x (RestoreServer v nonce) new es w so = subst (AllByRecursion (EntryFollows x.fleet)) (sym w.1) (tt, tt)
entries_rule x (NoteCopies s copies) new es w so = subst (AllByRecursion (EntryFollows x.fleet)) (sym w.1) tt
entries_rule x OpenEpoch new es w so = subst (AllByRecursion (EntryFollows x.fleet)) (sym w.2) (tt, tt)

-- ---- moments

module _ (laws : EachFleet FleetIsReached) (agree : ReplaysAgree) (rules : EachFleet RulesKeepFloors) where
  -- events that follow the rules
  by_events : (x : Driven) → IsFleetDriven x → AreLostDown x.fleet → (e : JournalEntry) (ids : List StreamId) (so : TellsTruth x.fleet e) (fits : EntryFits (driver_setup x) x.fleet e) →
      EntryFollows x.fleet e → AreLostDown (fleet_run ((event_of (driver_setup x) x.fleet e so fits).0 ∷ steps ids) x.fleet)
  by_events x r down e ids so fits follows =
      let event = event_of (driver_setup x) x.fleet e so fits in
      (rules (driver_setup x) x.fleet r.0 down (event.0 ∷ steps ids) (event.1, steps_fit (driver_setup x) ids (fleet_comes x.fleet event.0).1)
      (event_follows x e so fits follows, steps_follow ids (fleet_comes x.fleet event.0).1)).0

  -- what is written: nothing, or entries each of which follows the rules
  by_entries : (x : Driven) → IsFleetDriven x → AreLostDown x.fleet → (es : List JournalEntry) → (es ≡ []) ⊎ AreEvents (driver_setup x) x.fleet es → AllByRecursion (EntryFollows x.fleet) es →
      AreLostDown (with_entries x.fleet es)
  by_entries x r down es (inl none) rule = subst (λ (entries : List JournalEntry). AreLostDown (with_entries x.fleet entries)) (sym none) down
  by_entries x r down es (inr events) rule =
      let follows = last_true (EntryFollows x.fleet) (free_steps events.streams) events.entry (subst (AllByRecursion (EntryFollows x.fleet)) events.are rule) in
      subst AreLostDown (ap (λ evs. fleet_run evs x.fleet) (sym events.events_are) ∙ events.run)
      (by_events x r down events.entry events.streams events.truth events.fits follows)

  -- a true command
  by_command : (x : Driven) → IsFleetDriven x → AreLostDown x.fleet → (command : Command) (new : DriverModel) (es : List JournalEntry) → TurnFits x (Takes command new es) → CommandIsTrue x command →
      AreLostDown (with_entries x.fleet es)
  by_command x r down command new es fits so =
      by_entries x r down es (written_is laws x command new es r fits) (entries_rule x command new es fits.1 so)

  -- an event of the fleet
  by_event : (x : Driven) → IsFleetDriven x → AreLostDown x.fleet → (e : FleetEvent) → WritesNothing e → FollowsRules x.fleet e → AreLostDown (fleet_comes x.fleet e).1
  by_event x r down e silent follows =
      (rules (driver_setup x) x.fleet r.0 down (e ∷ []) (goes_fit (driver_setup x) x.fleet e silent, tt) (follows, tt)).0

  goes_follow : (x : Run) (e : FleetEvent) → WritesNothing e → LosesDown x (Happens e) → FollowsRules x.driven.fleet e
  goes_follow x (Forget v) silent h = h
  goes_follow x (End v permit) silent h = absurd silent
  goes_follow x e silent h = tt

  by_moment : (x : Run) (m : Moment) → IsUnder x → MomentFits x m → LosesDown x m → AreLostDown x.driven.fleet → AreLostDown (after_moment x m).driven.fleet
  by_moment x (Happens e) u fit h down = by_event x.driven u.driven down e fit (goes_follow x e fit h)
  by_moment x (Recovers session driver) u fit h down = down
  by_moment x (Hears line command session driver es) u fit h down =
      by_command x.driven u.driven down command driver es fit.writes (fit.truth command fit.says)

  by_moments : (ms : List Moment) (x : Run) → IsUnder x → AllMomentsFit ms x → AllLoseDown ms x → AreLostDown x.driven.fleet →
      AreLostDown (after_moments ms x).driven.fleet × HasFloors (after_moments ms x).driven.fleet
  by_moments [] x u fit h down = rules (driver_setup x.driven) x.driven.fleet u.driven.0 down [] tt tt
  by_moments (m ∷ ms) x u fit h down =
      by_moments ms (after_moment x m) (moment_under laws agree x m u fit.0) fit.1 h.1 (by_moment x m u fit.0 h.0 down)

  -- so floors hold
  pub floors_hold : EachRun FloorsHold
  floors_hold x r down ms fit h = by_moments ms x (under laws agree x r) fit h down
