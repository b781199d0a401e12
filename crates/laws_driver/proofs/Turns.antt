-- Whatever turns lead to, the fleet is one that its laws are about, and the driver is its controller.
use Rattle.std.proofs.Common.{◌≡◌, ◌≤◌, ◌<◌, ◌⊎◌, ◌∙◌, ◌∷◌, ◌++◌, [], ℕ, Option, Some, None, List, refl, sym, ap, subst, arith, inl, inr}
use Rattle.std.specs.Prelude.{slice_get}
use Rattle.std.specs.List.{AllByRecursion}
use Rattle.sm_placement.specs.Setup.{Setup, Sizes, sizes_of}
use Rattle.sm_placement.specs.Place.{down_count}
use Rattle.sm_plan_code.specs.declared.limits.TheConstants.{MOST_PLACES}
use Rattle.sm_agent.specs.declared.base.Reception.{Reception}
use Rattle.sm_agent.specs.declared.base.Reception.TheVariants as reception
use Rattle.sm_agent.specs.declared.order.Verdict.{Verdict}
use Rattle.sm_agent.specs.declared.order.Verdict.TheVariants as verdict
use Rattle.sm_agent.specs.declared.slot.Slot.{Slot}
use Rattle.sm_reservation.specs.declared.stream_id.StreamId.{StreamId}
use Rattle.sm_protocol.specs.State.{State}
use Rattle.sm_protocol.specs.Happens.{Approve, Begin}
use Rattle.sm_protocol.specs.Laws.{IsReached, FitsConfig}
use Rattle.sm_protocol.proofs.LogRoom.{has_room}
use Rattle.sm_protocol.proofs.Reached.{of_opening}
use Rattle.laws_network.specs.Controller.{Answered, Ended, JournalEntry, Letter, Made, Opened, Restore, Restored, Stored, replayed}
use Rattle.laws_network.specs.World.{Publication}
use Rattle.laws_network.specs.Fleet.{Abandon, Commit, End, Fleet, FleetEvent, FleetOutcome, Forget, HearAsk, HearOwner, HearServer, Judge, Make, Open, Publish, Receive, Recover, Seal, SendOrder, SendPublication, Serve, after_owner, after_reception, after_verdict, after_work, by_message, controller, fleet_comes, fleet_run}
use Rattle.laws_network.specs.FleetLaws.{AllFleetFit, EachFleet, FleetFits, FleetIsReached, IsFleetReached}
use Rattle.sm_driver.specs.Driver.{DriverModel, record_of}
use Rattle.laws_driver.specs.Control.{ApproveRestart, BeginPlan, Command, EndRestart, IsAnswerEntry, IsCallable, IsControllerOf, NoteCopies, OpenEpoch, RestoreServer, TakeAnswer, Writes}
use Rattle.laws_driver.specs.Driven.{AllTurnsFit, Driven, EachDriven, Goes, IsDrivenOpening, TellsTruth, Takes, Turn, TurnFits, WritesNothing, driver_setup, after_turn, after_turns, with_entries}
use Rattle.laws_driver.specs.DrivenLaws.{CommandsAreEvents, IsFleetDriven}
use Rattle.laws_driver.proofs.Commands.{commands_are_entries, permit_is}
use Rattle.laws_driver.proofs.Controls.{sizes_are}
use Rattle.laws_driver.proofs.Events.{AreEvents, EntryFits, are_events, last_true}
use Rattle.laws_driver.proofs.FreeEntries.{replayed_then}

-- ---- the fleet

-- events after events
run_then : (es fs : List FleetEvent) (f : Fleet) → fleet_run (es ++ fs) f ≡ fleet_run fs (fleet_run es f)
run_then [] fs f = refl
run_then (e ∷ es) fs f = run_then es fs (fleet_comes f e).1

fit_then : (setup : Setup) (es fs : List FleetEvent) (f : Fleet) → AllFleetFit setup f es → AllFleetFit setup (fleet_run es f) fs → AllFleetFit setup f (es ++ fs)
fit_then setup [] fs f a b = b
fit_then setup (e ∷ es) fs f a b = (a.0, fit_then setup es fs (fleet_comes f e).1 a.1 b)

-- events lead on from what is reached
reached_then : (setup : Setup) (f : Fleet) (es : List FleetEvent) → IsFleetReached setup f → AllFleetFit setup f es → IsFleetReached setup (fleet_run es f)
reached_then setup f es r fit = record {
  first = r.first;
  opening = r.opening;
  events = r.events ++ es;
  fit = fit_then setup r.events es r.first r.fit (subst (λ g. AllFleetFit setup g es) r.state fit);
  state = ap (fleet_run es) r.state ∙ sym (run_then r.events es r.first);
}

-- the controller is as it was
abbrev IsAsBefore : Fleet → FleetOutcome × Fleet → Type 0
IsAsBefore f o = controller o.1 ≡ controller f

by_message_before : {A : Type 0} (f : Fleet) (g : A → FleetOutcome × Fleet) (o : Option A) → ((x : A) → IsAsBefore f (g x)) → IsAsBefore f (by_message f g o)
by_message_before f g None h = refl
by_message_before f g (Some x) h = h x

verdict_before : (f : Fleet) (l : Letter) (v : Verdict) → controller (after_verdict f l v) ≡ controller f
verdict_before f l verdict.Begin = refl
verdict_before f l verdict.Again = refl
verdict_before f l _ = refl

work_before : (f : Fleet) (l : Letter) (o : Option Slot) → IsAsBefore f (after_work f l o)
work_before f l None = refl
work_before f l (Some slot) = refl

owner_before : (f : Fleet) (p : Publication) (v : Verdict) → controller (after_owner f p v) ≡ controller f
owner_before f p verdict.Begin = refl
owner_before f p verdict.Again = refl
owner_before f p _ = refl

reception_before : (f : Fleet) (v : ℕ) (r : Restore) (x : Reception) → controller (after_reception f v r x) ≡ controller f
reception_before f v r (reception.Taken base) = refl
reception_before f v r _ = refl

-- where it writes nothing, the event fits, and the controller is as it was
goes_before : (f : Fleet) (e : FleetEvent) → WritesNothing e → IsAsBefore f (fleet_comes f e)
goes_before f (Make e) h = absurd h
goes_before f (End v permit) h = absurd h
goes_before f (Open room) h = absurd h
goes_before f (HearServer k) h = absurd h
goes_before f (HearOwner k) h = absurd h
goes_before f (HearAsk k) h = absurd h
goes_before f (SendOrder lost id) h = refl
goes_before f (SendPublication lost id) h = refl
goes_before f (Judge k) h = by_message_before f _ (slice_get f.sent k) (λ l. verdict_before f l _)
goes_before f (Commit k at) h = by_message_before f _ (slice_get f.sent k) (λ l. work_before f l _)
goes_before f (Abandon s v) h = refl
goes_before f (Publish k) h = by_message_before f _ (slice_get f.published k) (λ n. owner_before f n.publication _)
goes_before f (Serve s v applied) h = refl
goes_before f (Receive k applied) h = by_message_before f _ (slice_get f.passes k) (λ p. refl)
goes_before f (Seal k) h = by_message_before f _ (slice_get f.passes k) (λ p. refl)
goes_before f (Forget v) h = refl
goes_before f (Recover k v) h = by_message_before f _ (slice_get (controller f).restores k) (λ r. reception_before f v r _)

-- an event by which the controller writes nothing fits
pub goes_fit : (setup : Setup) (f : Fleet) (e : FleetEvent) → WritesNothing e → FleetFits setup f e
goes_fit setup f (Make e) h = absurd h
goes_fit setup f (End v permit) h = absurd h
goes_fit setup f (Open room) h = absurd h
goes_fit setup f e h = tt

-- ---- what a command writes

-- the log of a next epoch has room for those who are down
room_is : (setup : Setup) (w : State) → IsReached setup w → (down_count w.sizes w.place ≤ w.room) × (w.room ≤ MOST_PLACES)
room_is setup w reached = ((let r = (has_room setup w reached).room in omega arith), (of_opening setup w reached).is_opening.most)

answer_fits : (setup : Setup) (f : Fleet) (d : DriverModel) (e : JournalEntry) → (id : StreamId) (number : ℕ) → IsAnswerEntry d id number e → EntryFits setup f e
answer_fits setup f d (Answered o) id number h = tt
answer_fits setup f d (Stored p) id number h = tt
answer_fits setup f d (Made e) id number h = absurd h
answer_fits setup f d (Ended v permit) id number h = absurd h
answer_fits setup f d (Restored v nonce) id number h = absurd h
answer_fits setup f d (Opened room) id number h = absurd h

-- what a command writes is nothing, or what events lead to
pub written_is : EachFleet FleetIsReached → (x : Driven) (command : Command) (driver : DriverModel) (es : List JournalEntry) → IsFleetDriven x → TurnFits x (Takes command driver es) →
    (es ≡ []) ⊎ AreEvents (driver_setup x) x.fleet es
written_is laws x command driver es driven fits = go command fits.0 fits.1
  where
    setup : Setup
    setup = driver_setup x

    d : DriverModel
    d = x.driver

    is : IsControllerOf d (controller x.fleet)
    is = driven.1

    true_of : (xs : List JournalEntry) (e : JournalEntry) → es ≡ xs ++ e ∷ [] → TellsTruth x.fleet e
    true_of xs e same = last_true (TellsTruth x.fleet) xs e (subst (AllByRecursion (TellsTruth x.fleet)) same fits.2)

    go : (c : Command) → IsCallable d c → Writes c d driver es → (es ≡ []) ⊎ AreEvents setup x.fleet es
    go (BeginPlan plan) callable h = inr (subst (AreEvents setup x.fleet) (sym h.2)
        (are_events setup x.fleet (Made (Begin plan)) h.1.advanced.streams tt (subst (λ (s : Sizes). FitsConfig s (Begin plan)) (sizes_are d) callable)))
    go (TakeAnswer id number) callable h = inr (subst (AreEvents setup x.fleet) (sym h.4)
        (are_events setup x.fleet h.1 h.0.advanced.streams (true_of _ h.1 h.4) (answer_fits setup x.fleet d h.1 id number h.3)))
    go (ApproveRestart v) callable h = inr (subst (AreEvents setup x.fleet) (sym h.2)
        (are_events setup x.fleet (Made (Approve v)) [] tt (subst (λ (s : Sizes). FitsConfig s (Approve v)) (sizes_are d) callable)))
    go (EndRestart permit server_base) callable h = inr (subst (AreEvents setup x.fleet) (sym h.2)
        (are_events setup x.fleet (Ended h.0 permit) [] tt
        (subst (λ (s : Sizes). h.0 < s.servers) (sizes_are d) (subst (λ n. h.0 < n) is.servers (permit_is d.permits permit h.0 h.1.permitted).1))))
    go (RestoreServer v nonce) callable h = inr (subst (AreEvents setup x.fleet) (sym h.1) (are_events setup x.fleet (Restored v nonce) [] (true_of [] (Restored v nonce) h.1) tt))
    go (NoteCopies s copies) callable h = inl h.1
    go OpenEpoch callable h =
        let w : State = (controller x.fleet).w in
        let reached = laws setup x.fleet driven.0 in
        let room = room_is setup w reached in
        let same : (record_of d).room ≡ w.room = ap (λ (s : State). s.room) (sym is.recorded) in
        let sizes : w.sizes ≡ sizes_of setup = ap (λ (s : State). s.sizes) is.recorded ∙ sizes_are d in
        inr (subst (AreEvents setup x.fleet) (sym h.2)
        (are_events setup x.fleet (Opened (record_of d).room) [] tt
        (subst (λ n. (down_count (sizes_of setup) w.place ≤ n) × (n ≤ MOST_PLACES)) (sym same) (subst (λ (s : Sizes). down_count s w.place ≤ w.room) sizes room.0, room.1))))

-- events of the fleet that all fit lead to these entries
abbrev IsLedTo : Setup → Fleet → List JournalEntry → Type 0
IsLedTo setup f es = (events : List FleetEvent) × AllFleetFit setup f events × (fleet_run events f ≡ with_entries f es)

-- so they do to what is written: none to nothing
led_to : (setup : Setup) (f : Fleet) (es : List JournalEntry) → (es ≡ []) ⊎ AreEvents setup f es → IsLedTo setup f es
led_to setup f es (inl none) = subst (IsLedTo setup f) (sym none) ([], tt, refl)
led_to setup f es (inr are) = (are.events, are.fit, are.run)

-- ---- turns

-- a command leaves the configuration
setup_stays : (command : Command) (old new : DriverModel) (es : List JournalEntry) → Writes command old new es → new.machine.placement.setup ≡ old.machine.placement.setup
setup_stays (BeginPlan plan) old new es h = h.1.journal.setup
setup_stays (TakeAnswer id number) old new es h = h.0.journal.setup
setup_stays (ApproveRestart v) old new es h = h.1.journal.setup
setup_stays (EndRestart permit server_base) old new es h = h.1.journal.setup
setup_stays (RestoreServer v nonce) old new es h = ap (λ (d : DriverModel). d.machine.placement.setup) h.0.told
setup_stays (NoteCopies s copies) old new es h = ap (λ (d : DriverModel). d.machine.placement.setup) h.0
setup_stays OpenEpoch old new es h = h.0.setup

-- a turn leads on
pub turn_is : EachFleet FleetIsReached → (x : Driven) (t : Turn) → IsFleetDriven x → TurnFits x t → IsFleetDriven (after_turn x t)
turn_is laws x (Goes e) driven fits = (
  reached_then (driver_setup x) x.fleet (e ∷ []) driven.0 (goes_fit (driver_setup x) x.fleet e fits, tt),
  subst (IsControllerOf x.driver) (sym (goes_before x.fleet e fits)) driven.1,
)
turn_is laws x (Takes command driver es) driven fits =
    let events = led_to (driver_setup x) x.fleet es (written_is laws x command driver es driven fits) in (
      subst (λ s. IsFleetReached s (with_entries x.fleet es)) (sym (setup_stays command x.driver driver es fits.1))
          (subst (IsFleetReached (driver_setup x)) events.2 (reached_then (driver_setup x) x.fleet events.0 driven.0 events.1)),
      subst (IsControllerOf driver) (sym (replayed_then x.fleet.start es x.fleet.journal)) (commands_are_entries command x.driver driver es (controller x.fleet) driven.1 fits.0 fits.1),
    )

turns_are : EachFleet FleetIsReached → (ts : List Turn) (x : Driven) → IsFleetDriven x → AllTurnsFit ts x → IsFleetDriven (after_turns ts x)
turns_are laws [] x driven fit = driven
turns_are laws (t ∷ ts) x driven fit = turns_are laws ts (after_turn x t) (turn_is laws x t driven fit.0) fit.1

-- an opening is so
pub opening_is : (x : Driven) → IsDrivenOpening x → IsFleetDriven x
opening_is x o = (
  record { first = x.fleet; opening = o.fleet; events = []; fit = tt; state = refl },
  subst (IsControllerOf x.driver) (sym (ap (replayed x.fleet.start) o.fleet.journal)) o.control,
)

-- so it is wherever turns lead
pub driven_is_controlled : EachFleet FleetIsReached → EachDriven IsFleetDriven
driven_is_controlled laws x r = subst IsFleetDriven (sym r.state) (turns_are laws r.turns r.first (opening_is r.first r.opening) r.fit)

-- and what a command writes is a list of events
pub commands_are_events : EachDriven IsFleetDriven → EachFleet FleetIsReached → EachDriven CommandsAreEvents
commands_are_events driven laws x r command driver es fits = led_to (driver_setup x) x.fleet es (written_is laws x command driver es (driven x r) fits)
