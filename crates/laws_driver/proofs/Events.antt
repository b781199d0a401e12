-- A command writes events of the fleet, and each fits.
use Rattle.std.proofs.Common.{◌≡◌, ◌≤◌, ◌<◌, ◌∙◌, ◌∷◌, ◌++◌, [], suc, Option, Some, List, map, refl, sym, ap, append_assoc}
use Rattle.std.specs.Prelude.{slice_get}
use Rattle.std.specs.List.{AllByRecursion}
use Rattle.sm_placement.specs.Setup.{Setup, sizes_of}
use Rattle.sm_placement.specs.Place.{down_count}
use Rattle.sm_plan_code.specs.declared.limits.TheConstants.{MOST_PLACES}
use Rattle.sm_reservation.specs.declared.stream_id.StreamId.{StreamId}
use Rattle.sm_protocol.specs.Happens.{Step}
use Rattle.sm_protocol.specs.Laws.{FitsConfig}
use Rattle.laws_network.specs.Controller.{Answered, Ended, JournalEntry, Made, Opened, Restored, Stored}
use Rattle.laws_network.specs.Fleet.{End, Fleet, FleetEvent, HearAsk, HearOwner, HearServer, Make, Open, Silent, by_message, controller, fleet_comes, fleet_run, written}
use Rattle.laws_network.specs.FleetLaws.{AllFleetFit, FleetFits}
use Rattle.laws_driver.specs.Control.{free_steps}
use Rattle.laws_driver.specs.Driven.{TellsTruth, with_entries}
use Rattle.laws_driver.proofs.FreeEntries.{step_last}

-- an entry fits as its event has to
abbrev pub EntryFits : Setup → Fleet → JournalEntry → Type 0
EntryFits setup f (Made e) = FitsConfig (sizes_of setup) e
EntryFits setup f (Ended v permit) = v < (sizes_of setup).servers
EntryFits setup f (Opened room) = (down_count (sizes_of setup) (controller f).w.place ≤ room) × (room ≤ MOST_PLACES)
EntryFits setup f _ = Unit {0}

-- local steps
abbrev pub steps : List StreamId → List FleetEvent
steps ids = map (λ id. Make (Step id)) ids

-- they fit
pub steps_fit : (setup : Setup) (ids : List StreamId) (f : Fleet) → AllFleetFit setup f (steps ids)
steps_fit setup [] f = tt
steps_fit setup (id ∷ ids) f = (tt, steps_fit setup ids (written f (Made (Step id))))

-- they lead to their entries
pub steps_run : (ids : List StreamId) (f : Fleet) → fleet_run (steps ids) f ≡ with_entries f (free_steps ids)
steps_run [] f = refl
steps_run (id ∷ ids) f =
    steps_run ids (written f (Made (Step id)))
    ∙ ap (λ j. record f { journal = j }) (sym (append_assoc (free_steps ids) (Made (Step id) ∷ []) f.journal) ∙ ap (λ es. es ++ f.journal) (sym (step_last id ids)))

-- what comes of a message that is there
pub heard : {A : Type 0} (f : Fleet) (e : A → JournalEntry) (o : Option A) (x : A) → o ≡ Some x → (by_message f (λ y. (Silent, written f (e y))) o).1 ≡ written f (e x)
heard f e o x is = ap (λ z. (by_message f (λ y. (Silent, written f (e y))) z).1) is

-- an entry that says what is so is that of an event
abbrev pub event_of : (setup : Setup) (f : Fleet) (e : JournalEntry) → TellsTruth f e → EntryFits setup f e → (event : FleetEvent) × FleetFits setup f event × ((fleet_comes f event).1 ≡ written f e)
event_of setup f (Made e) so fits = (Make e, fits, refl)
event_of setup f (Ended v permit) so fits = (End v permit, fits, refl)
event_of setup f (Opened room) so fits = (Open room, fits, refl)
event_of setup f (Answered o) so fits = (HearServer so.0, tt, heard f Answered (slice_get f.answers so.0) o so.1)
event_of setup f (Stored p) so fits = (HearOwner so.0, tt, heard f Stored (slice_get f.stored so.0) p so.1)
event_of setup f (Restored v nonce) so fits = (HearAsk so.0, tt, heard f (λ u. Restored u (suc so.0)) (slice_get f.asks so.0) v so.2 ∙ ap (λ n. written f (Restored v n)) (sym so.1))

-- Entries that a command writes: one that says what is so, and behind it local steps. Events of the fleet lead to them.
pub record AreEvents (setup : Setup) (f : Fleet) (es : List JournalEntry) : Type 0 where
  pub entry : JournalEntry
  pub streams : List StreamId
  pub are : es ≡ free_steps streams ++ entry ∷ []
  pub truth : TellsTruth f entry
  pub fits : EntryFits setup f entry
  pub events : List FleetEvent
  pub events_are : events ≡ (event_of setup f entry truth fits).0 ∷ steps streams
  pub fit : AllFleetFit setup f events
  pub run : fleet_run events f ≡ with_entries f es

-- so is an entry with the local steps behind it
pub are_events : (setup : Setup) (f : Fleet) (e : JournalEntry) (ids : List StreamId) → TellsTruth f e → EntryFits setup f e → AreEvents setup f (free_steps ids ++ e ∷ [])
are_events setup f e ids so fits =
    let first = event_of setup f e so fits in
    record {
      entry = e;
      streams = ids;
      are = refl;
      truth = so;
      fits = fits;
      events = first.0 ∷ steps ids;
      events_are = refl;
      fit = (first.1, steps_fit setup ids (fleet_comes f first.0).1);
      run = ap (fleet_run (steps ids)) first.2 ∙ steps_run ids (written f e) ∙ ap (λ j. record f { journal = j }) (sym (append_assoc (free_steps ids) (e ∷ []) f.journal));
    }

-- what holds of all of a list holds of its last
pub last_true : {A : Type 0} (P : A → Type 0) (xs : List A) (x : A) → AllByRecursion P (xs ++ x ∷ []) → P x
last_true P [] x all = all.0
last_true P (y ∷ xs) x all = last_true P xs x all.1
