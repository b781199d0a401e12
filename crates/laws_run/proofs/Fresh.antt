-- A run begins as users begin it: its servers lose what the opening gave them, one after the other, and ask for it.
use Rattle.std.proofs.Common.{◌≡◌, ◌≢◌, ◌<◌, ◌⊎◌, ◌++◌, ◌∷◌, ℕ, suc, zero, Option, Some, None, List, [], length, refl, sym, ap, subst, arith, inl, inr}
use Rattle.std.specs.Prelude.{slice_get}
use Rattle.std.proofs.lemmas.Bool.{cases_eq, cases_lt}
use Rattle.serde_json.specs.Data.{Data}
use Rattle.json_tree.specs.View.{view}
use Rattle.sm_placement.specs.Opening.{opened_place}
use Rattle.sm_placement.specs.Place.{Place}
use Rattle.sm_placement.specs.Setup.{Setup}
use Rattle.sm_plan_text.specs.Opened.{opening_of}
use Rattle.sm_protocol.specs.Laws.{IsOpening}
use Rattle.sm_agent.specs.Base.{forgotten}
use Rattle.sm_agent.specs.Order.{vacant}
use Rattle.laws_network.specs.Fleet.{Forget, Server}
use Rattle.laws_network.proofs.Slots.{put_elim}
use Rattle.sm_driver.specs.Driver.{DriverModel, record_of}
use Rattle.laws_driver.specs.Driven.{driver_setup}
use Rattle.laws_driver.specs.DrivenLaws.{DriversOpen, IsJustOpened}
use Rattle.laws_driver.proofs.FirstPlace.{opens_there}
use Rattle.laws_driver.proofs.Searches.{get_before, get_last}
use Rattle.smpland_lines.specs.declared.command.LineCommand.{LineCommand}
use Rattle.smpland_lines.specs.declared.command.LineCommand.TheVariants as line
use Rattle.smpland_lines.specs.declared.command.ReopeningCommand.TheVariants as reopening
use Rattle.smpland_state.specs.declared.journal_state.JournalState.{JournalState}
use Rattle.smpland_session.specs.Asked.{Does, IsOpenedBy, OpensOver}
use Rattle.smpland_session.specs.Changes.{Drives, Follows, HasChanged, HasDriven, HasOpened, Opens, Reopens, driver_of}
use Rattle.smpland_session.specs.declared.session.Session.{Session}
use Rattle.smpland_session.specs.declared.under_way.UnderWay.{UnderWay}
use Rattle.laws_run.specs.RunLaws.{AsksForSlots, RunsBegin}
use Rattle.laws_run.specs.Runs.{AllMomentsFit, Happens, IsOpenWith, IsRunReached, Moment, Run, after_moment, after_moments}

-- these servers lose what they have, the last first
abbrev forgets : ℕ → List Moment
forgets zero = []
forgets (suc n) = Happens (Forget n) ∷ forgets n

forgets_fit : (n : ℕ) (x : Run) → AllMomentsFit (forgets n) x
forgets_fit zero x = tt
forgets_fit (suc n) x = (tt, forgets_fit n (after_moment x (Happens (Forget n))))

forgets_keep : (n : ℕ) (x : Run) → ((after_moments (forgets n) x).session ≡ x.session) × ((after_moments (forgets n) x).driven.driver ≡ x.driven.driver)
forgets_keep zero x = (refl, refl)
forgets_keep (suc n) x = forgets_keep n (after_moment x (Happens (Forget n)))

-- a server has asked under its nonce
abbrev HasAsked : List ℕ → ℕ → Server → Type 0
HasAsked asks v server = (nonce : ℕ) × (server.base.nonce ≡ Some nonce) × ((k : ℕ) × (nonce ≡ suc k) × (slice_get asks k ≡ Some v))

abbrev AskedIn : Run → ℕ → Type 0
AskedIn x v = HasAsked x.driven.fleet.asks v (x.driven.fleet.servers v)

-- one that loses its slots has
now_asked : (x : Run) (m : ℕ) → AskedIn (after_moment x (Happens (Forget m))) m
now_asked x m =
    let f = x.driven.fleet in
    put_elim (HasAsked (f.asks ++ m ∷ []) m) f.servers m (record { base = forgotten (suc (length f.asks)); slots = λ s. vacant }) m
    (λ e. (suc (length f.asks), refl, (length f.asks, refl, get_last f.asks m))) (λ n. absurd (n refl))

-- and whoever had has
still_asked : (x : Run) (m v : ℕ) → v ≢ m → AskedIn x v → AskedIn (after_moment x (Happens (Forget m))) v
still_asked x m v other is =
    let f = x.driven.fleet in
    put_elim (HasAsked (f.asks ++ m ∷ []) v) f.servers m (record { base = forgotten (suc (length f.asks)); slots = λ s. vacant }) v
    (λ e. absurd (other e)) (λ n. (is.0, is.1, (is.2.0, is.2.1, get_before f.asks (m ∷ []) is.2.0 v is.2.2)))

all_asked : (n : ℕ) (x : Run) (v : ℕ) → (v < n) ⊎ AskedIn x v → AskedIn (after_moments (forgets n) x) v
all_asked zero x v (inl low) = absurd (omega arith)
all_asked zero x v (inr is) = is
all_asked (suc n) x v given = elim (cases_eq v n) [
  | inl e ↦ all_asked n (after_moment x (Happens (Forget n))) v (inr (subst (AskedIn (after_moment x (Happens (Forget n)))) (sym e) (now_asked x n)))
  | inr other ↦ all_asked n (after_moment x (Happens (Forget n))) v (elim given [ inl low ↦ inl (lower v n low other) | inr is ↦ inr (still_asked x n v other is) ])
]
  where
    lower : (v n : ℕ) → v < suc n → v ≢ n → v < n
    lower v n low other = elim (cases_lt v n) [ inl l ↦ l | inr past ↦ absurd (other (omega (arith, low, past))) ]

-- a run begins at the session, and each server is Unknown
abbrev IsBegun : Session → Type 0
IsBegun s = (x : Run) × IsRunReached x × (x.session ≡ s) × ((v : ℕ) → v < length (driver_setup x.driven).servers → AsksForSlots x.driven.fleet v)

-- a document is open
abbrev OpensSo : Option JournalState → Type 0
OpensSo new = (value : Data) × (journal : ℕ) × (epoch : ℕ) × OpensOver value journal epoch None new

-- over a session whose journal has just been opened
begun : DriversOpen → (setup : Setup) (p : Place) (room : ℕ) (d : DriverModel) (s : Session) → IsOpening setup p room → IsJustOpened setup p room [] d → d.fence ≡ 0 →
    IsOpenWith d s → IsBegun s
begun opens setup p room d s opening just fence open_with =
    let it = opens setup p room d opening just fence in
    let first : Run = record { session = s; driven = record { driver = d; fleet = it.0 } } in
    let n = length d.machine.placement.setup.servers in
    let keep = forgets_keep n first in (
      after_moments (forgets n) first,
      record { first = first; opening = record { open_with = open_with; driven = it.1 }; moments = forgets n; fit = forgets_fit n first; state = refl },
      keep.0,
      λ v low. all_asked n first v (inl (subst (λ (e : DriverModel). v < length e.machine.placement.setup.servers) keep.1 low)),
    )

-- by a line's document
by_document : DriversOpen → (value : Data) (journal epoch : ℕ) (s : Session) (o : JournalState) → s.opened ≡ Some o → s.under_way ≡ None →
    HasOpened o.driver → IsOpenedBy value journal epoch o.driver → IsBegun s
by_document opens value journal epoch s o is after has by =
    let setup = by.0.setup in
    let p = opened_place (opening_of by.0) in
    let opening = opens_there o.driver.machine.placement.setup setup p by.0.log (record_of o.driver) by.2 has.5 by.3 in
    begun opens setup p by.0.log o.driver s opening (record { state = by.3; setup = by.2; permits = by.6.permits; restores = by.6.restores; copies = by.6.copies }) by.6.fence
    (ap driver_of is, after)

-- what was opened, and no reopening
by_opened : DriversOpen → (value : Data) (journal epoch : ℕ) (s : Session) (new : Option JournalState) → s.opened ≡ new → s.under_way ≡ None →
    HasDriven None (driver_of new) → OpensOver value journal epoch None new → IsBegun s
by_opened opens value journal epoch s (Some o) is after has by = by_document opens value journal epoch s o is after has by
by_opened opens value journal epoch s None is after has by = absurd has

-- a change of a session without a journal, and without a reopening
has_driven : (new : Option JournalState) → HasChanged None None new None → HasDriven None (driver_of new)
has_driven new (Drives before after driven) = driven
has_driven new (Reopens same h) = absurd h.1
has_driven new (Follows same h) = absurd h
has_driven new (Opens h) = absurd h.1

-- what such a line says
opens_over : (command : LineCommand) (s : Session) (new : Option JournalState) → Does command None None new None
    → OpensSo new
opens_over (line.Open document journal epoch) s new h = (view document.now, journal, epoch, h)
opens_over (line.Driver command) s new h = absurd h
opens_over (line.Reopening (reopening.Reopen document lost journal epoch)) s new h = absurd h.0
opens_over (line.Reopening (reopening.Fenced server base told)) s new h = absurd h.0
opens_over (line.Reopening (reopening.Confirm base cells lost)) s new h = absurd h.0
opens_over (line.Reopening (reopening.Settled server base)) s new h = elim h [ inl stays ↦ absurd stays.0 | inr comes ↦ absurd comes.1 ]
opens_over (line.Question question) s new h = absurd h

-- so the line begins a run
pub runs_begin : DriversOpen → RunsBegin
runs_begin opens text old new opened before after changes said =
    let here : HasChanged None None new.opened None = at (λ o u v. HasChanged o u new.opened v) opened before after changes in
    let does : Does said.2.0 None None new.opened None = at (λ o u v. Does said.2.0 o u new.opened v) opened before after said.2.3 in
    let over = opens_over said.2.0 new new.opened does in
    by_opened opens over.0 over.1 over.2 new new.opened refl after (has_driven new.opened here) over.3
  where
    at : (P : Option JournalState → Option UnderWay → Option UnderWay → Type 0) → old.opened ≡ None → old.under_way ≡ None → new.under_way ≡ None →
        P old.opened old.under_way new.under_way → P None None None
    at P e f g h = subst (λ o. P o None None) e (subst (λ u. P old.opened u None) f (subst (λ v. P old.opened old.under_way v) g h))
