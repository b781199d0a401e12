-- What a list of events leaves of a stream: it goes on, or stands as it stood at the beginning.
use Rattle.std.proofs.Common.{◌≡◌, ℕ, ◌<◌, ◌⊎◌, refl, sym, ap, ◌∙◌, inl, inr, subst, Bool, true, false, Option, Some, None, List, [], ◌∷◌, ◌++◌, length}
use Rattle.std.specs.Prelude.{is_none, if◌then◌else◌, slice_get}
use Rattle.std.specs.List.{AllByRecursion}
use Rattle.sm_placement.specs.Setup.{Setup}
use Rattle.sm_placement.specs.Sums.{put}
use Rattle.sm_reservation.specs.declared.stream_id.StreamId.{StreamId}
use Rattle.sm_protocol.specs.State.{is_begun, progress_of}
use Rattle.sm_protocol.specs.Happens.{Approve, Arrive, Begin, Done, Happening, Lose, PassOn, Refill, Step, engaged, happens}
use Rattle.sm_protocol.proofs.Invariant.{IsKept}
use Rattle.sm_protocol.proofs.LogRoom.{begun_parts}
use Rattle.sm_protocol.proofs.Whole.{reached_keeps}
use Rattle.sm_agent.specs.declared.base.Reception.{Reception}
use Rattle.sm_agent.specs.declared.base.Reception.TheVariants as reception
use Rattle.sm_agent.specs.declared.order.Verdict.{Verdict}
use Rattle.sm_agent.specs.declared.order.Verdict.TheVariants as verdict
use Rattle.sm_agent.specs.declared.slot.Slot.{Slot}
use Rattle.sm_agent.specs.Base.{restored}
use Rattle.sm_agent.specs.Order.{committed}
use Rattle.laws_network.specs.Net.{is_awaited}
use Rattle.laws_network.specs.World.{is_answered_by, publication_of}
use Rattle.laws_network.specs.Controller.{Answered, Controller, Ended, JournalEntry, Letter, Made, Notice, Opened, Restore, Restored, Stored, entry_recorded, goes_on, is_permitted, is_local, restore_for}
use Rattle.laws_network.specs.Fleet.{Abandon, Commit, End, Fleet, FleetEvent, FleetOutcome, Forget, HearAsk, HearOwner, HearServer, Judge, Make, Open, Publish, Receive, Recover, Seal, SendOrder, SendPublication, Serve, after_owner, after_reception, after_verdict, after_work, by_message, controller, fleet_comes, fleet_run, order_read, owner_verdict, slot_for, verdict_of}
use Rattle.laws_network.specs.FleetLaws.{AllFleetFit, AreNamedKnown, IsFleetReached}
use Rattle.laws_network.proofs.Calm.{IsCalm}
use Rattle.laws_network.proofs.Commands.{state_reached}
use Rattle.laws_network.proofs.Deliveries.{shade_of}
use Rattle.laws_network.proofs.OfFleet.{net_of}
use Rattle.laws_network.proofs.Raised.{net_is_calm}
use Rattle.laws_network.proofs.Reaching.{fleet_shadow}
use Rattle.laws_rounds.specs.Round.{Always, Sometime, StaysInEpoch}
use Rattle.laws_rounds.proofs.Positions.{HasGone, IsMade, IsOnward, Stands, event_onward, gone_from, gone_or_stands, gone_stays, onward_on, onward_still, stands_on, stands_still}

-- ---- what is recorded

-- what an entry makes of the controller
module _ (P : Controller → Type 0) (c : Controller) (still : P c) (goes : (h : Happening) (permits : ℕ → Option ℕ) → IsMade h → P (record c { w = (happens c.w h).1; permits = permits })) (restores : (rs : List Restore) → P (record c { restores = rs })) where
  made_by : (h : Happening) → IsMade h → (b : Bool) → P (if b then goes_on c h else c)
  made_by h m true = goes h _ m
  made_by h m false = still

  by_entry : (x : JournalEntry) → ((room : ℕ) → x ≡ Opened room → ⊥) → P (entry_recorded c x)
  by_entry (Made (Step id)) n = made_by (Step id) tt (is_local c.w (Step id))
  by_entry (Made (Lose id after)) n = still
  by_entry (Made (Refill id more)) n = goes (Refill id more) _ tt
  by_entry (Made (Arrive s v)) n = still
  by_entry (Made (PassOn t)) n = still
  by_entry (Made (Approve v)) n = goes (Approve v) _ tt
  by_entry (Made (Done v)) n = still
  by_entry (Made (Begin plan)) n = goes (Begin plan) _ tt
  by_entry (Answered o) n = made_by (Step o.stream) tt (is_awaited c.base c.w o)
  by_entry (Stored p) n = made_by (Step p.stream) tt (is_answered_by p (publication_of c.base c.w p.stream))
  by_entry (Ended v permit) n = go (is_permitted (c.permits v) permit)
    where
      go : (b : Bool) → P (if b then record c { w = (happens c.w (Done v)).1; permits = put c.permits v None } else c)
      go true = goes (Done v) _ tt
      go false = still
  by_entry (Restored v nonce) n = go (is_none (engaged c.w v))
    where
      go : (b : Bool) → P (if b then record c { restores = c.restores ++ restore_for c v nonce ∷ [] } else c)
      go true = restores _
      go false = still
  by_entry (Opened room) n = absurd (n room refl)

-- the same of each event of an epoch
module _ (P : Controller → Type 0) (f : Fleet) (still : P (controller f)) (goes : (h : Happening) (permits : ℕ → Option ℕ) → IsMade h → P (record (controller f) { w = (happens (controller f).w h).1; permits = permits }))
    (restores : (rs : List Restore) → P (record (controller f) { restores = rs })) where
  writes : (x : JournalEntry) → ((room : ℕ) → x ≡ Opened room → ⊥) → P (entry_recorded (controller f) x)
  writes = by_entry P (controller f) still goes restores

  message : {A : Type 0} (g : A → FleetOutcome × Fleet) (o : Option A) → ((x : A) → P (controller (g x).1)) → P (controller (by_message f g o).1)
  message g None h = still
  message g (Some x) h = h x

  verdicts : (l : Letter) (x : Verdict) → P (controller (after_verdict f l x))
  verdicts l verdict.Begin = still
  verdicts l verdict.Working = still
  verdicts l verdict.Again = still
  verdicts l verdict.Old = still
  verdicts l verdict.Foreign = still
  verdicts l verdict.NotReady = still
  verdicts l (verdict.Refused why) = still

  owners : (n : Notice) (x : Verdict) → P (controller (after_owner f n.publication x))
  owners n verdict.Begin = still
  owners n verdict.Working = still
  owners n verdict.Again = still
  owners n verdict.Old = still
  owners n verdict.Foreign = still
  owners n verdict.NotReady = still
  owners n (verdict.Refused why) = still

  works : (l : Letter) (o : Option Slot) → P (controller (after_work f l o).1)
  works l None = still
  works l (Some x) = still

  receptions : (v : ℕ) (r : Restore) (y : Reception) → P (controller (after_reception f v r y))
  receptions v r (reception.Taken b) = still
  receptions v r reception.Again = still
  receptions v r reception.Ignored = still

  by_event : (e : FleetEvent) → StaysInEpoch e → P (controller (fleet_comes f e).1)
  by_event (Make h) s = writes (Made h) (λ room q. absurd (cc))
  by_event (End v permit) s = writes (Ended v permit) (λ room q. absurd (cc))
  by_event (Open room) s = absurd s
  by_event (HearServer k) s = message _ (slice_get f.answers k) (λ o. writes (Answered o) (λ room q. absurd (cc)))
  by_event (HearOwner k) s = message _ (slice_get f.stored k) (λ p. writes (Stored p) (λ room q. absurd (cc)))
  by_event (HearAsk k) s = message _ (slice_get f.asks k) (λ v. writes (Restored v _) (λ room q. absurd (cc)))
  by_event (SendOrder lost id) s = still
  by_event (SendPublication lost id) s = still
  by_event (Judge k) s = message _ (slice_get f.sent k) (λ l. verdicts l (verdict_of f l))
  by_event (Commit k at) s = message _ (slice_get f.sent k) (λ l. works l (committed (f.servers l.order.call.server).base (slot_for f l) (order_read l) at))
  by_event (Abandon r v) s = still
  by_event (Publish k) s = message _ (slice_get f.published k) (λ n. owners n (owner_verdict f n))
  by_event (Serve r v applied) s = still
  by_event (Receive k applied) s = message _ (slice_get f.passes k) (λ h. still)
  by_event (Seal k) s = message _ (slice_get f.passes k) (λ h. still)
  by_event (Forget v) s = still
  by_event (Recover k v) s = message _ (slice_get (controller f).restores k) (λ r. receptions v r (restored (f.servers v).base r.restoration))

-- ---- what is reached

-- one list behind the other
pub fleet_append : (es fs : List FleetEvent) (f : Fleet) → fleet_run (es ++ fs) f ≡ fleet_run fs (fleet_run es f)
fleet_append [] fs f = refl
fleet_append (e ∷ es) fs f = fleet_append es fs (fleet_comes f e).1

fits_append : (setup : Setup) (es fs : List FleetEvent) (f : Fleet) → AllFleetFit setup f es → AllFleetFit setup (fleet_run es f) fs → AllFleetFit setup f (es ++ fs)
fits_append setup [] fs f a b = b
fits_append setup (e ∷ es) fs f a b = (a.0, fits_append setup es fs (fleet_comes f e).1 a.1 b)

-- events lead from what is reached to what is reached
pub reached_on : (setup : Setup) (f : Fleet) (es : List FleetEvent) → IsFleetReached setup f → AllFleetFit setup f es → IsFleetReached setup (fleet_run es f)
reached_on setup f es r fit = record {
  first = r.first;
  opening = r.opening;
  events = r.events ++ es;
  fit = fits_append setup r.events es r.first r.fit (subst (λ g. AllFleetFit setup g es) r.state fit);
  state = ap (fleet_run es) r.state ∙ sym (fleet_append r.events es r.first);
}

-- the record keeps the invariant of the protocol
pub kept_at : (setup : Setup) (f : Fleet) → IsFleetReached setup f → IsKept (controller f).w
kept_at setup f r = (reached_keeps setup (controller f).w (state_reached setup (λ s v. 0) f (fleet_shadow setup f r))).0

-- and no call of it was lost
pub calm_at : (setup : Setup) (f : Fleet) → IsFleetReached setup f → IsCalm (controller f).w
calm_at setup f r = let k = fleet_shadow setup f r in net_is_calm setup (shade_of f k).net (net_of f k)

-- ---- since the beginning

-- The controller is that of the beginning, and the stream's plan has gone onward; the stream has gone on, or stands as it stood.
pub record Goes (c new : Controller) (id : StreamId) : Type 0 where
  pub on : IsOnward c.w new.w id.plan
  pub base : new.base ≡ c.base
  pub journal : new.journal ≡ c.journal
  pub fence : new.fence ≡ c.fence
  pub place : HasGone c.w new.w id ⊎ Stands c.w new.w id

-- it does at the beginning
pub goes_still : (c : Controller) (id : StreamId) → is_begun c.w id ≡ true → Goes c c id
goes_still c id b = record { on = onward_still c.w id.plan (begun_parts c.w id b).0; base = refl; journal = refl; fence = refl; place = inr (stands_still c.w id b) }

-- the controller after an event, and the plan
pub record IsNext (c new : Controller) (k : ℕ) : Type 0 where
  pub on : IsOnward c.w new.w k
  pub base : new.base ≡ c.base
  pub journal : new.journal ≡ c.journal
  pub fence : new.fence ≡ c.fence

-- an event keeps the controller's numbers, and takes no plan back
pub next_of : (f : Fleet) (e : FleetEvent) → StaysInEpoch e → (k : ℕ) → k < length (controller f).w.plans → IsNext (controller f) (controller (fleet_comes f e).1) k
next_of f e s k l = by_event (λ new. IsNext (controller f) new k) f still
    (λ h permits m. record { on = event_onward (controller f).w k l h; base = refl; journal = refl; fence = refl })
    (λ rs. record { on = onward_still (controller f).w k l; base = refl; journal = refl; fence = refl })
    e s
  where
    still : IsNext (controller f) (controller f) k
    still = record { on = onward_still (controller f).w k l; base = refl; journal = refl; fence = refl }

-- the place of a running stream after an event
place_of : (setup : Setup) (f : Fleet) → IsFleetReached setup f → (e : FleetEvent) → StaysInEpoch e → (id : StreamId) → is_begun (controller f).w id ≡ true → (progress_of (controller f).w id).done ≡ false →
    HasGone (controller f).w (controller (fleet_comes f e).1).w id ⊎ Stands (controller f).w (controller (fleet_comes f e).1).w id
place_of setup f r e s id b d = by_event (λ new. HasGone (controller f).w new.w id ⊎ Stands (controller f).w new.w id) f (inr (stands_still (controller f).w id b))
    (λ h permits m. gone_or_stands (controller f).w (kept_at setup f r) (calm_at setup f r) id b d h m)
    (λ rs. inr (stands_still (controller f).w id b))
    e s

-- ---- a walk along a round

module _ (setup : Setup) (first : Controller) (id : StreamId) (runs : (progress_of first.w id).done ≡ false) where
  -- what holds at an event of a round, of it and of those behind it
  pub record IsWalk (es : List FleetEvent) (f : Fleet) : Type 0 where
    pub reached : IsFleetReached setup f
    pub fit : AllFleetFit setup f es
    pub epoch : AllByRecursion StaysInEpoch es
    pub known : Always AreNamedKnown es f
    pub goes : Goes first (controller f) id

  goes_on_by : (f : Fleet) (e : FleetEvent) → IsFleetReached setup f → StaysInEpoch e → Goes first (controller f) id → Goes first (controller (fleet_comes f e).1) id
  goes_on_by f e r s g =
      let n = next_of f e s id.plan g.on.count in
      record {
        on = onward_on first.w (controller f).w (controller (fleet_comes f e).1).w id.plan g.on n.on;
        base = n.base ∙ g.base;
        journal = n.journal ∙ g.journal;
        fence = n.fence ∙ g.fence;
        place = elim g.place [
          | inl gone ↦ inl (gone_stays first.w (controller f).w (controller (fleet_comes f e).1).w id gone n.on)
          | inr stands ↦ elim (place_of setup f r e s id stands.begun (stands.done ∙ runs)) [
            | inl gone ↦ inl (gone_from first.w (controller f).w (controller (fleet_comes f e).1).w id stands gone)
            | inr more ↦ inr (stands_on first.w (controller f).w (controller (fleet_comes f e).1).w id stands more)
          ]
        ];
      }

  -- the walk goes on behind an event
  pub walk_on : (e : FleetEvent) (es : List FleetEvent) (f : Fleet) → IsWalk (e ∷ es) f → IsWalk es (fleet_comes f e).1
  walk_on e es f w = record {
    reached = reached_on setup f (e ∷ []) w.reached (w.fit.0, tt);
    fit = w.fit.1;
    epoch = w.epoch.1;
    known = w.known.1;
    goes = goes_on_by f e w.reached w.epoch.0 w.goes;
  }

  -- each server that an unfinished plan names has its slots there
  pub known_now : (es : List FleetEvent) (f : Fleet) → IsWalk es f → AreNamedKnown f
  known_now [] f w = w.known
  known_now (e ∷ es) f w = w.known.0

  -- the end of the walk
  pub walk_end : (es : List FleetEvent) (f : Fleet) → IsWalk es f → Goes first (controller (fleet_run es f)) id
  walk_end [] f w = w.goes
  walk_end (e ∷ es) f w = walk_end es (fleet_comes f e).1 (walk_on e es f w)

  -- the stream has gone on at the end
  abbrev pub Ends : List FleetEvent → Fleet → Type 0
  Ends es f = HasGone first.w (controller (fleet_run es f)).w id

  -- it has if it has gone on before
  pub gone_ends : (es : List FleetEvent) (f : Fleet) → IsWalk es f → HasGone first.w (controller f).w id → Ends es f
  gone_ends [] f w g = g
  gone_ends (e ∷ es) f w g =
      gone_ends es (fleet_comes f e).1 (walk_on e es f w) (gone_stays first.w (controller f).w (controller (fleet_comes f e).1).w id g (next_of f e w.epoch.0 id.plan w.goes.on.count).on)

  -- it has if it has where something comes
  pub ends_by : (P : Fleet → FleetEvent → List FleetEvent → Type 0) → ((e : FleetEvent) (es : List FleetEvent) (f : Fleet) → IsWalk (e ∷ es) f → P f e es → Ends es (fleet_comes f e).1) →
      (es : List FleetEvent) (f : Fleet) → IsWalk es f → Sometime P es f → Ends es f
  ends_by P there [] f w s = absurd s
  ends_by P there (e ∷ es) f w (inl p) = there e es f w p
  ends_by P there (e ∷ es) f w (inr s) = ends_by P there es (fleet_comes f e).1 (walk_on e es f w) s
