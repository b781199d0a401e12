-- The permits that servers have go on from entry to entry: no permit comes back.
use Rattle.std.proofs.Common.{◌≡◌, ◌≢◌, ◌≤◌, ◌<◌, ◌⊎◌, ℕ, suc, ◌+◌, refl, sym, ap, ◌∙◌, inl, inr, subst, arith, not, Bool, true, false, Option, Some, None, List, [], ◌∷◌, ◌++◌, length}
use Rattle.std.specs.Prelude.{◌==◌, ◌&&◌, if◌then◌else◌, is_none, slice_get}
use Rattle.std.proofs.lemmas.Bool.{and_from, and_parts, eq-eqb, eqb-true}
use Rattle.sm_placement.specs.Setup.{Setup, sizes_of}
use Rattle.sm_placement.specs.Sums.{bit, put}
use Rattle.sm_plan_code.specs.declared.limits.TheConstants.{MOST_PLACES}
use Rattle.sm_protocol.specs.State.{opened}
use Rattle.sm_protocol.specs.Happens.{Approve, Arrive, Begin, Done, Happening, Lose, PassOn, Refill, Step, engaged, happens}
use Rattle.sm_protocol.proofs.Courses.{some_same}
use Rattle.sm_agent.specs.declared.base.Reception.{Reception}
use Rattle.sm_agent.specs.declared.base.Reception.TheVariants as reception
use Rattle.sm_agent.specs.declared.slot.Slot.{Slot}
use Rattle.sm_agent.specs.declared.order.Verdict.{Verdict}
use Rattle.sm_agent.specs.declared.order.Verdict.TheVariants as verdict
use Rattle.sm_agent.specs.Base.{restored}
use Rattle.sm_agent.specs.Order.{committed, published as judged_by_owner}
use Rattle.laws_network.specs.Net.{is_awaited}
use Rattle.laws_network.specs.World.{is_answered_by, publication_of}
use Rattle.laws_network.specs.Controller.{Answered, Controller, EPOCH, Ended, JournalEntry, Letter, Made, Notice, Opened, Restore, Restored, Stored, are_versions_low, entry_recorded, goes_on, has_no_plan, is_permitted, is_local, replayed, restore_for}
use Rattle.laws_network.specs.Fleet.{Abandon, Commit, End, Fleet, FleetEvent, FleetOutcome, Forget, HearAsk, HearOwner, HearServer, Judge, Make, Open, Publish, Receive, Recover, Seal, SendOrder, SendPublication, Serve, after_owner, after_reception, after_verdict, after_work, by_message, controller, fleet_comes, fleet_run, order_read, slot_for, notice_stamp, verdict_of}
use Rattle.laws_network.specs.FleetLaws.{AllFleetFit, EachFleet, IsFleetOpening, IsFleetReached, PermitsEndOnce, ends_restart, restarts_ended}
use Rattle.laws_network.proofs.Commands.{log_fits}
use Rattle.laws_network.proofs.OfFleet.{fleet_is_reached}
use Rattle.laws_network.proofs.Slots.{put_elim}
use Rattle.laws_reopening.proofs.Within.{fits_append, fleet_on, opening_reached}

-- ---- entries

-- A controller goes on: its base is no lower, its fence is the same, and each permit was there, or is the next number of its log.
pub record IsOn (c new : Controller) : Type 0 where
  pub base : c.base ≤ new.base
  pub fence : new.fence ≡ c.fence
  pub permits : (v permit : ℕ) → new.permits v ≡ Some permit → (c.permits v ≡ Some permit) ⊎ (permit ≡ c.base + length c.w.log + 1)

still : (c : Controller) → IsOn c c
still c = record { base = omega arith; fence = refl; permits = λ v permit e. inl e }

-- an event of the protocol is recorded
goes_on_so : (c : Controller) (h : Happening) → IsOn c (goes_on c h)
goes_on_so c (Approve a) = go (not (c.w.place.down a) && (happens c.w (Approve a)).1.place.down a)
  where
    go : (b : Bool) → IsOn c (record c { w = (happens c.w (Approve a)).1; permits = if b then put c.permits a (Some (c.base + length c.w.log + 1)) else c.permits })
    go false = record { base = omega arith; fence = refl; permits = λ v permit e. inl e }
    go true = record {
      base = omega arith;
      fence = refl;
      permits = λ v permit. put_elim (λ o. o ≡ Some permit → (c.permits v ≡ Some permit) ⊎ (permit ≡ c.base + length c.w.log + 1)) c.permits a (Some (c.base + length c.w.log + 1)) v
          (λ q e. inr (sym (some_same (c.base + length c.w.log + 1) permit e))) (λ q e. inl e);
    }
goes_on_so c (Step id) = record { base = omega arith; fence = refl; permits = λ v permit e. inl e }
goes_on_so c (Lose id after) = record { base = omega arith; fence = refl; permits = λ v permit e. inl e }
goes_on_so c (Refill id more) = record { base = omega arith; fence = refl; permits = λ v permit e. inl e }
goes_on_so c (Arrive s u) = record { base = omega arith; fence = refl; permits = λ v permit e. inl e }
goes_on_so c (PassOn t) = record { base = omega arith; fence = refl; permits = λ v permit e. inl e }
goes_on_so c (Done u) = record { base = omega arith; fence = refl; permits = λ v permit e. inl e }
goes_on_so c (Begin plan) = record { base = omega arith; fence = refl; permits = λ v permit e. inl e }

-- every entry
entry_so : (c : Controller) (e : JournalEntry) → IsOn c (entry_recorded c e)
entry_so c (Made h) = go (is_local c.w h)
  where
    go : (b : Bool) → IsOn c (if b then goes_on c h else c)
    go true = goes_on_so c h
    go false = still c
entry_so c (Answered o) = go (is_awaited c.base c.w o)
  where
    go : (b : Bool) → IsOn c (if b then goes_on c (Step o.stream) else c)
    go true = goes_on_so c (Step o.stream)
    go false = still c
entry_so c (Stored p) = go (is_answered_by p (publication_of c.base c.w p.stream))
  where
    go : (b : Bool) → IsOn c (if b then goes_on c (Step p.stream) else c)
    go true = goes_on_so c (Step p.stream)
    go false = still c
entry_so c (Ended a named) = go (is_permitted (c.permits a) named)
  where
    go : (b : Bool) → IsOn c (if b then record c { w = (happens c.w (Done a)).1; permits = put c.permits a None } else c)
    go false = still c
    go true = record {
      base = omega arith;
      fence = refl;
      permits = λ v permit. put_elim (λ o. o ≡ Some permit → (c.permits v ≡ Some permit) ⊎ (permit ≡ c.base + length c.w.log + 1)) c.permits a None v (λ q e. absurd (cc)) (λ q e. inl e);
    }
entry_so c (Restored a nonce) = go (is_none (engaged c.w a))
  where
    go : (b : Bool) → IsOn c (if b then record c { restores = c.restores ++ restore_for c a nonce ∷ [] } else c)
    go true = record { base = omega arith; fence = refl; permits = λ v permit e. inl e }
    go false = still c
entry_so c (Opened room) = go (has_no_plan c.w && are_versions_low c.w)
  where
    go : (b : Bool) → IsOn c (if b then record c { w = opened c.w.sizes c.w.place room; base = c.base + EPOCH } else c)
    go true = record { base = omega arith; fence = refl; permits = λ v permit e. inl e }
    go false = still c

-- ---- events

message_so : {A : Type 0} (f : Fleet) (g : A → FleetOutcome × Fleet) (o : Option A) → ((x : A) → IsOn (controller f) (controller (g x).1)) → IsOn (controller f) (controller (by_message f g o).1)
message_so f g None h = still (controller f)
message_so f g (Some x) h = h x

-- every event
pub event_so : (f : Fleet) (e : FleetEvent) → IsOn (controller f) (controller (fleet_comes f e).1)
event_so f (Make x) = entry_so (controller f) (Made x)
event_so f (End v permit) = entry_so (controller f) (Ended v permit)
event_so f (Open room) = entry_so (controller f) (Opened room)
event_so f (HearServer place) = message_so f _ (slice_get f.answers place) (λ o. entry_so (controller f) (Answered o))
event_so f (HearOwner place) = message_so f _ (slice_get f.stored place) (λ o. entry_so (controller f) (Stored o))
event_so f (HearAsk place) = message_so f _ (slice_get f.asks place) (λ v. entry_so (controller f) (Restored v (suc place)))
event_so f (SendOrder lost id) = still (controller f)
event_so f (SendPublication lost id) = still (controller f)
event_so f (Judge place) = message_so f _ (slice_get f.sent place) (λ l. by_verdict l (verdict_of f l))
  where
    by_verdict : (l : Letter) (x : Verdict) → IsOn (controller f) (controller (after_verdict f l x))
    by_verdict l verdict.Begin = still (controller f)
    by_verdict l verdict.Working = still (controller f)
    by_verdict l verdict.Again = still (controller f)
    by_verdict l verdict.Old = still (controller f)
    by_verdict l verdict.Foreign = still (controller f)
    by_verdict l verdict.NotReady = still (controller f)
    by_verdict l (verdict.Refused why) = still (controller f)
event_so f (Commit place at) = message_so f _ (slice_get f.sent place) (λ l. by_work l (committed (f.servers l.order.call.server).base (slot_for f l) (order_read l) at))
  where
    by_work : (l : Letter) (o : Option Slot) → IsOn (controller f) (controller (after_work f l o).1)
    by_work l None = still (controller f)
    by_work l (Some x) = still (controller f)
event_so f (Abandon r v) = still (controller f)
event_so f (Publish place) = message_so f _ (slice_get f.published place) (λ n. by_verdict n (judged_by_owner f.owner (f.shown n.publication.shard).version (notice_stamp n)))
  where
    by_verdict : (n : Notice) (x : Verdict) → IsOn (controller f) (controller (after_owner f n.publication x))
    by_verdict n verdict.Begin = still (controller f)
    by_verdict n verdict.Working = still (controller f)
    by_verdict n verdict.Again = still (controller f)
    by_verdict n verdict.Old = still (controller f)
    by_verdict n verdict.Foreign = still (controller f)
    by_verdict n verdict.NotReady = still (controller f)
    by_verdict n (verdict.Refused why) = still (controller f)
event_so f (Serve r v applied) = still (controller f)
event_so f (Receive place applied) = message_so f _ (slice_get f.passes place) (λ h. still (controller f))
event_so f (Seal place) = message_so f _ (slice_get f.passes place) (λ h. still (controller f))
event_so f (Forget v) = still (controller f)
event_so f (Recover place v) = message_so f _ (slice_get (controller f).restores place) (λ x. by_reception x (restored (f.servers v).base x.restoration))
  where
    by_reception : (x : Restore) (y : Reception) → IsOn (controller f) (controller (after_reception f v x y))
    by_reception x (reception.Taken b) = still (controller f)
    by_reception x reception.Again = still (controller f)
    by_reception x reception.Ignored = still (controller f)

-- ---- along events

-- each permit is below the end of the epoch
pub record AreHeld (c : Controller) : Type 0 where
  pub most : (v permit : ℕ) → c.permits v ≡ Some permit → permit ≤ c.base + EPOCH

-- a permit of an earlier epoch, that no server has any more
pub record IsSpent (permit : ℕ) (c : Controller) : Type 0 where
  pub past : permit ≤ c.base
  pub none : (v : ℕ) → c.permits v ≢ Some permit

-- no log is longer than half an epoch
log_low : (setup : Setup) (f : Fleet) → IsFleetReached setup f → length (controller f).w.log ≤ MOST_PLACES
log_low setup f r = log_fits setup (controller f).w (fleet_is_reached setup f r)

held_next : (setup : Setup) (f : Fleet) (e : FleetEvent) → IsFleetReached setup f → AreHeld (controller f) → AreHeld (controller (fleet_comes f e).1)
held_next setup f e r h = record {
  most = λ v permit q.
      let on = event_so f e in
      let b = on.base in
      let l = log_low setup f r in
      elim (on.permits v permit q) [
        | inl old ↦ (let a = h.most v permit old in omega arith)
        | inr new ↦ omega arith
      ];
}

spent_next : (permit : ℕ) (f : Fleet) (e : FleetEvent) → IsSpent permit (controller f) → IsSpent permit (controller (fleet_comes f e).1)
spent_next permit f e s = record {
  past = let a = s.past in let b = (event_so f e).base in omega arith;
  none = λ v q. elim ((event_so f e).permits v permit q) [
    | inl old ↦ s.none v old
    | inr new ↦ absurd (let a = s.past in omega arith)
  ];
}

-- a restart that ends by a permit is that of a server that has it
pub ends_held : (permit : ℕ) (f : Fleet) (e : FleetEvent) → ends_restart permit f e ≡ true → (v : ℕ) × ((controller f).permits v ≡ Some permit)
ends_held permit f (End v named) t =
    let p = and_parts (named == permit) (is_permitted ((controller f).permits v) named) t in
    (v, holds ((controller f).permits v) named p.1 ∙ ap (λ m. let z : Option ℕ = Some m in z) (eqb-true named permit p.0))
  where
    holds : (o : Option ℕ) (n : ℕ) → is_permitted o n ≡ true → o ≡ Some n
    holds None n e = absurd (cc)
    holds (Some m) n e = ap (λ m. let z : Option ℕ = Some m in z) (eqb-true m n e)
ends_held permit f (Make x) t = absurd (cc)
ends_held permit f (Open room) t = absurd (cc)
ends_held permit f (HearServer place) t = absurd (cc)
ends_held permit f (HearOwner place) t = absurd (cc)
ends_held permit f (HearAsk place) t = absurd (cc)
ends_held permit f (SendOrder lost id) t = absurd (cc)
ends_held permit f (SendPublication lost id) t = absurd (cc)
ends_held permit f (Judge place) t = absurd (cc)
ends_held permit f (Commit place at) t = absurd (cc)
ends_held permit f (Abandon r v) t = absurd (cc)
ends_held permit f (Publish place) t = absurd (cc)
ends_held permit f (Serve r v applied) t = absurd (cc)
ends_held permit f (Receive place applied) t = absurd (cc)
ends_held permit f (Seal place) t = absurd (cc)
ends_held permit f (Forget v) t = absurd (cc)
ends_held permit f (Recover place v) t = absurd (cc)

-- the permits of an opening are below the end of its epoch
pub opening_held : (setup : Setup) (f : Fleet) → IsFleetOpening setup f → AreHeld (controller f)
opening_held setup f o = subst AreHeld (sym (ap (λ (j : List JournalEntry). replayed f.start j) o.journal)) (record {
  most = λ v permit e. elim (o.permits.range v permit e) [ inl l ↦ omega arith | inr l ↦ l.1 ];
})

pub held_run : (setup : Setup) (es : List FleetEvent) (f : Fleet) → IsFleetReached setup f → AllFleetFit setup f es → AreHeld (controller f) → AreHeld (controller (fleet_run es f))
held_run setup [] f r fit h = h
held_run setup (e ∷ es) f r fit h = held_run setup es (fleet_comes f e).1 (fleet_on setup f (e ∷ []) r (fit.0, tt)) fit.1 (held_next setup f e r h)

-- so it is wherever events lead
pub reached_held : (setup : Setup) (f : Fleet) → IsFleetReached setup f → AreHeld (controller f)
reached_held setup f r = subst (λ g. AreHeld (controller g)) (sym r.state) (held_run setup r.events r.first (opening_reached setup r.first r.opening) r.fit (opening_held setup r.first r.opening))

-- ---- counts

-- what is counted of one event
pub one_ended : (permit : ℕ) (f : Fleet) (e : FleetEvent) (b : Bool) → ends_restart permit f e ≡ b → (bit (ends_restart permit f e) ≡ 0) ⊎ ((bit (ends_restart permit f e) ≡ 1) × ((v : ℕ) × ((controller f).permits v ≡ Some permit)))
one_ended permit f e false t = inl (ap bit t)
one_ended permit f e true t = inr (ap bit t, ends_held permit f e t)

-- by a permit that is spent nothing ends
pub spent_ends_none : (permit : ℕ) (f : Fleet) (e : FleetEvent) → IsSpent permit (controller f) → (bit (ends_restart permit f e) ≡ 0) × IsSpent permit (controller (fleet_comes f e).1)
spent_ends_none permit f e s = (elim (one_ended permit f e (ends_restart permit f e) refl) [ inl z ↦ z | inr h ↦ absurd (s.none h.1.0 h.1.1) ], spent_next permit f e s)

-- what is counted along two lists adds up
pub ended_append : (permit : ℕ) (es fs : List FleetEvent) (f : Fleet) → restarts_ended permit (es ++ fs) f ≡ restarts_ended permit es f + restarts_ended permit fs (fleet_run es f)
ended_append permit [] fs f = omega arith
ended_append permit (e ∷ es) fs f = let a = ended_append permit es fs (fleet_comes f e).1 in omega arith

-- a permit by which a restart has ended is below the end of the epoch
pub ended_low : (setup : Setup) (permit : ℕ) (es : List FleetEvent) (f : Fleet) → IsFleetReached setup f → AllFleetFit setup f es → AreHeld (controller f) → 1 ≤ restarts_ended permit es f → permit ≤ (controller (fleet_run es f)).base + EPOCH
ended_low setup permit [] f r fit h l = absurd (omega arith)
ended_low setup permit (e ∷ es) f r fit h l = elim (one_ended permit f e (ends_restart permit f e) refl) [
  | inl z ↦ ended_low setup permit es (fleet_comes f e).1 (fleet_on setup f (e ∷ []) r (fit.0, tt)) fit.1 (held_next setup f e r h) (omega arith)
  | inr z ↦ (let a = h.most z.1.0 permit z.1.1 in let b = base_grows (e ∷ es) f in omega arith)
]
  where
    base_grows : (es : List FleetEvent) (f : Fleet) → (controller f).base ≤ (controller (fleet_run es f)).base
    base_grows [] f = omega arith
    base_grows (e ∷ es) f = let a = base_grows es (fleet_comes f e).1 in let b = (event_so f e).base in omega arith

-- a server whose permit has ended a restart does not have it any more
pub ended_lost : (setup : Setup) (permit : ℕ) (es : List FleetEvent) (f : Fleet) → EachFleet PermitsEndOnce → IsFleetReached setup f → AllFleetFit setup f es → 1 ≤ restarts_ended permit es f →
    (v : ℕ) → v < (sizes_of setup).servers → (controller (fleet_run es f)).permits v ≢ Some permit
ended_lost setup permit es f once r fit l v known e = absurd (
    let all = once setup f r (es ++ End v permit ∷ []) permit (fits_append setup es (End v permit ∷ []) f fit (known, tt)) in
    let parts = ended_append permit es (End v permit ∷ []) f in
    let last : ends_restart permit (fleet_run es f) (End v permit) ≡ true =
    and_from (permit == permit) (is_permitted ((controller (fleet_run es f)).permits v) permit) (eq-eqb permit permit refl) (ap (λ o. is_permitted o permit) e ∙ eq-eqb permit permit refl) in
    let one = ap bit last in
    omega arith
    )
