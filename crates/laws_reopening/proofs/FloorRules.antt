-- Only servers that are recorded as down have lost their slots, if all follow the rules.
use Rattle.std.proofs.Common.{◌≡◌, ◌≢◌, ℕ, suc, refl, sym, ap, ◌∙◌, inl, inr, not, Bool, true, false, Option, Some, None, List, [], ◌∷◌, ◌++◌}
use Rattle.std.specs.Prelude.{◌&&◌, ◌+◌, nat_lt, if◌then◌else◌, is_none, slice_get}
use Rattle.std.proofs.lemmas.Bool.{cases_eq}
use Rattle.sm_placement.specs.Sums.{put}
use Rattle.sm_placement.specs.Place.{set_down}
use Rattle.sm_reservation.specs.declared.stream_id.StreamId.{StreamId}
use Rattle.sm_protocol.specs.State.{State, logged, opened, progress_of}
use Rattle.sm_protocol.specs.Steps.{Answered as Said, call_number, unchanged}
use Rattle.sm_protocol.specs.declared.event.Played.{Played}
use Rattle.sm_protocol.specs.declared.event.Played.TheVariants as played
use Rattle.sm_protocol.specs.declared.event.Event.TheVariants as event
use Rattle.sm_protocol.specs.Happens.{Approve, Arrive, Begin, Done, Happening, Lose, PassOn, Refill, Step, engaged, happens}
use Rattle.sm_protocol.specs.declared.event.Passage.{Passage}
use Rattle.sm_protocol.proofs.Cases.{IsQuiet, OfSteps, of_happens}
use Rattle.sm_protocol.proofs.LogRoom.{of_call}
use Rattle.sm_agent.specs.declared.base.Base.{Base}
use Rattle.sm_agent.specs.declared.base.Restoration.{Restoration}
use Rattle.sm_agent.specs.declared.base.Reception.{Reception}
use Rattle.sm_agent.specs.declared.base.Reception.TheVariants as reception
use Rattle.sm_agent.specs.declared.slot.Slot.{Slot}
use Rattle.sm_agent.specs.declared.order.Verdict.{Verdict}
use Rattle.sm_agent.specs.declared.order.Verdict.TheVariants as verdict
use Rattle.sm_agent.specs.Base.{is_meant, lacks_slots, restored}
use Rattle.sm_agent.specs.Order.{committed, published as judged_by_owner}
use Rattle.laws_network.specs.Net.{is_awaited}
use Rattle.laws_network.specs.World.{is_answered_by, publication_of}
use Rattle.laws_network.specs.Controller.{Answered, Controller, EPOCH, Ended, JournalEntry, Letter, Made, Notice, Opened, Restore, Restored, Stored, entry_recorded, are_versions_low, goes_on, has_no_plan, is_permitted, is_local, restore_for}
use Rattle.laws_network.specs.Fleet.{Abandon, Commit, End, Fleet, FleetEvent, FleetOutcome, Forget, HearAsk, HearOwner, HearServer, Judge, Make, Open, Publish, Receive, Recover, Seal, SendOrder, SendPublication, Serve, Server, after_owner, after_reception, after_verdict, after_work, by_message, controller, fleet_comes, fleet_run, has_lost, order_read, slot_for, notice_stamp, verdict_of, with_slot}
use Rattle.laws_network.specs.FleetLaws.{EachFleet, FleetIsSafe}
use Rattle.laws_network.proofs.Slots.{put_elim}
use Rattle.laws_reopening.specs.FloorRules.{AllFollowRules, AreLostDown, FollowsRules, RulesKeepFloors}
use Rattle.laws_reopening.proofs.Within.{fleet_on}

-- ---- who is down

-- who was down is so
abbrev StayDown : State → State → Type 0
StayDown w new = (v : ℕ) → w.place.down v ≡ true → new.place.down v ≡ true

-- by each event but the end of a restart
abbrev KeepsDown : State → Happening → State → Type 0
KeepsDown w (Done u) new = Unit {0}
KeepsDown w _ new = StayDown w new

by_steps : (w : State) (id : StreamId) (passage : Passage) → OfSteps w id passage (λ o. StayDown w o.1)
by_steps w id passage = record {
  idle = λ answer v d. d;
  refused = λ i x why t e v d. d;
  at_end = λ b v d. d;
  publishes = λ i s server b c v d. d;
  posts = λ q b v d. d;
  awaits = λ q b e v d. d;
  lost = λ i x t p v d. d;
  through = λ i x effect t a p. λ v d. ap (λ (f : ℕ → Bool). f v) (of_call w.sizes w.place x.shard x.server x.call (call_number w (progress_of w id)) effect a).down ∙ d;
  unanswered = λ i x effect t a p. λ v d. ap (λ (f : ℕ → Bool). f v) (of_call w.sizes w.place x.shard x.server x.call (call_number w (progress_of w id)) effect a).down ∙ d;
}

stays_down : (w : State) (e : Happening) → KeepsDown w e (happens w e).1
stays_down w e = of_happens w (λ e o. KeepsDown w e o.1) (record {
  idle = idle;
  steps = λ id. by_steps w id _;
  loses = λ id after. by_steps w id _;
  refills = λ id n f v d. d;
  arrives = λ s u f v d. d;
  passes_on = λ t o f v d. d;
  approves = λ u f v d. put_elim (λ b. b ≡ true) w.place.down u true v (λ q. refl) (λ q. d);
  restarts = λ u f. tt;
  starts = λ plan a b c v d. d;
}) e
  where
    idle : (e : Happening) (answer : Played) → IsQuiet answer → KeepsDown w e (unchanged w answer).1
    idle (Done u) answer n = tt
    idle (Step id) answer n = λ v d. d
    idle (Lose id after) answer n = λ v d. d
    idle (Refill id more) answer n = λ v d. d
    idle (Arrive s u) answer n = λ v d. d
    idle (PassOn t) answer n = λ v d. d
    idle (Approve u) answer n = λ v d. d
    idle (Begin plan) answer n = λ v d. d

-- a local event is no end of a restart
made_down : (w : State) (e : Happening) → is_local w e ≡ true → KeepsDown w e (happens w e).1 → StayDown w (happens w e).1
made_down w (Done u) n k = absurd (cc)
made_down w (Step id) n k = k
made_down w (Lose id after) n k = k
made_down w (Refill id more) n k = k
made_down w (Arrive s u) n k = k
made_down w (PassOn t) n k = k
made_down w (Approve u) n k = k
made_down w (Begin plan) n k = k

-- every entry but the end of a restart
abbrev EndsNone : JournalEntry → Type 0
EndsNone (Ended v permit) = ⊥
EndsNone _ = Unit {0}

entry_down : (c : Controller) (e : JournalEntry) → EndsNone e → StayDown c.w (entry_recorded c e).w
entry_down c (Made h) n = go (is_local c.w h) refl
  where
    go : (b : Bool) → is_local c.w h ≡ b → StayDown c.w (if b then goes_on c h else c).w
    go true q = made_down c.w h q (stays_down c.w h)
    go false q = λ v d. d
entry_down c (Answered o) n = go (is_awaited c.base c.w o)
  where
    go : (b : Bool) → StayDown c.w (if b then goes_on c (Step o.stream) else c).w
    go true = stays_down c.w (Step o.stream)
    go false = λ v d. d
entry_down c (Stored p) n = go (is_answered_by p (publication_of c.base c.w p.stream))
  where
    go : (b : Bool) → StayDown c.w (if b then goes_on c (Step p.stream) else c).w
    go true = stays_down c.w (Step p.stream)
    go false = λ v d. d
entry_down c (Ended v permit) n = absurd n
entry_down c (Restored u nonce) n = go (is_none (engaged c.w u))
  where
    go : (b : Bool) → StayDown c.w (if b then record c { restores = c.restores ++ restore_for c u nonce ∷ [] } else c).w
    go true = λ v d. d
    go false = λ v d. d
entry_down c (Opened room) n = go (has_no_plan c.w && are_versions_low c.w)
  where
    go : (b : Bool) → StayDown c.w (if b then record c { w = opened c.w.sizes c.w.place room; base = c.base + EPOCH } else c).w
    go true = λ v d. d
    go false = λ v d. d

-- ---- who has lost its slots

-- whoever has lost its slots afterwards had lost them before, or loses them now while it is down
abbrev LosesDown : Fleet → Fleet → Type 0
LosesDown f g = (v : ℕ) → has_lost g v ≡ true → has_lost f v ≡ true

-- no entry touches a server
entry_lost : (f : Fleet) (e : JournalEntry) → LosesDown f (record f { journal = e ∷ f.journal })
entry_lost f e v h = h

-- a slot of a server
slot_lost : (f : Fleet) (s v : ℕ) (slot : Slot) → LosesDown f (with_slot f s v slot)
slot_lost f s v slot u = put_elim (λ (x : Server). lacks_slots x.base ≡ true → has_lost f u ≡ true) f.servers v (record (f.servers v) { slots = put (f.servers v).slots s slot }) u
    (λ q h. ap (λ n. has_lost f n) q ∙ h) (λ q h. h)

-- Every fleet after which the same servers or fewer have lost their slots, and those that were down are down.
abbrev IsKeptDown : Fleet → Fleet → Type 0
IsKeptDown f g = LosesDown f g × StayDown (controller f).w (controller g).w

kept_down : (f g : Fleet) → IsKeptDown f g → AreLostDown f → AreLostDown g
kept_down f g k a v h = k.1 v (a v (k.0 v h))

still : (f : Fleet) → IsKeptDown f f
still f = (λ v h. h, λ v d. d)

by_entry : (f : Fleet) (e : JournalEntry) → EndsNone e → IsKeptDown f (record f { journal = e ∷ f.journal })
by_entry f e n = (λ v h. h, entry_down (controller f) e n)

by_slot : (f : Fleet) (s v : ℕ) (slot : Slot) → IsKeptDown f (with_slot f s v slot)
by_slot f s v slot = (slot_lost f s v slot, λ u d. d)

message : {A : Type 0} (f : Fleet) (g : A → FleetOutcome × Fleet) (o : Option A) → ((x : A) → IsKeptDown f (g x).1) → IsKeptDown f (by_message f g o).1
message f g None h = still f
message f g (Some x) h = h x

-- ---- restores

-- a server that has taken one has its slots
abbrev lacks_after : Reception → Bool
lacks_after (reception.Taken base) = lacks_slots base
lacks_after _ = false

taken_known : (base new : Base) (r : Restoration) → restored base r ≡ reception.Taken new → lacks_slots new ≡ false
taken_known base new r = go (is_meant base.nonce (Some r.nonce) && not (base.fenced && nat_lt r.fence base.number))
  where
    go : (b : Bool) → (if b then reception.Taken (record { journal = r.journal; number = r.number; fenced = false; nonce = None }) else reception.Ignored) ≡ reception.Taken new → lacks_slots new ≡ false
    go true q = sym (ap lacks_after q)
    go false q = absurd (cc)

by_reception : (f : Fleet) (v : ℕ) (r : Restore) (y : Reception) → restored (f.servers v).base r.restoration ≡ y → IsKeptDown f (after_reception f v r y)
by_reception f v r (reception.Taken base) q = (
  λ u. put_elim (λ (x : Server). lacks_slots x.base ≡ true → has_lost f u ≡ true) f.servers v _ u
      (λ e h. absurd (let k = taken_known (f.servers v).base base r.restoration q in cc)) (λ e h. h),
  λ u d. d,
)
by_reception f v r reception.Again q = still f
by_reception f v r reception.Ignored q = still f

-- ---- ends of restarts

-- the end of a restart brings its server up alone
done_down : (w : State) (v u : ℕ) → u ≢ v → w.place.down u ≡ true → (happens w (Done v)).1.place.down u ≡ true
done_down w v u n d = go (w.place.down v)
  where
    go : (b : Bool) → (if b then (Said played.Up, record w { place = set_down w.place v false; log = logged w (event.Done v) played.Up }) else unchanged w played.Unknown).1.place.down u ≡ true
    go true = put_elim (λ b. b ≡ true) w.place.down v false u (λ e. absurd (n e)) (λ e. d)
    go false = d

ended_down : (f : Fleet) (v permit : ℕ) → FollowsRules f (End v permit) → AreLostDown f → AreLostDown (fleet_comes f (End v permit)).1
ended_down f v permit rule a u h = go (is_permitted ((controller f).permits v) permit) refl
  where
    go : (b : Bool) → is_permitted ((controller f).permits v) permit ≡ b →
        (if b then record (controller f) { w = (happens (controller f).w (Done v)).1; permits = put (controller f).permits v None } else controller f).w.place.down u ≡ true
    go true q = elim (cases_eq u v) [
      | inl e ↦ absurd (let k = rule q in let g = ap (λ n. has_lost f n) e in cc)
      | inr n ↦ done_down (controller f).w v u n (a u h)
    ]
    go false q = a u h

-- ---- events

event_down : (f : Fleet) (e : FleetEvent) → FollowsRules f e → AreLostDown f → AreLostDown (fleet_comes f e).1
event_down f (Make x) rule a = kept_down f (fleet_comes f (Make x)).1 (by_entry f (Made x) tt) a
event_down f (End v permit) rule a = ended_down f v permit rule a
event_down f (Open room) rule a = kept_down f (fleet_comes f (Open room)).1 (by_entry f (Opened room) tt) a
event_down f (HearServer place) rule a = kept_down f (fleet_comes f (HearServer place)).1 (message f _ (slice_get f.answers place) (λ o. by_entry f (Answered o) tt)) a
event_down f (HearOwner place) rule a = kept_down f (fleet_comes f (HearOwner place)).1 (message f _ (slice_get f.stored place) (λ p. by_entry f (Stored p) tt)) a
event_down f (HearAsk place) rule a = kept_down f (fleet_comes f (HearAsk place)).1 (message f _ (slice_get f.asks place) (λ v. by_entry f (Restored v (suc place)) tt)) a
event_down f (SendOrder lost id) rule a = a
event_down f (SendPublication lost id) rule a = a
event_down f (Judge place) rule a = kept_down f (fleet_comes f (Judge place)).1 (message f _ (slice_get f.sent place) (λ l. by_verdict l (verdict_of f l))) a
  where
    by_verdict : (l : Letter) (x : Verdict) → IsKeptDown f (after_verdict f l x)
    by_verdict l verdict.Begin = by_slot f l.order.call.shard l.order.call.server _
    by_verdict l verdict.Working = still f
    by_verdict l verdict.Again = still f
    by_verdict l verdict.Old = still f
    by_verdict l verdict.Foreign = still f
    by_verdict l verdict.NotReady = still f
    by_verdict l (verdict.Refused why) = still f
event_down f (Commit place at) rule a = kept_down f (fleet_comes f (Commit place at)).1 (message f _ (slice_get f.sent place) (λ l. by_work l (committed (f.servers l.order.call.server).base (slot_for f l) (order_read l) at))) a
  where
    by_work : (l : Letter) (o : Option Slot) → IsKeptDown f (after_work f l o).1
    by_work l None = still f
    by_work l (Some x) = by_slot f l.order.call.shard l.order.call.server x
event_down f (Abandon r v) rule a = kept_down f (fleet_comes f (Abandon r v)).1 (by_slot f r v _) a
event_down f (Publish place) rule a = kept_down f (fleet_comes f (Publish place)).1 (message f _ (slice_get f.published place) (λ n. by_verdict n (judged_by_owner f.owner (f.shown n.publication.shard).version (notice_stamp n)))) a
  where
    by_verdict : (n : Notice) (x : Verdict) → IsKeptDown f (after_owner f n.publication x)
    by_verdict n verdict.Begin = still f
    by_verdict n verdict.Working = still f
    by_verdict n verdict.Again = still f
    by_verdict n verdict.Old = still f
    by_verdict n verdict.Foreign = still f
    by_verdict n verdict.NotReady = still f
    by_verdict n (verdict.Refused why) = still f
event_down f (Serve r v applied) rule a = a
event_down f (Receive place applied) rule a = kept_down f (fleet_comes f (Receive place applied)).1 (message f _ (slice_get f.passes place) (λ h. still f)) a
event_down f (Seal place) rule a = kept_down f (fleet_comes f (Seal place)).1 (message f _ (slice_get f.passes place) (λ h. by_slot f h.shard h.target _)) a
event_down f (Forget v) rule a = λ u h. put_elim (λ (x : Server). lacks_slots x.base ≡ true → (controller f).w.place.down u ≡ true) f.servers v _ u
    (λ e g. ap (λ n. (controller f).w.place.down n) e ∙ rule) (λ e g. a u g) h
event_down f (Recover place v) rule a = kept_down f (fleet_comes f (Recover place v)).1 (message f _ (slice_get (controller f).restores place) (λ r. by_reception f v r (restored (f.servers v).base r.restoration) refl)) a

lost_down : (es : List FleetEvent) (f : Fleet) → AllFollowRules f es → AreLostDown f → AreLostDown (fleet_run es f)
lost_down [] f rules a = a
lost_down (e ∷ es) f rules a = lost_down es (fleet_comes f e).1 rules.1 (event_down f e rules.0 a)

-- so floors are kept
pub rules_keep_floors : EachFleet FleetIsSafe → EachFleet RulesKeepFloors
rules_keep_floors safe setup f r a es fit rules =
    let down = lost_down es f rules a in
    (down, (safe setup (fleet_run es f) (fleet_on setup f es r fit)).floors (λ v l. down v))
