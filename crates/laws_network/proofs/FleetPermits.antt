-- A permit ends at most one restart.
use Rattle.std.proofs.Common.{◌≡◌, ◌≢◌, ℕ, suc, ◌+◌, ◌≤◌, ◌<◌, ◌⊎◌, refl, sym, ap, ◌∙◌, inl, inr, subst, arith, not, Bool, true, false, Option, Some, None, List, [], ◌∷◌, ◌++◌, length}
use Rattle.std.specs.Prelude.{◌==◌, ◌&&◌, if◌then◌else◌, is_none, slice_get}
use Rattle.std.proofs.lemmas.Bool.{and_parts, cases_Bool, eqb-true}
use Rattle.sm_placement.specs.Setup.{Setup}
use Rattle.sm_placement.specs.Sums.{bit, put}
use Rattle.sm_plan_code.specs.declared.limits.TheConstants.{MOST_PLACES}
use Rattle.sm_protocol.specs.declared.event.Event.TheVariants as event
use Rattle.sm_protocol.specs.declared.event.Played.TheVariants as played
use Rattle.sm_task_controller.specs.declared.decision.Denied.{Denied}
use Rattle.sm_protocol.specs.State.{free_places, opened, pool}
use Rattle.sm_protocol.specs.Happens.{Approve, Arrive, Begin, Done, Happening, Lose, PassOn, Refill, Step, approved, denial, engaged, happens}
use Rattle.sm_protocol.proofs.Courses.{some_same}
use Rattle.sm_protocol.proofs.LogRoom.{length_logged}
use Rattle.sm_agent.specs.declared.base.Reception.{Reception}
use Rattle.sm_agent.specs.declared.base.Reception.TheVariants as reception
use Rattle.sm_agent.specs.declared.slot.Slot.{Slot}
use Rattle.sm_agent.specs.declared.order.Verdict.{Verdict}
use Rattle.sm_agent.specs.declared.order.Verdict.TheVariants as verdict
use Rattle.sm_agent.specs.Base.{restored}
use Rattle.sm_agent.specs.Order.{committed, published as judged_by_owner}
use Rattle.laws_network.specs.Net.{is_awaited}
use Rattle.laws_network.specs.World.{is_answered_by, publication_of}
use Rattle.laws_network.specs.Controller.{Answered, Controller, EPOCH, Ended, JournalEntry, Letter, Made, Notice, Opened, Restore, Restored, Stored, are_versions_low, entry_recorded, goes_on, has_no_plan, is_permitted, is_local, permits_after, replayed, restore_for}
use Rattle.laws_network.specs.Fleet.{Abandon, Commit, End, Fleet, FleetEvent, FleetOutcome, Forget, HearAsk, HearOwner, HearServer, Judge, Make, Open, Publish, Receive, Recover, Seal, SendOrder, SendPublication, Serve, after_owner, after_reception, after_verdict, after_work, by_message, controller, fleet_comes, fleet_run, order_read, slot_for, notice_stamp, verdict_of}
use Rattle.laws_network.specs.FleetLaws.{AllFleetFit, EachFleet, PermitsEndOnce, ends_restart, restarts_ended}
use Rattle.laws_network.proofs.Commands.{log_fits, log_grows, state_reached}
use Rattle.laws_network.proofs.Reaching.{comes_shadow, fleet_shadow, opening_shadow}
use Rattle.laws_network.proofs.Shadow.{IsShadow}
use Rattle.laws_network.proofs.Slots.{put_elim}

-- a permit that was given, or stands beside those that will be
abbrev IsGiven : Controller → ℕ → Type 0
IsGiven c permit = (permit ≤ c.base + length c.w.log) ⊎ ((c.base + MOST_PLACES < permit) × (permit ≤ c.base + EPOCH))

-- each permit was given, and is of one server
record AreApart (c : Controller) : Type 0 where
  pub given : (v permit : ℕ) → c.permits v ≡ Some permit → IsGiven c permit
  pub apart : (u v permit : ℕ) → c.permits u ≡ Some permit → c.permits v ≡ Some permit → u ≡ v

-- a permit that was given, and that no server has any more
record IsOver (c : Controller) (permit : ℕ) : Type 0 where
  pub given : IsGiven c permit
  pub none : (v : ℕ) → c.permits v ≢ Some permit

-- what permits there are over an entry: none, or one that is new, or one less
data IsStep (c new : Controller) : Type 0 where
  Same : new.permits ≡ c.permits → IsStep c new
  New : (v : ℕ) → new.permits ≡ put c.permits v (Some (c.base + length c.w.log + 1)) → new.base ≡ c.base → length new.w.log ≡ length c.w.log + 1 → length new.w.log ≤ MOST_PLACES → IsStep c new
  Less : (v : ℕ) → new.permits ≡ put c.permits v None → IsStep c new

-- an entry keeps what was given
given_goes : (c new : Controller) → c.base + length c.w.log ≤ new.base + length new.w.log → (new.base ≡ c.base) ⊎ (new.base ≡ c.base + EPOCH) → (permit : ℕ) → IsGiven c permit → IsGiven new permit
given_goes c new top base permit (inl l) = inl (omega arith)
given_goes c new top (inl same) permit (inr r) = inr (let a = r.0 in let b = r.1 in (omega arith, omega arith))
given_goes c new top (inr more) permit (inr r) = inl (let b = r.1 in omega arith)

-- how the controller's numbers go on
record IsOn (c new : Controller) : Type 0 where
  pub top : c.base + length c.w.log ≤ new.base + length new.w.log
  pub base : (new.base ≡ c.base) ⊎ (new.base ≡ c.base + EPOCH)
  pub step : IsStep c new

apart_by : (c new : Controller) → IsOn c new → AreApart c → AreApart new
apart_by c new on a = go on.step
  where
    more : (permit : ℕ) → IsGiven c permit → IsGiven new permit
    more = given_goes c new on.top on.base

    go : IsStep c new → AreApart new
    go (Same e) = record {
      given = λ v permit h. more permit (a.given v permit (sym (ap (λ p. p v) e) ∙ h));
      apart = λ u v permit h k. a.apart u v permit (sym (ap (λ p. p u) e) ∙ h) (sym (ap (λ p. p v) e) ∙ k);
    }
    go (Less w e) = record {
      given = λ v permit h. put_elim (λ o. o ≡ Some permit → IsGiven new permit) c.permits w None v (λ q k. absurd (cc)) (λ q k. more permit (a.given v permit k)) (sym (ap (λ p. p v) e) ∙ h);
      apart = λ u v permit h k. a.apart u v permit (old u permit (sym (ap (λ p. p u) e) ∙ h)) (old v permit (sym (ap (λ p. p v) e) ∙ k));
    }
      where
        old : (u permit : ℕ) → put c.permits w None u ≡ Some permit → c.permits u ≡ Some permit
        old u permit = put_elim (λ o. o ≡ Some permit → c.permits u ≡ Some permit) c.permits w None u (λ q k. absurd (cc)) (λ q k. k)
    go (New w e base log most) = record {
      given = λ v permit h. put_elim (λ o. o ≡ Some permit → IsGiven new permit) c.permits w (Some (c.base + length c.w.log + 1)) v
          (λ q k. inl (let z = some_same (c.base + length c.w.log + 1) permit k in omega arith)) (λ q k. more permit (a.given v permit k)) (sym (ap (λ p. p v) e) ∙ h);
      apart = λ u v permit h k. both u v permit (sym (ap (λ p. p u) e) ∙ h) (sym (ap (λ p. p v) e) ∙ k);
    }
      where
        fresh : (permit : ℕ) → IsGiven c permit → permit ≡ c.base + length c.w.log + 1 → ⊥
        fresh permit (inl l) q = absurd (omega arith)
        fresh permit (inr r) q = absurd (let z = r.0 in omega arith)

        both : (u v permit : ℕ) → put c.permits w (Some (c.base + length c.w.log + 1)) u ≡ Some permit → put c.permits w (Some (c.base + length c.w.log + 1)) v ≡ Some permit → u ≡ v
        both u v permit = put_elim (λ o. o ≡ Some permit → put c.permits w (Some (c.base + length c.w.log + 1)) v ≡ Some permit → u ≡ v) c.permits w (Some (c.base + length c.w.log + 1)) u
            (λ q h. put_elim (λ o. o ≡ Some permit → u ≡ v) c.permits w (Some (c.base + length c.w.log + 1)) v (λ r k. q ∙ sym r) (λ r k. absurd (fresh permit (a.given v permit k) (sym (some_same (c.base + length c.w.log + 1) permit h)))))
            (λ q h. put_elim (λ o. o ≡ Some permit → u ≡ v) c.permits w (Some (c.base + length c.w.log + 1)) v (λ r k. absurd (fresh permit (a.given u permit h) (sym (some_same (c.base + length c.w.log + 1) permit k)))) (λ r k. a.apart u v permit h k))

over_by : (c new : Controller) → IsOn c new → (permit : ℕ) → IsOver c permit → IsOver new permit
over_by c new on permit o = record { given = given_goes c new on.top on.base permit o.given; none = go on.step }
  where
    go : IsStep c new → (v : ℕ) → new.permits v ≢ Some permit
    go (Same e) v h = o.none v (sym (ap (λ p. p v) e) ∙ h)
    go (Less w e) v h = put_elim (λ x. x ≡ Some permit → ⊥) c.permits w None v (λ q k. absurd (cc)) (λ q k. o.none v k) (sym (ap (λ p. p v) e) ∙ h)
    go (New w e base log most) v h = put_elim (λ x. x ≡ Some permit → ⊥) c.permits w (Some (c.base + length c.w.log + 1)) v
        (λ q k. fresh o.given (some_same (c.base + length c.w.log + 1) permit k)) (λ q k. o.none v k) (sym (ap (λ p. p v) e) ∙ h)
      where
        fresh : IsGiven c permit → c.base + length c.w.log + 1 ≡ permit → ⊥
        fresh (inl l) q = absurd (omega arith)
        fresh (inr r) q = absurd (let z = r.0 in omega arith)

-- ---- entries

on_still : (c : Controller) → IsOn c c
on_still c = record { top = omega arith; base = inl refl; step = Same refl }

on_step : (c : Controller) (h : Happening) (permits : ℕ → Option ℕ) → IsStep c (record c { w = (happens c.w h).1; permits = permits }) → IsOn c (record c { w = (happens c.w h).1; permits = permits })
on_step c h permits step = record { top = (let a = log_grows c.w h in omega arith); base = inl refl; step = step }

-- an approval that takes a server down is recorded
approval : (c : Controller) (v : ℕ) → length (happens c.w (Approve v)).1.log ≤ MOST_PLACES → IsStep c (record c { w = (happens c.w (Approve v)).1; permits = permits_after c (Approve v) (happens c.w (Approve v)).1 })
approval c v most = go (denial c.w.sizes c.w.place (pool c.w) (engaged c.w v) (free_places c.w) v) most
  where
    same_down : (b : Bool) → (not b && b) ≡ false
    same_down true = refl
    same_down false = refl

    go : (o : Option Denied) → length (approved c.w v o).1.log ≤ MOST_PLACES → IsStep c (record c { w = (approved c.w v o).1; permits = permits_after c (Approve v) (approved c.w v o).1 })
    go (Some why) m = Same (ap (λ b. if b then put c.permits v (Some (c.base + length c.w.log + 1)) else c.permits) (same_down (c.w.place.down v)))
    go None m = by_test (not (c.w.place.down v) && (approved c.w v None).1.place.down v) refl
      where
        by_test : (b : Bool) → (not (c.w.place.down v) && (approved c.w v None).1.place.down v) ≡ b → IsStep c (record c { w = (approved c.w v None).1; permits = permits_after c (Approve v) (approved c.w v None).1 })
        by_test true e = New v (ap (λ b. if b then put c.permits v (Some (c.base + length c.w.log + 1)) else c.permits) e) refl (length_logged c.w (event.Approve v) played.Approved) m
        by_test false e = Same (ap (λ b. if b then put c.permits v (Some (c.base + length c.w.log + 1)) else c.permits) e)

-- events of the protocol
made_step : (c : Controller) (h : Happening) → length (happens c.w h).1.log ≤ MOST_PLACES → IsStep c (goes_on c h)
made_step c (Approve v) most = approval c v most
made_step c (Step id) most = Same refl
made_step c (Lose id after) most = Same refl
made_step c (Refill id more) most = Same refl
made_step c (Arrive s v) most = Same refl
made_step c (PassOn t) most = Same refl
made_step c (Done v) most = Same refl
made_step c (Begin plan) most = Same refl

-- every entry
entry_on : (c : Controller) (e : JournalEntry) → length c.w.log ≤ MOST_PLACES → length (entry_recorded c e).w.log ≤ MOST_PLACES → IsOn c (entry_recorded c e)
entry_on c (Made h) low most = go (is_local c.w h) most
  where
    go : (b : Bool) → length (if b then goes_on c h else c).w.log ≤ MOST_PLACES → IsOn c (if b then goes_on c h else c)
    go true m = on_step c h _ (made_step c h m)
    go false m = on_still c
entry_on c (Answered o) low most = go (is_awaited c.base c.w o)
  where
    go : (b : Bool) → IsOn c (if b then goes_on c (Step o.stream) else c)
    go true = on_step c (Step o.stream) _ (Same refl)
    go false = on_still c
entry_on c (Stored p) low most = go (is_answered_by p (publication_of c.base c.w p.stream))
  where
    go : (b : Bool) → IsOn c (if b then goes_on c (Step p.stream) else c)
    go true = on_step c (Step p.stream) _ (Same refl)
    go false = on_still c
entry_on c (Ended v permit) low most = go (is_permitted (c.permits v) permit)
  where
    go : (b : Bool) → IsOn c (if b then record c { w = (happens c.w (Done v)).1; permits = put c.permits v None } else c)
    go true = on_step c (Done v) _ (Less v refl)
    go false = on_still c
entry_on c (Restored v nonce) low most = go (is_none (engaged c.w v))
  where
    go : (b : Bool) → IsOn c (if b then record c { restores = c.restores ++ restore_for c v nonce ∷ [] } else c)
    go true = record { top = omega arith; base = inl refl; step = Same refl }
    go false = on_still c
entry_on c (Opened room) low most = go (has_no_plan c.w && are_versions_low c.w)
  where
    go : (b : Bool) → IsOn c (if b then record c { w = opened c.w.sizes c.w.place room; base = c.base + EPOCH } else c)
    go true = record { top = omega arith; base = inr refl; step = Same refl }
    go false = on_still c

-- ---- events

-- an event writes an entry, or leaves the controller as it is
data IsWriting (f : Fleet) (e : FleetEvent) (new : Fleet) : Type 0 where
  Still : controller new ≡ controller f → ((permit : ℕ) → ends_restart permit f e ≡ false) → IsWriting f e new
  Writes : (x : JournalEntry) → controller new ≡ entry_recorded (controller f) x → ((permit : ℕ) → ends_restart permit f e ≡ false) → IsWriting f e new
  Ends : (v permit : ℕ) → e ≡ End v permit → controller new ≡ entry_recorded (controller f) (Ended v permit) → IsWriting f e new

message_writes : {A : Type 0} (f : Fleet) (e : FleetEvent) (g : A → FleetOutcome × Fleet) (o : Option A) → ((permit : ℕ) → ends_restart permit f e ≡ false) → ((x : A) → IsWriting f e (g x).1) → IsWriting f e (by_message f g o).1
message_writes f e g None n h = Still refl n
message_writes f e g (Some x) n h = h x

writing : (f : Fleet) (e : FleetEvent) → IsWriting f e (fleet_comes f e).1
writing f (Make x) = Writes (Made x) refl (λ p. refl)
writing f (End v permit) = Ends v permit refl refl
writing f (Open room) = Writes (Opened room) refl (λ p. refl)
writing f (HearServer place) = message_writes f (HearServer place) _ (slice_get f.answers place) (λ p. refl) (λ o. Writes (Answered o) refl (λ p. refl))
writing f (HearOwner place) = message_writes f (HearOwner place) _ (slice_get f.stored place) (λ p. refl) (λ o. Writes (Stored o) refl (λ p. refl))
writing f (HearAsk place) = message_writes f (HearAsk place) _ (slice_get f.asks place) (λ p. refl) (λ v. Writes (Restored v (suc place)) refl (λ p. refl))
writing f (SendOrder lost id) = Still refl (λ p. refl)
writing f (SendPublication lost id) = Still refl (λ p. refl)
writing f (Judge place) = message_writes f (Judge place) _ (slice_get f.sent place) (λ p. refl) (λ l. by_verdict l (verdict_of f l))
  where
    by_verdict : (l : Letter) (x : Verdict) → IsWriting f (Judge place) (after_verdict f l x)
    by_verdict l verdict.Begin = Still refl (λ p. refl)
    by_verdict l verdict.Working = Still refl (λ p. refl)
    by_verdict l verdict.Again = Still refl (λ p. refl)
    by_verdict l verdict.Old = Still refl (λ p. refl)
    by_verdict l verdict.Foreign = Still refl (λ p. refl)
    by_verdict l verdict.NotReady = Still refl (λ p. refl)
    by_verdict l (verdict.Refused why) = Still refl (λ p. refl)
writing f (Commit place at) = message_writes f (Commit place at) _ (slice_get f.sent place) (λ p. refl) (λ l. by_work l (committed (f.servers l.order.call.server).base (slot_for f l) (order_read l) at))
  where
    by_work : (l : Letter) (o : Option Slot) → IsWriting f (Commit place at) (after_work f l o).1
    by_work l None = Still refl (λ p. refl)
    by_work l (Some x) = Still refl (λ p. refl)
writing f (Abandon r v) = Still refl (λ p. refl)
writing f (Publish place) = message_writes f (Publish place) _ (slice_get f.published place) (λ p. refl) (λ n. by_verdict n (judged_by_owner f.owner (f.shown n.publication.shard).version (notice_stamp n)))
  where
    by_verdict : (n : Notice) (x : Verdict) → IsWriting f (Publish place) (after_owner f n.publication x)
    by_verdict n verdict.Begin = Still refl (λ p. refl)
    by_verdict n verdict.Working = Still refl (λ p. refl)
    by_verdict n verdict.Again = Still refl (λ p. refl)
    by_verdict n verdict.Old = Still refl (λ p. refl)
    by_verdict n verdict.Foreign = Still refl (λ p. refl)
    by_verdict n verdict.NotReady = Still refl (λ p. refl)
    by_verdict n (verdict.Refused why) = Still refl (λ p. refl)
writing f (Serve r v applied) = Still refl (λ p. refl)
writing f (Receive place applied) = message_writes f (Receive place applied) _ (slice_get f.passes place) (λ p. refl) (λ h. Still refl (λ p. refl))
writing f (Seal place) = message_writes f (Seal place) _ (slice_get f.passes place) (λ p. refl) (λ h. Still refl (λ p. refl))
writing f (Forget v) = Still refl (λ p. refl)
writing f (Recover place v) = message_writes f (Recover place v) _ (slice_get (controller f).restores place) (λ p. refl) (λ x. by_reception x (restored (f.servers v).base x.restoration))
  where
    by_reception : (x : Restore) (y : Reception) → IsWriting f (Recover place v) (after_reception f v x y)
    by_reception x (reception.Taken b) = Still refl (λ p. refl)
    by_reception x reception.Again = Still refl (λ p. refl)
    by_reception x reception.Ignored = Still refl (λ p. refl)

-- ---- once

-- what is counted of a permit along a list of events
record IsEndedOnce (f : Fleet) (permit : ℕ) (es : List FleetEvent) : Type 0 where
  pub most : restarts_ended permit es f ≤ 1
  pub none : IsOver (controller f) permit → restarts_ended permit es f ≡ 0

-- the restart that ends by a permit is the one of its server: no other has it then
over_after : (c : Controller) (v permit : ℕ) → AreApart c → is_permitted (c.permits v) permit ≡ true → IsOver (entry_recorded c (Ended v permit)) permit
over_after c v permit a t = subst (λ x. IsOver x permit) (sym (ap (λ b. if b then record c { w = (happens c.w (Done v)).1; permits = put c.permits v None } else c) t)) (record {
  given = given_goes c (record c { w = (happens c.w (Done v)).1; permits = put c.permits v None }) (let g = log_grows c.w (Done v) in omega arith) (inl refl) permit (a.given v permit (has (c.permits v) t));
  none = λ u. put_elim (λ o. o ≡ Some permit → ⊥) c.permits v None u (λ q k. absurd (cc)) (λ q k. q (a.apart u v permit k (has (c.permits v) t)));
})
  where
    has : (o : Option ℕ) → is_permitted o permit ≡ true → o ≡ Some permit
    has None e = absurd (cc)
    has (Some n) e = ap (λ m. let z : Option ℕ = Some m in z) (eqb-true n permit e)

-- an event at which nothing ends
one_less : (f : Fleet) (permit : ℕ) (e : FleetEvent) (es : List FleetEvent) → ends_restart permit f e ≡ false → IsEndedOnce (fleet_comes f e).1 permit es → (IsOver (controller f) permit → IsOver (controller (fleet_comes f e).1) permit) → IsEndedOnce f permit (e ∷ es)
one_less f permit e es n rest over =
    let same : restarts_ended permit (e ∷ es) f ≡ restarts_ended permit es (fleet_comes f e).1 = (let z = ap bit n in omega arith) in
    record { most = (let a = rest.most in omega arith); none = λ o. same ∙ rest.none (over o) }

ended_once : (setup : Setup) (permit : ℕ) (es : List FleetEvent) (f : Fleet) → IsShadow setup (λ s v. 0) f → AreApart (controller f) → AllFleetFit setup f es → IsEndedOnce f permit es
ended_once setup permit [] f k a fits = record { most = omega arith; none = λ o. refl }
ended_once setup permit (e ∷ es) f k a fits =
    let next = comes_shadow setup (λ s v. 0) f k e fits.0 in
    let low = log_fits setup (controller f).w (state_reached setup (λ s v. 0) f k) in
    let most = log_fits setup (controller (fleet_comes f e).1).w (state_reached setup (λ s v. 0) (fleet_comes f e).1 next) in
    by_writing (writing f e) low most (λ b. ended_once setup permit es (fleet_comes f e).1 next b fits.1)
  where
    on : (x : JournalEntry) → controller (fleet_comes f e).1 ≡ entry_recorded (controller f) x → length (controller f).w.log ≤ MOST_PLACES → length (controller (fleet_comes f e).1).w.log ≤ MOST_PLACES → IsOn (controller f) (controller (fleet_comes f e).1)
    on x q low most = subst (IsOn (controller f)) (sym q) (entry_on (controller f) x low (subst (λ (c : Controller). length c.w.log ≤ MOST_PLACES) q most))

    by_writing : IsWriting f e (fleet_comes f e).1 → length (controller f).w.log ≤ MOST_PLACES → length (controller (fleet_comes f e).1).w.log ≤ MOST_PLACES → (AreApart (controller (fleet_comes f e).1) → IsEndedOnce (fleet_comes f e).1 permit es) → IsEndedOnce f permit (e ∷ es)
    by_writing (Still q n) low most rest = one_less f permit e es (n permit) (rest (subst AreApart (sym q) a)) (λ o. subst (λ c. IsOver c permit) (sym q) o)
    by_writing (Writes x q n) low most rest =
        let o = on x q low most in
        one_less f permit e es (n permit) (rest (apart_by (controller f) (controller (fleet_comes f e).1) o a)) (λ p. over_by (controller f) (controller (fleet_comes f e).1) o permit p)
    by_writing (Ends v named q r) low most rest =
        let o = on (Ended v named) r low most in
        let after = rest (apart_by (controller f) (controller (fleet_comes f e).1) o a) in
        elim (cases_Bool (ends_restart permit f e)) [
          | inr n ↦ one_less f permit e es n after (λ p. over_by (controller f) (controller (fleet_comes f e).1) o permit p)
          | inl t ↦
              let t2 : ((named == permit) && is_permitted ((controller f).permits v) named) ≡ true = sym (ap (ends_restart permit f) q) ∙ t in
              let p = and_parts (named == permit) (is_permitted ((controller f).permits v) named) t2 in
              let same = eqb-true named permit p.0 in
              let over : IsOver (controller (fleet_comes f e).1) permit = subst (IsOver (controller (fleet_comes f e).1)) same (subst (λ c. IsOver c named) (sym r) (over_after (controller f) v named a p.1)) in
              let rest_none = after.none over in
              let one = ap bit t in
              record {
                most = omega arith;
                none = λ h. absurd (h.none v (holds ((controller f).permits v) named p.1 ∙ ap (λ m. let z : Option ℕ = Some m in z) same));
              }
        ]
      where
        holds : (o : Option ℕ) (n : ℕ) → is_permitted o n ≡ true → o ≡ Some n
        holds None n e = absurd (cc)
        holds (Some m) n e = ap (λ m. let z : Option ℕ = Some m in z) (eqb-true m n e)

-- permits stay apart along a list of events
run_apart : (setup : Setup) (es : List FleetEvent) (f : Fleet) → IsShadow setup (λ s v. 0) f → AreApart (controller f) → AllFleetFit setup f es → AreApart (controller (fleet_run es f))
run_apart setup [] f k a fits = a
run_apart setup (e ∷ es) f k a fits =
    let next = comes_shadow setup (λ s v. 0) f k e fits.0 in
    let low = log_fits setup (controller f).w (state_reached setup (λ s v. 0) f k) in
    let most = log_fits setup (controller (fleet_comes f e).1).w (state_reached setup (λ s v. 0) (fleet_comes f e).1 next) in
    run_apart setup es (fleet_comes f e).1 next (by_writing (writing f e) low most) fits.1
  where
    on : (x : JournalEntry) → controller (fleet_comes f e).1 ≡ entry_recorded (controller f) x → length (controller f).w.log ≤ MOST_PLACES → length (controller (fleet_comes f e).1).w.log ≤ MOST_PLACES → IsOn (controller f) (controller (fleet_comes f e).1)
    on x q low most = subst (IsOn (controller f)) (sym q) (entry_on (controller f) x low (subst (λ (c : Controller). length c.w.log ≤ MOST_PLACES) q most))

    by_writing : IsWriting f e (fleet_comes f e).1 → length (controller f).w.log ≤ MOST_PLACES → length (controller (fleet_comes f e).1).w.log ≤ MOST_PLACES → AreApart (controller (fleet_comes f e).1)
    by_writing (Still q n) low most = subst AreApart (sym q) a
    by_writing (Writes x q n) low most = apart_by (controller f) (controller (fleet_comes f e).1) (on x q low most) a
    by_writing (Ends v named q r) low most = apart_by (controller f) (controller (fleet_comes f e).1) (on (Ended v named) r low most) a

-- a permit ends at most one restart, over all epochs
pub permits_end_once : EachFleet PermitsEndOnce
permits_end_once setup f r es permit fits = (ended_once setup permit es f (fleet_shadow setup f r) apart fits).most
  where
    first : AreApart (controller r.first)
    first = subst AreApart (sym (ap (replayed r.first.start) r.opening.journal)) (record {
      given = λ v permit h. elim (r.opening.permits.range v permit h) [ inl l ↦ inl (omega arith) | inr q ↦ inr q ];
      apart = r.opening.permits.apart;
    })

    apart : AreApart (controller f)
    apart = subst (λ x. AreApart (controller x)) (sym r.state) (run_apart setup r.events r.first (opening_shadow setup r.first r.opening) first r.fit)
