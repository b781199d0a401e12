-- Events that only carry messages and make steps: no plan starts by them, no server loses its slots, and what was sent stays.
use Rattle.std.proofs.Common.{◌≡◌, ℕ, refl, sym, ap, ◌∙◌, subst, Bool, true, false, Option, Some, None, List, [], ◌∷◌, ◌++◌}
use Rattle.std.specs.Prelude.{if◌then◌else◌, slice_get}
use Rattle.std.specs.List.{AllByRecursion}
use Rattle.std.specs.Option.{option_to_list}
use Rattle.sm_placement.specs.Setup.{Setup}
use Rattle.sm_placement.specs.Sums.{put}
use Rattle.sm_reservation.specs.declared.stream_id.StreamId.{StreamId}
use Rattle.sm_protocol.specs.Happens.{Step}
use Rattle.sm_agent.specs.declared.order.Verdict.{Verdict}
use Rattle.sm_agent.specs.declared.order.Verdict.TheVariants as verdict
use Rattle.sm_agent.specs.declared.slot.Slot.{Slot}
use Rattle.sm_agent.specs.Base.{lacks_slots}
use Rattle.sm_agent.specs.Order.{committed}
use Rattle.laws_network.specs.Net.{Order, is_awaited}
use Rattle.laws_network.specs.World.{Publication, is_answered_by, publication_of}
use Rattle.laws_network.specs.Controller.{Answered, Controller, JournalEntry, Letter, Made, Notice, Stored, entry_recorded, goes_on, letter_of, is_local, notice_of}
use Rattle.laws_network.specs.Fleet.{Commit, Fleet, FleetEvent, FleetOutcome, HearOwner, HearServer, Judge, Make, Publish, Seal, SendOrder, SendPublication, Serve, Server, Silent, after_commit, after_letter, after_notice, after_owner, after_seal, after_verdict, after_work, by_message, controller, earlier, fleet_comes, fleet_run, has_lost, order_read, owner_verdict, slot_for, verdict_of, with_slot, written}
use Rattle.laws_network.specs.FleetLaws.{AllFleetFit, AreNamedKnown, FleetFits}
use Rattle.laws_network.proofs.Finish.{GoesOn, further, step_goes, still}
use Rattle.laws_network.proofs.Shade.{IsAmong, among_more}
use Rattle.laws_network.proofs.Slots.{put_elim}
use Rattle.laws_network.proofs.Unnamed.{begun_before, named_before}
use Rattle.laws_rounds.specs.Round.{Always, StaysInEpoch}

-- the event carries a message or makes a step
abbrev pub IsGentle : FleetEvent → Type 0
IsGentle (Make (Step id)) = Unit {0}
IsGentle (HearServer k) = Unit {0}
IsGentle (HearOwner k) = Unit {0}
IsGentle (SendOrder lost id) = Unit {0}
IsGentle (SendPublication lost id) = Unit {0}
IsGentle (Judge k) = Unit {0}
IsGentle (Commit k at) = Unit {0}
IsGentle (Publish k) = Unit {0}
IsGentle (Serve s v applied) = Unit {0}
IsGentle (Seal k) = Unit {0}
IsGentle _ = ⊥

-- what such events leave
pub record IsAfter (f g : Fleet) : Type 0 where
  pub journal : (controller g).journal ≡ (controller f).journal
  pub fence : (controller g).fence ≡ (controller f).fence
  pub goes : GoesOn (controller f).w (controller g).w
  pub known : (v : ℕ) → has_lost f v ≡ false → has_lost g v ≡ false
  pub sent : (l : Letter) → IsAmong f.sent l → IsAmong g.sent l
  pub published : (n : Notice) → IsAmong f.published n → IsAmong g.published n

-- nothing changes
pub after_none : (f : Fleet) → IsAfter f f
after_none f = record { journal = refl; fence = refl; goes = still (controller f).w; known = λ v h. h; sent = λ l h. h; published = λ n h. h }

-- one after the other
pub after_both : (f g h : Fleet) → IsAfter f g → IsAfter g h → IsAfter f h
after_both f g h a b = record {
  journal = b.journal ∙ a.journal;
  fence = b.fence ∙ a.fence;
  goes = further (controller f).w (controller g).w (controller h).w a.goes b.goes;
  known = λ v k. b.known v (a.known v k);
  sent = λ l k. b.sent l (a.sent l k);
  published = λ n k. b.published n (a.published n k);
}

module _ (f : Fleet) where
  -- a step is recorded, or nothing
  by_step : (x : JournalEntry) (id : StreamId) (b : Bool) → entry_recorded (controller f) x ≡ (if b then goes_on (controller f) (Step id) else controller f) → IsAfter f (written f x)
  by_step x id b same = record {
    journal = ap (λ (c : Controller). c.journal) same ∙ (parts b).0;
    fence = ap (λ (c : Controller). c.fence) same ∙ (parts b).1;
    goes = subst (λ (c : Controller). GoesOn (controller f).w c.w) (sym same) (parts b).2;
    known = λ v h. h;
    sent = λ l h. h;
    published = λ n h. h;
  }
    where
      parts : (b : Bool) → ((if b then goes_on (controller f) (Step id) else controller f).journal ≡ (controller f).journal)
          × ((if b then goes_on (controller f) (Step id) else controller f).fence ≡ (controller f).fence)
          × GoesOn (controller f).w (if b then goes_on (controller f) (Step id) else controller f).w
      parts true = (refl, refl, step_goes (controller f).w id)
      parts false = (refl, refl, still (controller f).w)

  -- a slot changes
  by_slot : (s v : ℕ) (slot : Slot) (answers : List Order) → IsAfter f (record (with_slot f s v slot) { answers = answers })
  by_slot s v slot answers = record {
    journal = refl;
    fence = refl;
    goes = still (controller f).w;
    known = λ u h. put_elim (λ (x : Server). lacks_slots x.base ≡ false) f.servers v (record (f.servers v) { slots = put (f.servers v).slots s slot }) u
        (λ e. subst (λ i. has_lost f i ≡ false) e h) (λ e. h);
    sent = λ l h. h;
    published = λ n h. h;
  }

  -- answers come, and what is shown changes
  by_answers : (g : Fleet) → g.servers ≡ f.servers → g.sent ≡ f.sent → g.published ≡ f.published → (controller g ≡ controller f) → IsAfter f g
  by_answers g servers sent published same = record {
    journal = ap (λ (c : Controller). c.journal) same;
    fence = ap (λ (c : Controller). c.fence) same;
    goes = subst (λ (c : Controller). GoesOn (controller f).w c.w) (sym same) (still (controller f).w);
    known = λ v h. ap (λ (s : ℕ → Server). lacks_slots (s v).base) servers ∙ h;
    sent = λ l h. subst (λ xs. IsAmong xs l) (sym sent) h;
    published = λ n h. subst (λ xs. IsAmong xs n) (sym published) h;
  }

  verdicts : (l : Letter) (x : Verdict) → IsAfter f (after_verdict f l x)
  verdicts l verdict.Begin = by_slot l.order.call.shard l.order.call.server _ f.answers
  verdicts l verdict.Working = after_none f
  verdicts l verdict.Again = by_answers _ refl refl refl refl
  verdicts l verdict.Old = after_none f
  verdicts l verdict.Foreign = after_none f
  verdicts l verdict.NotReady = after_none f
  verdicts l (verdict.Refused why) = after_none f

  owners : (p : Publication) (x : Verdict) → IsAfter f (after_owner f p x)
  owners p verdict.Begin = by_answers _ refl refl refl refl
  owners p verdict.Working = after_none f
  owners p verdict.Again = by_answers _ refl refl refl refl
  owners p verdict.Old = after_none f
  owners p verdict.Foreign = after_none f
  owners p verdict.NotReady = after_none f
  owners p (verdict.Refused why) = after_none f

  works : (l : Letter) (o : Option Slot) → IsAfter f (after_work f l o).1
  works l None = after_none f
  works l (Some x) = by_slot l.order.call.shard l.order.call.server x (f.answers ++ l.order ∷ [])

  message : {A : Type 0} (g : A → FleetOutcome × Fleet) (o : Option A) → ((x : A) → IsAfter f (g x).1) → IsAfter f (by_message f g o).1
  message g None h = after_none f
  message g (Some x) h = h x

  by_event : (e : FleetEvent) → IsGentle e → IsAfter f (fleet_comes f e).1
  by_event (Make (Step id)) s = by_step (Made (Step id)) id (is_local (controller f).w (Step id)) refl
  by_event (HearServer k) s = message (λ o. (Silent, written f (Answered o))) (slice_get f.answers k) (λ o. by_step (Answered o) o.stream (is_awaited (controller f).base (controller f).w o) refl)
  by_event (HearOwner k) s = message (λ p. (Silent, written f (Stored p))) (slice_get f.stored k)
      (λ p. by_step (Stored p) p.stream (is_answered_by p (publication_of (controller f).base (controller f).w p.stream)) refl)
  by_event (SendOrder lost id) s = record {
    journal = refl;
    fence = refl;
    goes = still (controller f).w;
    known = λ v h. h;
    sent = λ l h. among_more f.sent (option_to_list (letter_of (earlier f lost) id)) l h;
    published = λ n h. h;
  }
  by_event (SendPublication lost id) s = record {
    journal = refl;
    fence = refl;
    goes = still (controller f).w;
    known = λ v h. h;
    sent = λ l h. h;
    published = λ n h. among_more f.published (option_to_list (notice_of (earlier f lost) id)) n h;
  }
  by_event (Judge k) s = message (after_letter f) (slice_get f.sent k) (λ l. verdicts l (verdict_of f l))
  by_event (Commit k at) s = message (after_commit f at) (slice_get f.sent k) (λ l. works l (committed (f.servers l.order.call.server).base (slot_for f l) (order_read l) at))
  by_event (Publish k) s = message (after_notice f) (slice_get f.published k) (λ n. owners n.publication (owner_verdict f n))
  by_event (Serve r v applied) s = by_answers _ refl refl refl refl
  by_event (Seal k) s = message (after_seal f) (slice_get f.passes k) (λ h. by_slot h.shard h.target _ f.answers)
  by_event _ s = absurd s

-- what a list of them leaves
pub after_run : (es : List FleetEvent) (f : Fleet) → AllByRecursion IsGentle es → IsAfter f (fleet_run es f)
after_run [] f all = after_none f
after_run (e ∷ es) f all = after_both f (fleet_comes f e).1 (fleet_run es (fleet_comes f e).1) (by_event f e all.0) (after_run es (fleet_comes f e).1 all.1)

-- who is named then was named before, and has its slots still
pub named_after : (f g : Fleet) → IsAfter f g → AreNamedKnown f → AreNamedKnown g
named_after f g a named id v b e = a.known v (named id v (begun_before (controller f).w (controller g).w a.goes id b) (named_before (controller f).w (controller g).w a.goes v id e))

-- so it is all along
pub named_always : (es : List FleetEvent) (f : Fleet) → AllByRecursion IsGentle es → AreNamedKnown f → Always AreNamedKnown es f
named_always [] f all named = named
named_always (e ∷ es) f all named = (named, named_always es (fleet_comes f e).1 all.1 (named_after f (fleet_comes f e).1 (by_event f e all.0) named))

one_fits : (setup : Setup) (f : Fleet) (e : FleetEvent) → IsGentle e → FleetFits setup f e
one_fits setup f (Make (Step id)) s = tt
one_fits setup f (HearServer k) s = tt
one_fits setup f (HearOwner k) s = tt
one_fits setup f (SendOrder lost id) s = tt
one_fits setup f (SendPublication lost id) s = tt
one_fits setup f (Judge k) s = tt
one_fits setup f (Commit k at) s = tt
one_fits setup f (Publish k) s = tt
one_fits setup f (Serve r v applied) s = tt
one_fits setup f (Seal k) s = tt
one_fits setup f _ s = absurd s

-- they fit wherever they come
pub gentle_fit : (setup : Setup) (es : List FleetEvent) (f : Fleet) → AllByRecursion IsGentle es → AllFleetFit setup f es
gentle_fit setup [] f all = tt
gentle_fit setup (e ∷ es) f all = (one_fits setup f e all.0, gentle_fit setup es (fleet_comes f e).1 all.1)

one_stays : (e : FleetEvent) → IsGentle e → StaysInEpoch e
one_stays (Make (Step id)) s = tt
one_stays (HearServer k) s = tt
one_stays (HearOwner k) s = tt
one_stays (SendOrder lost id) s = tt
one_stays (SendPublication lost id) s = tt
one_stays (Judge k) s = tt
one_stays (Commit k at) s = tt
one_stays (Publish k) s = tt
one_stays (Serve r v applied) s = tt
one_stays (Seal k) s = tt
one_stays _ s = absurd s

-- and open no epoch
pub gentle_stay : (es : List FleetEvent) → AllByRecursion IsGentle es → AllByRecursion StaysInEpoch es
gentle_stay [] all = tt
gentle_stay (e ∷ es) all = (one_stays e all.0, gentle_stay es all.1)
