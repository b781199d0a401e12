-- A controller's record after an event of the fleet: it is as it was, or has one entry more.
use Rattle.std.proofs.Common.{◌≡◌, ◌≢◌, ℕ, refl, Option, Some, None}
use Rattle.std.specs.Prelude.{slice_get}
use Rattle.sm_placement.specs.Setup.{Setup}
use Rattle.sm_agent.specs.declared.order.Verdict.{Verdict}
use Rattle.sm_agent.specs.declared.order.Verdict.TheVariants as verdict
use Rattle.sm_agent.specs.declared.base.Reception.{Reception}
use Rattle.sm_agent.specs.declared.base.Reception.TheVariants as reception
use Rattle.sm_agent.specs.declared.slot.Slot.{Slot}
use Rattle.sm_agent.specs.Base.{restored}
use Rattle.sm_agent.specs.Order.{committed}
use Rattle.sm_protocol.proofs.Invariant.{IsKept}
use Rattle.sm_protocol.proofs.Whole.{reached_keeps}
use Rattle.laws_network.specs.Net.{Order}
use Rattle.laws_network.specs.Controller.{Answered, Ended, JournalEntry, Letter, Made, Notice, Opened, Restore, Restored, Stored, entry_recorded}
use Rattle.laws_network.specs.Fleet.{Abandon, Commit, Committed, End, Fleet, FleetEvent, FleetOutcome, Forget, HearAsk, HearOwner, HearServer, Judge, Make, Open, Publish, Receive, Recover, Seal, SendOrder, SendPublication, Serve, after_owner, after_reception, after_verdict, after_work, by_message, controller, fleet_comes, order_read, owner_verdict, slot_for, verdict_of}
use Rattle.laws_network.specs.FleetLaws.{IsFleetReached}
use Rattle.laws_network.proofs.Behind.{HasNoSteps}
use Rattle.laws_network.proofs.Calm.{IsCalm}
use Rattle.laws_network.proofs.Commands.{in_order}
use Rattle.laws_network.proofs.Deliveries.{shade_of}
use Rattle.laws_network.proofs.OfFleet.{fleet_is_reached, net_of}
use Rattle.laws_network.proofs.Raised.{net_is_calm}
use Rattle.laws_network.proofs.Reaching.{fleet_shadow}

-- the record is a state of the protocol
pub kept : (setup : Setup) (f : Fleet) → IsFleetReached setup f → IsKept (controller f).w
kept setup f r = (reached_keeps setup (controller f).w (fleet_is_reached setup f r)).0

-- no call is lost in it
pub calm : (setup : Setup) (f : Fleet) → IsFleetReached setup f → IsCalm (controller f).w
calm setup f r = let k = fleet_shadow setup f r in net_is_calm setup (shade_of f k).net (net_of f k)

-- its log has no step of a stream that was not begun
pub no_steps : (setup : Setup) (f : Fleet) → IsFleetReached setup f → HasNoSteps (controller f).w
no_steps setup f r = (in_order setup (λ s v. 0) f (fleet_shadow setup f r)).unbegun

-- An event leaves the controller as it is, or writes an entry of its journal.
pub data MovesRecord (f : Fleet) (r : FleetOutcome × Fleet) : Type 0 where
  Leaves : controller r.1 ≡ controller f → MovesRecord f r
  Writes : (x : JournalEntry) → ((o : Order) → r.0 ≢ Committed o) → controller r.1 ≡ entry_recorded (controller f) x → MovesRecord f r

by_letter : {A : Type 0} (f : Fleet) (g : A → FleetOutcome × Fleet) (o : Option A) → ((x : A) → MovesRecord f (g x)) → MovesRecord f (by_message f g o)
by_letter f g None h = Leaves refl
by_letter f g (Some x) h = h x

verdict_leaves : (f : Fleet) (l : Letter) (x : Verdict) → controller (after_verdict f l x) ≡ controller f
verdict_leaves f l verdict.Begin = refl
verdict_leaves f l verdict.Working = refl
verdict_leaves f l verdict.Again = refl
verdict_leaves f l verdict.Old = refl
verdict_leaves f l verdict.Foreign = refl
verdict_leaves f l verdict.NotReady = refl
verdict_leaves f l (verdict.Refused why) = refl

owner_leaves : (f : Fleet) (n : Notice) (x : Verdict) → controller (after_owner f n.publication x) ≡ controller f
owner_leaves f n verdict.Begin = refl
owner_leaves f n verdict.Working = refl
owner_leaves f n verdict.Again = refl
owner_leaves f n verdict.Old = refl
owner_leaves f n verdict.Foreign = refl
owner_leaves f n verdict.NotReady = refl
owner_leaves f n (verdict.Refused why) = refl

work_leaves : (f : Fleet) (l : Letter) (o : Option Slot) → controller (after_work f l o).1 ≡ controller f
work_leaves f l None = refl
work_leaves f l (Some slot) = refl

reception_leaves : (f : Fleet) (v : ℕ) (r : Restore) (x : Reception) → controller (after_reception f v r x) ≡ controller f
reception_leaves f v r (reception.Taken base) = refl
reception_leaves f v r reception.Again = refl
reception_leaves f v r reception.Ignored = refl

-- so does each event
pub moves_record : (f : Fleet) (e : FleetEvent) → MovesRecord f (fleet_comes f e)
moves_record f (Make x) = Writes (Made x) (λ o q. absurd (cc)) refl
moves_record f (End v permit) = Writes (Ended v permit) (λ o q. absurd (cc)) refl
moves_record f (Open room) = Writes (Opened room) (λ o q. absurd (cc)) refl
moves_record f (HearServer place) = by_letter f _ (slice_get f.answers place) (λ x. Writes (Answered x) (λ o q. absurd (cc)) refl)
moves_record f (HearOwner place) = by_letter f _ (slice_get f.stored place) (λ x. Writes (Stored x) (λ o q. absurd (cc)) refl)
moves_record f (HearAsk place) = by_letter f _ (slice_get f.asks place) (λ x. Writes (Restored x _) (λ o q. absurd (cc)) refl)
moves_record f (SendOrder lost id) = Leaves refl
moves_record f (SendPublication lost id) = Leaves refl
moves_record f (Judge place) = by_letter f _ (slice_get f.sent place) (λ l. Leaves (verdict_leaves f l (verdict_of f l)))
moves_record f (Commit place at) = by_letter f _ (slice_get f.sent place) (λ l. Leaves (work_leaves f l (committed (f.servers l.order.call.server).base (slot_for f l) (order_read l) at)))
moves_record f (Abandon s v) = Leaves refl
moves_record f (Publish place) = by_letter f _ (slice_get f.published place) (λ n. Leaves (owner_leaves f n (owner_verdict f n)))
moves_record f (Serve s v applied) = Leaves refl
moves_record f (Receive place applied) = by_letter f _ (slice_get f.passes place) (λ h. Leaves refl)
moves_record f (Seal place) = by_letter f _ (slice_get f.passes place) (λ h. Leaves refl)
moves_record f (Forget v) = Leaves refl
moves_record f (Recover place v) = by_letter f _ (slice_get (controller f).restores place) (λ x. Leaves (reception_leaves f v x (restored (f.servers v).base x.restoration)))
