-- What servers have, or had before they lost it, changes by commits alone.
use Rattle.std.proofs.Common.{◌≡◌, ◌≢◌, ℕ, refl, sym, ap, ◌∙◌, subst, not, Bool, true, false, Option, Some, None, suc, length}
use Rattle.std.specs.Prelude.{◌==◌, ◌&&◌, if◌then◌else◌, nat_lt, slice_get}
use Rattle.std.proofs.lemmas.Bool.{and_parts, eqb-true}
use Rattle.sm_server.specs.declared.call.Cell.{Cell}
use Rattle.sm_server.specs.Call.{led_to}
use Rattle.sm_placement.specs.Setup.{Setup}
use Rattle.sm_placement.specs.Sums.{put, put2}
use Rattle.sm_agent.specs.declared.base.Base.{Base}
use Rattle.sm_agent.specs.declared.base.Reception.{Reception}
use Rattle.sm_agent.specs.declared.base.Reception.TheVariants as reception
use Rattle.sm_agent.specs.declared.slot.Slot.{Slot}
use Rattle.sm_agent.specs.declared.order.Verdict.{Verdict}
use Rattle.sm_agent.specs.declared.order.Verdict.TheVariants as verdict
use Rattle.sm_agent.specs.Base.{forgotten, is_meant, lacks_slots, restored}
use Rattle.sm_agent.specs.Order.{abandoned, begun_slot, committed, placed, sealed, vacant}
use Rattle.laws_network.specs.Net.{Order}
use Rattle.laws_network.specs.Controller.{Letter, Notice, Restore}
use Rattle.laws_network.specs.Fleet.{Abandon, Commit, Committed, End, Fleet, FleetEvent, FleetOutcome, Forget, Handoff, HearAsk, HearOwner, HearServer, Judge, Make, Open, Publish, Receive, Recover, Seal, SendOrder, SendPublication, Serve, Server, after_commit, after_loss, after_owner, after_reception, after_seal, after_verdict, after_work, by_message, controller, fleet_comes, has_lost, held_cells, order_read, owner_verdict, slot_for, verdict_of, with_slot}
use Rattle.laws_network.specs.FleetLaws.{IsFleetReached}
use Rattle.laws_network.proofs.AtServer.{commit_is}
use Rattle.laws_network.proofs.Deliveries.{held_put}
use Rattle.laws_network.proofs.Lists.{all_at}
use Rattle.laws_network.proofs.Reaching.{fleet_shadow}
use Rattle.laws_network.proofs.Shadow.{IsRestore, IsShadow}
use Rattle.laws_network.proofs.Slots.{held_by, one_asker, put_elim}

-- all servers have what they had
abbrev pub StaysHeld : Fleet → Fleet → Type 0
StaysHeld f new = (s v : ℕ) → held_cells new s v ≡ held_cells f s v

-- the order's server, which has its slots, has the cell that the order's call leads to
pub record IsHeldChange (f new : Fleet) (o : Order) : Type 0 where
  pub known : has_lost f o.call.server ≡ false
  pub next : Cell
  pub led : led_to o.call.call (held_cells f o.call.shard o.call.server) ≡ Some next
  pub held : (s v : ℕ) → held_cells new s v ≡ put2 (held_cells f) o.call.shard o.call.server next s v

-- nothing is committed and all stays, or an order is committed
pub data MovesHeld (f : Fleet) (r : FleetOutcome × Fleet) : Type 0 where
  Stays : ((o : Order) → r.0 ≢ Committed o) → StaysHeld f r.1 → MovesHeld f r
  Commits : (o : Order) → r.0 ≡ Committed o → IsHeldChange f r.1 o → MovesHeld f r

-- what comes of a message, if there is one
by_letter : {A : Type 0} (f : Fleet) (g : A → FleetOutcome × Fleet) (o : Option A) → ((x : A) → o ≡ Some x → MovesHeld f (g x)) → MovesHeld f (by_message f g o)
by_letter f g None h = Stays (λ o q. absurd (cc)) (λ s v. refl)
by_letter f g (Some x) h = h x refl

-- a slot with the same cell
same_slot : (f : Fleet) (s v : ℕ) (slot : Slot) → slot.cell ≡ ((f.servers v).slots s).cell → StaysHeld f (with_slot f s v slot)
same_slot f s v slot e r u =
    put_elim (λ (server : Server). held_by server (f.had r u) r ≡ held_cells f r u) f.servers v (record (f.servers v) { slots = put (f.servers v).slots s slot }) u
    (λ q. ap (λ c. if lacks_slots (f.servers v).base then f.had r u else c) in_row ∙ ap (λ w. held_by (f.servers w) (f.had r u) r) (sym q))
    (λ q. refl)
  where
    in_row : (put (f.servers v).slots s slot r).cell ≡ ((f.servers v).slots r).cell
    in_row = put_elim (λ (x : Slot). x.cell ≡ ((f.servers v).slots r).cell) (f.servers v).slots s slot r
        (λ q. e ∙ ap (λ k. ((f.servers v).slots k).cell) (sym q)) (λ q. refl)

-- ---- orders

verdict_stays : (f : Fleet) (l : Letter) (x : Verdict) → StaysHeld f (after_verdict f l x)
verdict_stays f l verdict.Begin = same_slot f l.order.call.shard l.order.call.server (begun_slot (slot_for f l) (order_read l)) refl
verdict_stays f l verdict.Working = λ s v. refl
verdict_stays f l verdict.Again = λ s v. refl
verdict_stays f l verdict.Old = λ s v. refl
verdict_stays f l verdict.Foreign = λ s v. refl
verdict_stays f l verdict.NotReady = λ s v. refl
verdict_stays f l (verdict.Refused why) = λ s v. refl

commit_moves : (f : Fleet) (at : ℕ) (l : Letter) → MovesHeld f (after_commit f at l)
commit_moves f at l = go (committed (f.servers l.order.call.server).base (slot_for f l) (order_read l) at) refl
  where
    go : (o : Option Slot) → committed (f.servers l.order.call.server).base (slot_for f l) (order_read l) at ≡ o → MovesHeld f (after_work f l o)
    go None e = Stays (λ o q. absurd (cc)) (λ s v. refl)
    go (Some slot) e =
        let c = commit_is (f.servers l.order.call.server).base (slot_for f l) (order_read l) at slot e in
        Commits l.order refl (record {
          known = c.heard.known;
          next = slot.cell;
          led = ap (λ b. led_to l.order.call.call (if b then f.had l.order.call.shard l.order.call.server else (slot_for f l).cell)) c.heard.known ∙ c.led;
          held = held_put f l.order.call.shard l.order.call.server slot c.heard.known;
        })

-- ---- the map's owner, and cuts

owner_stays : (f : Fleet) (n : Notice) (x : Verdict) → StaysHeld f (after_owner f n.publication x)
owner_stays f n verdict.Begin = λ s v. refl
owner_stays f n verdict.Working = λ s v. refl
owner_stays f n verdict.Again = λ s v. refl
owner_stays f n verdict.Old = λ s v. refl
owner_stays f n verdict.Foreign = λ s v. refl
owner_stays f n verdict.NotReady = λ s v. refl
owner_stays f n (verdict.Refused why) = λ s v. refl

by_test : (b : Bool) (slot : Slot) (cut : ℕ) → (if b then record slot { cut = Some cut } else slot).cell ≡ slot.cell
by_test true slot cut = refl
by_test false slot cut = refl

seal_stays : (f : Fleet) (h : Handoff) → StaysHeld f (after_seal f h).1
seal_stays f h = same_slot f h.shard h.target (sealed ((f.servers h.target).slots h.shard) h.pass.handover h.pass.cut)
    (by_test _ ((f.servers h.target).slots h.shard) h.pass.cut)

-- ---- memory that is lost, and restores

loss_stays : (f : Fleet) (v : ℕ) → StaysHeld f (after_loss f v)
loss_stays f v s u = put_elim (λ (server : Server). held_by server (held_cells f s u) s ≡ held_cells f s u) f.servers v (record { base = forgotten (suc (length f.asks)); slots = λ s. vacant }) u
    (λ e. refl)
    (λ e. go (lacks_slots (f.servers u).base) refl)
  where
    go : (b : Bool) → lacks_slots (f.servers u).base ≡ b → (if b then held_cells f s u else ((f.servers u).slots s).cell) ≡ held_cells f s u
    go true q = refl
    go false q = ap (λ b. if b then f.had s u else ((f.servers u).slots s).cell) (sym q)

-- a restore that is taken is meant for the server as it stands, which has its slots then
record IsTakenBy (base : Base) (r : Restore) (next : Base) : Type 0 where
  pub nonce : base.nonce ≡ Some r.restoration.nonce
  pub known : lacks_slots next ≡ false

taken_by : (base : Base) (r : Restore) (next : Base) → restored base r.restoration ≡ reception.Taken next → IsTakenBy base r next
taken_by base r next e = go (is_meant base.nonce (Some r.restoration.nonce) && not (base.fenced && nat_lt r.restoration.fence base.number)) refl e
  where
    meant : (o : Option ℕ) → is_meant o (Some r.restoration.nonce) ≡ true → o ≡ Some r.restoration.nonce
    meant None q = absurd (cc)
    meant (Some n) q = ap (λ m. let z : Option ℕ = Some m in z) (eqb-true n r.restoration.nonce (and_parts (n == r.restoration.nonce) _ q).0)

    go : (b : Bool) → (is_meant base.nonce (Some r.restoration.nonce) && not (base.fenced && nat_lt r.restoration.fence base.number)) ≡ b →
        (if b then reception.Taken (record { journal = r.restoration.journal; number = r.restoration.number; fenced = false; nonce = None }) else reception.Ignored) ≡ reception.Taken next → IsTakenBy base r next
    go false t q = absurd (cc)
    go true t q =
        let same : next ≡ record { journal = r.restoration.journal; number = r.restoration.number; fenced = false; nonce = None } = cc in
        record { nonce = meant base.nonce (and_parts (is_meant base.nonce (Some r.restoration.nonce)) _ t).0; known = ap lacks_slots same }

module _ (setup : Setup) (f : Fleet) (k : IsShadow setup (λ s v. 0) f) (v : ℕ) (r : Restore) (h : IsRestore (controller f) f k.shade.last r) where
  reception_stays : (x : Reception) → restored (f.servers v).base r.restoration ≡ x → StaysHeld f (after_reception f v r x)
  reception_stays reception.Again e = λ s u. refl
  reception_stays reception.Ignored e = λ s u. refl
  reception_stays (reception.Taken next) e = stays
    where
      t : IsTakenBy (f.servers v).base r next
      t = taken_by (f.servers v).base r next e

      is_v : h.server ≡ v
      is_v = one_asker f.asks h.server v r.restoration.nonce h.asked (k.asked v r.restoration.nonce t.nonce)

      told : (s : ℕ) → r.cells s ≡ held_cells f s v
      told s = subst (λ w. r.cells s ≡ held_cells f s w) is_v (h.cells (subst (λ w. (f.servers w).base.nonce ≡ Some r.restoration.nonce) (sym is_v) t.nonce) s).0

      stays : StaysHeld f (after_reception f v r (reception.Taken next))
      stays s u = put_elim (λ (server : Server). held_by server (f.had s u) s ≡ held_cells f s u) f.servers v (record { base = next; slots = λ s. placed vacant (r.cells s) (r.loads s) }) u
          (λ q. ap (λ b. if b then f.had s u else r.cells s) t.known ∙ (told s ∙ ap (held_cells f s) (sym q)))
          (λ q. refl)

-- ---- all events

-- an event commits an order, or leaves what servers have, or had
pub moves_held : (setup : Setup) (f : Fleet) → IsFleetReached setup f → (e : FleetEvent) → MovesHeld f (fleet_comes f e)
moves_held setup f r (Make x) = Stays (λ o q. absurd (cc)) (λ s v. refl)
moves_held setup f r (End v permit) = Stays (λ o q. absurd (cc)) (λ s v. refl)
moves_held setup f r (Open room) = Stays (λ o q. absurd (cc)) (λ s v. refl)
moves_held setup f r (HearServer place) = by_letter f _ (slice_get f.answers place) (λ x e. Stays (λ o q. absurd (cc)) (λ s v. refl))
moves_held setup f r (HearOwner place) = by_letter f _ (slice_get f.stored place) (λ x e. Stays (λ o q. absurd (cc)) (λ s v. refl))
moves_held setup f r (HearAsk place) = by_letter f _ (slice_get f.asks place) (λ x e. Stays (λ o q. absurd (cc)) (λ s v. refl))
moves_held setup f r (SendOrder lost id) = Stays (λ o q. absurd (cc)) (λ s v. refl)
moves_held setup f r (SendPublication lost id) = Stays (λ o q. absurd (cc)) (λ s v. refl)
moves_held setup f r (Judge place) = by_letter f _ (slice_get f.sent place) (λ l e. Stays (λ o q. absurd (cc)) (verdict_stays f l (verdict_of f l)))
moves_held setup f r (Commit place at) = by_letter f _ (slice_get f.sent place) (λ l e. commit_moves f at l)
moves_held setup f r (Abandon s v) = Stays (λ o q. absurd (cc)) (same_slot f s v (abandoned ((f.servers v).slots s)) refl)
moves_held setup f r (Publish place) = by_letter f _ (slice_get f.published place) (λ n e. Stays (λ o q. absurd (cc)) (owner_stays f n (owner_verdict f n)))
moves_held setup f r (Serve s v applied) = Stays (λ o q. absurd (cc)) (λ s v. refl)
moves_held setup f r (Receive place applied) = by_letter f _ (slice_get f.passes place) (λ h e. Stays (λ o q. absurd (cc)) (λ s v. refl))
moves_held setup f r (Seal place) = by_letter f _ (slice_get f.passes place) (λ h e. Stays (λ o q. absurd (cc)) (seal_stays f h))
moves_held setup f r (Forget v) = Stays (λ o q. absurd (cc)) (loss_stays f v)
moves_held setup f r (Recover place v) =
    let k = fleet_shadow setup f r in
    by_letter f _ (slice_get (controller f).restores place) (λ x e. Stays (λ o q. absurd (cc))
    (reception_stays setup f k v x (all_at (IsRestore (controller f) f k.shade.last) (controller f).restores place x k.restores e) (restored (f.servers v).base x.restoration) refl))
