-- The laws of the fleet, by its shade.
use Rattle.std.proofs.Common.{◌≡◌, ℕ, zero, ◌<◌, ◌⊎◌, refl, sym, ap, ◌∙◌, inl, inr, subst, arith, true, false, Option, Some, None, Err}
use Rattle.std.specs.Prelude.{◌==◌, ◌-◌, if◌then◌else◌, nat_lt, option_map, slice_get, unwrap_or}
use Rattle.std.proofs.Math.Path.{fun_ext}
use Rattle.std.proofs.lemmas.Bool.{cases_Bool, ltb-true, ne_eqb}
use Rattle.sm_server.specs.declared.call.Refusal.{Refusal}
use Rattle.sm_server.specs.Call.{served}
use Rattle.sm_placement.specs.Setup.{Setup, Sizes, sizes_of}
use Rattle.sm_placement.specs.Place.{load_of}
use Rattle.sm_placement.specs.Sums.{sum_below}
use Rattle.sm_reservation.specs.declared.stream_id.StreamId.{StreamId}
use Rattle.sm_protocol.proofs.Courses.{some_same}
use Rattle.sm_agent.specs.declared.slot.Slot.{Slot}
use Rattle.sm_agent.specs.declared.order.Verdict.{Verdict}
use Rattle.sm_agent.specs.declared.order.Verdict.TheVariants as verdict
use Rattle.sm_agent.specs.Order.{committed, judged_by_slot, cell_load}
use Rattle.laws_network.specs.Orders.{by_served}
use Rattle.laws_network.specs.Net.{Deliver, Order, after_delivery, at_place, delivered, order_of, real_delivery}
use Rattle.laws_network.specs.Laws.{IsNetReached}
use Rattle.laws_network.specs.Controller.{Controller, Letter, letter, letter_of}
use Rattle.laws_network.specs.Fleet.{Abandon, Commit, End, Fleet, FleetEvent, FleetOutcome, Forget, HearAsk, HearOwner, HearServer, Judge, Judged, Make, Open, Publish, Receive, Recover, Seal, SendOrder, SendPublication, Serve, after_commit, after_letter, after_work, by_message, controller, fleet_comes, has_lost, held_cells, load_used, order_read, slot_for, verdict_of}
use Rattle.laws_network.specs.FleetLaws.{EachFleet, FleetIsReached, IsPresent, NoLetterIsRefused, PresentIsHeard}
use Rattle.laws_network.proofs.AtServer.{IsAway, IsBySlot, IsHeard, Lower, Refuses, Same, Serves, by_slot, heard, judged_is}
use Rattle.laws_network.proofs.Behind.{present_engages}
use Rattle.laws_network.proofs.Commands.{in_order, state_reached}
use Rattle.laws_network.proofs.Deliveries.{shade_of}
use Rattle.laws_network.proofs.Lists.{all_at}
use Rattle.laws_network.proofs.Raised.{none_is_refused}
use Rattle.laws_network.proofs.Reaching.{fleet_shadow}
use Rattle.laws_network.proofs.Shadow.{IsKnownServer, IsLetter, IsShadow, letter_says}
use Rattle.laws_network.proofs.Shown.{net_is_reached}

-- the network of the shade
pub net_of : {setup : Setup} {low : ℕ → ℕ → ℕ} (f : Fleet) (k : IsShadow setup low f) → IsNetReached setup (shade_of f k).net
net_of {setup} f k = net_is_reached setup (shade_of f k) k.reached

-- the record is a state of the protocol that events lead to
pub fleet_is_reached : EachFleet FleetIsReached
fleet_is_reached setup f r = state_reached setup (λ s v. 0) f (fleet_shadow setup f r)

-- ---- orders

module _ (setup : Setup) (low : ℕ → ℕ → ℕ) (f : Fleet) (k : IsShadow setup low f) (l : Letter) (i : IsLetter (sizes_of setup) k.shade l) (h : IsHeard (f.servers l.order.call.server).base (order_read l).stamp) where
  abbrev at_s : ℕ
  at_s = l.order.call.shard

  abbrev at_v : ℕ
  at_v = l.order.call.server

  -- an order above the slot's last number is above that of the shade
  above_last : (slot_for f l).last < l.order.number → k.shade.last at_s at_v < l.order.number
  above_last above =
      let o = k.servers at_v h.known in
      let base = h.above in
      elim (o.lasts at_s) [
        | inl a ↦ (let p = a.1 in omega arith)
        | inr a ↦ (let p = a.1 in omega arith)
      ]

  cell_same : held_cells f at_s at_v ≡ (slot_for f l).cell
  cell_same = ap (λ b. if b then f.had at_s at_v else (slot_for f l).cell) h.known

  used_same : load_used f at_v ≡ load_of (controller f).w.sizes (held_cells f) at_v
  used_same =
      ap (λ (z : Sizes). sum_below z.shards (λ s. ((f.servers at_v).slots s).load)) (k.start ∙ sym k.sizes)
      ∙ ap (λ g. sum_below (controller f).w.sizes.shards g) (fun_ext (λ s. (k.servers at_v h.known).loads s
      ∙ ap (λ c. cell_load c ((controller f).w.sizes.load s)) (sym (ap (λ b. if b then f.had s at_v else ((f.servers at_v).slots s).cell) h.known))))

  -- its server makes of it what the shade's server makes
  served_same : (slot_for f l).last < l.order.number → served (slot_for f l).cell (l.room - load_used f at_v) l.load true l.order.call.call
      ≡ served (held_cells f at_s at_v) ((controller f).w.sizes.room at_v - load_of (controller f).w.sizes (held_cells f) at_v) ((controller f).w.sizes.load at_s) true l.order.call.call
  served_same above =
      ap (λ c. served c (l.room - load_used f at_v) l.load true l.order.call.call) (sym cell_same)
      ∙ (ap (λ m. served (held_cells f at_s at_v) (l.room - m) l.load true l.order.call.call) used_same
      ∙ (ap (λ m. served (held_cells f at_s at_v) (m - load_of (controller f).w.sizes (held_cells f) at_v) l.load true l.order.call.call) (sizes.1 ∙ ap (λ (z : Sizes). z.room at_v) (sym k.sizes))
      ∙ ap (λ m. served (held_cells f at_s at_v) ((controller f).w.sizes.room at_v - load_of (controller f).w.sizes (held_cells f) at_v) m true l.order.call.call) (sizes.0 ∙ ap (λ (z : Sizes). z.load at_s) (sym k.sizes))))
    where
      sizes : (l.load ≡ (sizes_of setup).load at_s) × (l.room ≡ (sizes_of setup).room at_v)
      sizes = elim i.sizes [ inl a ↦ a | inr a ↦ absurd (let p = above_last above in omega arith) ]

  -- so it does not refuse it
  never_refused : (slot_for f l).last < l.order.number → (why : Refusal) → served (slot_for f l).cell (l.room - load_used f at_v) l.load true l.order.call.call ≡ Err why → ⊥
  never_refused above why e = (none_is_refused setup (shade_of f k).net (net_of f k) (Deliver i.among.0) tt).0 why (
      ap (λ a. (at_place (shade_of f k).net delivered a).0) i.among.1 ∙ ap (λ d. (after_delivery (shade_of f k).net l.order d).0) (by_table ∙ ap by_served (sym (served_same above) ∙ e)))
    where
      lower : nat_lt l.order.number (k.shade.last at_s at_v) ≡ false
      lower = elim (cases_Bool (nat_lt l.order.number (k.shade.last at_s at_v))) [ inl q ↦ absurd (let a = ltb-true _ _ q in let p = above_last above in omega arith) | inr q ↦ q ]

      other : (l.order.number == k.shade.last at_s at_v) ≡ false
      other = ne_eqb l.order.number (k.shade.last at_s at_v) (λ q. absurd (let p = above_last above in omega arith))

      by_table : real_delivery (shade_of f k).net l.order
          ≡ by_served (served (held_cells f at_s at_v) ((controller f).w.sizes.room at_v - load_of (controller f).w.sizes (held_cells f) at_v) ((controller f).w.sizes.load at_s) true l.order.call.call)
      by_table = rw (lower, other) refl

-- an order that was sent is not refused
not_refused : (setup : Setup) (low : ℕ → ℕ → ℕ) (f : Fleet) (k : IsShadow setup low f) (l : Letter) → IsLetter (sizes_of setup) k.shade l → (why : Refusal) → verdict_of f l ≡ verdict.Refused why → ⊥
not_refused setup low f k l i why e = go (verdict_of f l) e (judged_is (f.servers l.order.call.server).base (slot_for f l) (load_used f l.order.call.server) (order_read l))
  where
    go : (x : Verdict) → x ≡ verdict.Refused why → IsAway x ⊎ (IsHeard (f.servers l.order.call.server).base (order_read l).stamp × IsBySlot (slot_for f l) (load_used f l.order.call.server) (order_read l) x) → ⊥
    go x q (inl (inl a)) = absurd (let z = sym a ∙ q in cc)
    go x q (inl (inr (inl a))) = absurd (let z = sym a ∙ q in cc)
    go x q (inl (inr (inr a))) = absurd (let z = sym a ∙ q in cc)
    go x q (inr (h, Lower n a)) = absurd (let z = sym a ∙ q in cc)
    go x q (inr (h, Same n a)) = absurd (let z = sym a ∙ q in cc)
    go x q (inr (h, Refuses n y s a)) = never_refused setup low f k l i h n y s
    go x q (inr (h, Serves n next s (inl a))) = absurd (let z = sym a ∙ q in cc)
    go x q (inr (h, Serves n next s (inr a))) = absurd (let z = sym a.0 ∙ q in cc)

-- no server refuses an order
pub no_letter_is_refused : EachFleet NoLetterIsRefused
no_letter_is_refused setup f r e l why q = by_event e q
  where
    k : IsShadow setup (λ s v. 0) f
    k = fleet_shadow setup f r

    at_message : (place : ℕ) (o : Option Letter) → slice_get f.sent place ≡ o → (by_message f (after_letter f) o).0 ≡ Judged l (verdict.Refused why) → ⊥
    at_message place None s q = absurd (cc)
    at_message place (Some m) s q =
        let i = all_at (IsLetter (sizes_of setup) (fleet_shadow setup f r).shade) f.sent place m (fleet_shadow setup f r).sent s in
        not_refused setup (λ s v. 0) f (fleet_shadow setup f r) m i why (let z : verdict_of f m ≡ verdict.Refused why = cc in z)

    at_commit : (at : ℕ) (o : Option Letter) → (by_message f (after_commit f at) o).0 ≡ Judged l (verdict.Refused why) → ⊥
    at_commit at None q = absurd (cc)
    at_commit at (Some m) q = by_work (committed (f.servers m.order.call.server).base (slot_for f m) (order_read m) at) q
      where
        by_work : (o : Option Slot) → (after_work f m o).0 ≡ Judged l (verdict.Refused why) → ⊥
        by_work None q = absurd (cc)
        by_work (Some x) q = absurd (cc)

    at_other : {A : Type 0} (g : A → FleetOutcome × Fleet) (o : Option A) → ((x : A) → (g x).0 ≡ Judged l (verdict.Refused why) → ⊥) → (by_message f g o).0 ≡ Judged l (verdict.Refused why) → ⊥
    at_other g None h q = absurd (cc)
    at_other g (Some x) h q = h x q

    by_event : (e : FleetEvent) → (fleet_comes f e).0 ≡ Judged l (verdict.Refused why) → ⊥
    by_event (Make x) q = absurd (cc)
    by_event (End v permit) q = absurd (cc)
    by_event (Open room) q = absurd (cc)
    by_event (HearServer place) q = at_other _ (slice_get f.answers place) (λ x p. absurd (cc)) q
    by_event (HearOwner place) q = at_other _ (slice_get f.stored place) (λ x p. absurd (cc)) q
    by_event (HearAsk place) q = at_other _ (slice_get f.asks place) (λ x p. absurd (cc)) q
    by_event (SendOrder lost id) q = absurd (cc)
    by_event (SendPublication lost id) q = absurd (cc)
    by_event (Judge place) q = at_message place (slice_get f.sent place) refl q
    by_event (Commit place at) q = at_commit at (slice_get f.sent place) q
    by_event (Abandon s v) q = absurd (cc)
    by_event (Publish place) q = at_other _ (slice_get f.published place) (λ x p. absurd (cc)) q
    by_event (Serve s v applied) q = absurd (cc)
    by_event (Receive place applied) q = at_other _ (slice_get f.passes place) (λ x p. absurd (cc)) q
    by_event (Seal place) q = at_other _ (slice_get f.passes place) (λ x p. absurd (cc)) q
    by_event (Forget v) q = absurd (cc)
    by_event (Recover place v) q = at_other _ (slice_get (controller f).restores place) (λ x p. absurd (cc)) q

-- a letter of a stream is what its controller sends
letter_is : (c : Controller) (id : StreamId) (l : Letter) → letter_of c id ≡ Some l → l ≡ letter c l.order
letter_is c id l e = go (order_of c.base c.w id) e
  where
    go : (o : Option Order) → option_map (letter c) o ≡ Some l → l ≡ letter c l.order
    go None q = absurd (cc)
    go (Some o) q = subst (λ (m : Letter). m ≡ letter c m.order) (some_same (letter c o) l q) refl

-- a present order is begun, goes on or is answered again, if its server has its slots
pub present_heard : (setup : Setup) (low : ℕ → ℕ → ℕ) (f : Fleet) (k : IsShadow setup low f) (l : Letter) → IsPresent f l → has_lost f l.order.call.server ≡ false →
    IsHeard (f.servers l.order.call.server).base (order_read l).stamp
    × ((verdict_of f l ≡ verdict.Begin) ⊎ ((verdict_of f l ≡ verdict.Working) ⊎ (verdict_of f l ≡ verdict.Again)))
present_heard setup low f k l present known = (hears, ends)
  where
    o : IsKnownServer (controller f) l.order.call.server (f.servers l.order.call.server) (λ s. k.shade.last s l.order.call.server)
    o = k.servers l.order.call.server known

    says : (order_of (controller f).base (controller f).w l.order.stream ≡ Some l.order) × ((l.load ≡ (controller f).w.sizes.load l.order.call.shard) × (l.room ≡ (controller f).w.sizes.room l.order.call.server))
    says = letter_says (controller f) l.order.stream l present

    own : l ≡ letter (controller f) l.order
    own = letter_is (controller f) l.order.stream l present

    hears : IsHeard (f.servers l.order.call.server).base (order_read l).stamp
    hears = record {
      known = known;
      journal = ap (λ (m : Letter). m.journal) own ∙ sym o.journal;
      taken = o.taken;
      fence = (let a = ap (λ (m : Letter). m.fence) own in let b = o.fence in omega arith);
      above = (let p = present_engages (controller f).base (controller f).w l.order.stream l.order says.0 in let b = o.behind l.order.stream p.0 p.1 in let n = p.2 in omega arith);
    }

    i : IsLetter (sizes_of setup) k.shade l
    i = k.letters zero l.order.stream l present

    of_slot : (x : Verdict) → IsBySlot (slot_for f l) (load_used f l.order.call.server) (order_read l) x → (x ≡ verdict.Begin) ⊎ ((x ≡ verdict.Working) ⊎ (x ≡ verdict.Again))
    of_slot x (Lower n e) =
        let p = (in_order setup low f k).present l.order.stream l.order says.0 in
        let base = hears.above in
        absurd (elim (o.lasts l.order.call.shard) [
          | inl a ↦ (let q = a.1 in omega arith)
          | inr a ↦ (let q = a.0 in omega arith)
        ])
    of_slot x (Same n e) = inr (inr e)
    of_slot x (Refuses n why s e) = absurd (never_refused setup low f k l i hears n why s)
    of_slot x (Serves n next s (inl e)) = inl e
    of_slot x (Serves n next s (inr e)) = inr (inl e.0)

    ends : (verdict_of f l ≡ verdict.Begin) ⊎ ((verdict_of f l ≡ verdict.Working) ⊎ (verdict_of f l ≡ verdict.Again))
    ends = subst (λ x. (x ≡ verdict.Begin) ⊎ ((x ≡ verdict.Working) ⊎ (x ≡ verdict.Again)))
        (sym (ap (λ a. unwrap_or a (judged_by_slot (slot_for f l) (load_used f l.order.call.server) (order_read l))) (heard (f.servers l.order.call.server).base (order_read l).stamp hears)))
        (of_slot (judged_by_slot (slot_for f l) (load_used f l.order.call.server) (order_read l)) (by_slot (slot_for f l) (load_used f l.order.call.server) (order_read l)))

-- a present order is heard, unless its server has lost its slots
pub present_is_heard : EachFleet PresentIsHeard
present_is_heard setup f r l present = elim (cases_Bool (has_lost f l.order.call.server)) [
  | inl lost ↦ inl lost
  | inr known ↦ inr (present_heard setup (λ s v. 0) f (fleet_shadow setup f r) l present known).1
]
