-- The fleet is safe: who serves, what loads there are, which replicas are live, and who executes a request.
use Rattle.std.proofs.Common.{◌≡◌, ℕ, zero, suc, ◌≤◌, ◌<◌, refl, sym, ap, ◌∙◌, subst, arith, not, Bool, true, false, Option, Some, None}
use Rattle.std.specs.Prelude.{◌==◌, ◌&&◌, ◌||◌, if◌then◌else◌, nat_lt, option_map, slice_get}
use Rattle.std.proofs.lemmas.Bool.{and_parts, eq-eqb, eqb-true}
use Rattle.sm_server.specs.declared.call.Cell.TheVariants as cell
use Rattle.sm_server.specs.Cell.{is_secondary}
use Rattle.sm_placement.specs.Setup.{Setup, Sizes}
use Rattle.sm_placement.specs.Place.{is_live_at, live_at, load_of, weight}
use Rattle.sm_placement.specs.Rows.{forwards, serves, serves_as}
use Rattle.sm_placement.specs.SafePlace.{IsSafePlace, IsServing}
use Rattle.sm_placement.proofs.Sums.{same_sum}
use Rattle.sm_placement.specs.Sums.{bit, sum_below}
use Rattle.sm_protocol.specs.Ticket.{Ticket}
use Rattle.sm_protocol.specs.declared.event.Played.TheVariants as played
use Rattle.sm_protocol.specs.Happens.{answer_by}
use Rattle.sm_agent.specs.declared.base.Base.{Base}
use Rattle.sm_agent.specs.declared.slot.Slot.{Slot}
use Rattle.sm_agent.specs.declared.request.Relay.{Relay}
use Rattle.sm_agent.specs.declared.request.Request.{Request}
use Rattle.sm_agent.specs.declared.request.Request.TheVariants.{Direct, Passed}
use Rattle.sm_agent.specs.declared.request.Routing.{Routing}
use Rattle.sm_agent.specs.declared.request.Routing.TheVariants as routing
use Rattle.sm_agent.specs.Base.{lacks_slots}
use Rattle.sm_agent.specs.Order.{committed}
use Rattle.sm_agent.specs.Request.{passed_on, received, routed}
use Rattle.laws_network.specs.Words.{Cell}
use Rattle.laws_network.specs.Net.{Pass as PassEvent, Replied, passed}
use Rattle.laws_network.specs.Controller.{Letter}
use Rattle.laws_network.specs.Fleet.{Abandon, Commit, End, Fleet, FleetEvent, FleetOutcome, Forget, Handoff, HearAsk, HearOwner, HearServer, Judge, Make, Open, Publish, Receive, Recover, Routed, Seal, SendOrder, SendPublication, Serve, after_commit, after_request, after_work, by_message, controller, fleet_comes, has_lost, held_cells, order_read, request_routing, slot_for}
use Rattle.laws_network.specs.FleetLaws.{EachFleet, ExecutesAtOneServer, FleetIsSafe, MapIsRight, held_place, live_and_known, real_cells}
use Rattle.laws_network.proofs.Deliveries.{shade_of}
use Rattle.laws_network.proofs.Lists.{all_at}
use Rattle.laws_network.proofs.OfFleet.{net_of}
use Rattle.laws_network.proofs.Raised.{executes_where_serving, real_is_safe}
use Rattle.laws_network.proofs.Reaching.{fleet_shadow}
use Rattle.laws_network.proofs.Shade.{IsAmong}
use Rattle.laws_network.proofs.Shadow.{IsShadow, ticket_of}
use Rattle.laws_network.proofs.Shown.{shown_is_right}

-- what servers have, or had, is safe
pub held_safe : (setup : Setup) (low : ℕ → ℕ → ℕ) (f : Fleet) (k : IsShadow setup low f) → IsSafePlace (controller f).w.sizes (held_place f)
held_safe setup low f k =
    let r = real_is_safe setup (shade_of f k).net (net_of f k) in
    record { serving = r.serving; rooms = r.rooms; floors = r.floors; listed = r.listed }

-- ---- who serves

-- a server's cell by whether it has lost it
abbrev real_by : Bool → Cell → Cell
real_by lost c = if lost then cell.Absent else c

-- who serves by what servers have serves by what they have or had
module _ (f : Fleet) (s : ℕ) where
  forwards_too : (a v n : ℕ) → forwards (real_cells f s a) v n ≡ true → forwards (held_cells f s a) v n ≡ true
  forwards_too a v n e = go (has_lost f a) refl e
    where
      go : (b : Bool) → has_lost f a ≡ b → forwards (if b then cell.Absent else ((f.servers a).slots s).cell) v n ≡ true → forwards (held_cells f s a) v n ≡ true
      go true h q = absurd (cc)
      go false h q = ap (λ b. forwards (if b then f.had s a else ((f.servers a).slots s).cell) v n) h ∙ q

  serves_too : (v : ℕ) → serves (real_cells f s) v ≡ true → serves (held_cells f s) v ≡ true
  serves_too v e = go (has_lost f v) refl e
    where
      by_cell : (c : Cell) → serves_as (real_cells f s) v c ≡ true → serves_as (held_cells f s) v c ≡ true
      by_cell cell.Primary q = refl
      by_cell (cell.Prepared a n) q = forwards_too a v n q
      by_cell cell.Absent q = absurd (cc)
      by_cell cell.Secondary q = absurd (cc)
      by_cell (cell.Forwarding a n) q = absurd (cc)

      go : (b : Bool) → has_lost f v ≡ b → serves_as (real_cells f s) v (if b then cell.Absent else ((f.servers v).slots s).cell) ≡ true → serves (held_cells f s) v ≡ true
      go true h q = absurd (cc)
      go false h q = ap (λ b. serves_as (held_cells f s) v (if b then f.had s v else ((f.servers v).slots s).cell)) h ∙ by_cell ((f.servers v).slots s).cell q

-- ---- loads

sum_of_none : (n : ℕ) → sum_below n (λ s. 0) ≡ 0
sum_of_none zero = refl
sum_of_none (suc n) = let a = sum_of_none n in omega arith

-- a server has no more load than it has, or had
load_less : (c : Sizes) (f : Fleet) (v : ℕ) → load_of c (real_cells f) v ≤ load_of c (held_cells f) v
load_less c f v = go (has_lost f v) refl
  where
    go : (b : Bool) → has_lost f v ≡ b → load_of c (real_cells f) v ≤ load_of c (held_cells f) v
    go true h =
        let a : load_of c (real_cells f) v ≡ 0 = ap (λ b. sum_below c.shards (λ s. weight (if b then cell.Absent else ((f.servers v).slots s).cell) (c.load s))) h ∙ sum_of_none c.shards in
        omega arith
    go false h =
        let a : load_of c (real_cells f) v ≡ load_of c (held_cells f) v =
        ap (λ b. sum_below c.shards (λ s. weight (if b then cell.Absent else ((f.servers v).slots s).cell) (c.load s))) h
        ∙ sym (ap (λ b. sum_below c.shards (λ s. weight (if b then f.had s v else ((f.servers v).slots s).cell) (c.load s))) h) in
        omega arith

-- ---- floors

-- if only servers that are recorded as down have lost their slots, a live replica is at one that has not
all_known : (f : Fleet) → ((v : ℕ) → v < (controller f).w.sizes.servers → has_lost f v ≡ true → (controller f).w.place.down v ≡ true) → (s v : ℕ) → v < (controller f).w.sizes.servers → (is_live_at (held_place f) s v && not (has_lost f v)) ≡ is_live_at (held_place f) s v
all_known f only s v l = go (has_lost f v) refl
  where
    keeps : (b : Bool) → (b && true) ≡ b
    keeps true = refl
    keeps false = refl

    drops : (b : Bool) → (b && false) ≡ false
    drops true = refl
    drops false = refl

    go : (b : Bool) → has_lost f v ≡ b → (is_live_at (held_place f) s v && not b) ≡ is_live_at (held_place f) s v
    go true h = drops (is_live_at (held_place f) s v) ∙ sym (ap (λ d. not d && (is_secondary (held_cells f s v) || serves (held_cells f s) v)) (only v l h))
    go false h = keeps (is_live_at (held_place f) s v)

-- the fleet is safe
pub fleet_is_safe : EachFleet FleetIsSafe
fleet_is_safe setup f r =
    let k = fleet_shadow setup f r in
    let safe = held_safe setup (λ s v. 0) f k in
    record {
      held = safe;
      serving = λ s u v a b. safe.serving s u v (serves_too f s u a) (serves_too f s v b);
      rooms = λ v l. (let a = safe.rooms v l in let b = load_less (controller f).w.sizes f v in omega arith);
      floors = λ only s l.
          let a = safe.floors s l in
          let b : live_and_known f s ≡ live_at (controller f).w.sizes (held_place f) s = same_sum (controller f).w.sizes.servers _ _ (λ v i. ap bit (all_known f only s v i)) in
          omega arith;
    }

-- the shown server serves, or forwards to the one that does
pub map_is_right : EachFleet MapIsRight
map_is_right setup f r s u e = shown_is_right setup (shade_of f (fleet_shadow setup f r)) (fleet_shadow setup f r).reached s u e

-- ---- who executes a request

-- a server that executes a request is the primary, or prepared for the one that passed it on
data IsExecuting (base : Base) (slot : Slot) (request : Request) : Type 0 where
  AtPrimary : lacks_slots base ≡ false → slot.cell ≡ cell.Primary → IsExecuting base slot request
  AtPrepared : lacks_slots base ≡ false → (p : Relay) → request ≡ Passed p → slot.cell ≡ cell.Prepared p.from p.handover → IsExecuting base slot request

executing : (base : Base) (slot : Slot) (applied : ℕ) (request : Request) → routed base slot applied request ≡ routing.Execute → IsExecuting base slot request
executing base slot applied request e = go slot.cell request e
  where
    known : (b : Bool) (x : Routing) → lacks_slots base ≡ b → (if b then routing.NotHere else x) ≡ routing.Execute → (lacks_slots base ≡ false) × (x ≡ routing.Execute)
    known true x h q = absurd (cc)
    known false x h q = (h, q)

    never : (o : Option ℕ) (a n : ℕ) → passed_on a n base.fenced o ≡ routing.Execute → ⊥
    never None a n q = absurd (cc)
    never (Some c) a n q = by_frozen base.fenced q
      where
        by_frozen : (t : Bool) → (if t then routing.NotYet else routing.PassOn a n c) ≡ routing.Execute → ⊥
        by_frozen true q = absurd (cc)
        by_frozen false q = absurd (cc)

    fits : (a n : ℕ) (p : Relay) → received a n base.fenced applied p ≡ routing.Execute → (a ≡ p.from) × (n ≡ p.handover)
    fits a n p q = by_test (p.from == a && p.handover == n) refl q
      where
        by_test : (t : Bool) → (p.from == a && p.handover == n) ≡ t → (if not t then routing.NotHere else if base.fenced || nat_lt applied p.cut then routing.NotYet else routing.Execute) ≡ routing.Execute → (a ≡ p.from) × (n ≡ p.handover)
        by_test true h q = let t = and_parts (p.from == a) (p.handover == n) h in (sym (eqb-true p.from a t.0), sym (eqb-true p.handover n t.1))
        by_test false h q = absurd (cc)

    go : (c : Cell) (r : Request) → routed base (record slot { cell = c }) applied r ≡ routing.Execute → IsExecuting base (record slot { cell = c }) r
    go cell.Absent r q = absurd (let p = (known (lacks_slots base) routing.NotHere refl q).1 in cc)
    go cell.Secondary r q = absurd (let p = (known (lacks_slots base) routing.NotHere refl q).1 in cc)
    go cell.Primary r q = AtPrimary (known (lacks_slots base) _ refl q).0 refl
    go (cell.Forwarding a n) r q = absurd (never slot.cut a n (known (lacks_slots base) (passed_on a n base.fenced slot.cut) refl q).1)
    go (cell.Prepared a n) Direct q = absurd (let p = (known (lacks_slots base) routing.NotHere refl q).1 in cc)
    go (cell.Prepared a n) (Passed p) q =
        let t = known (lacks_slots base) (received a n base.fenced applied p) refl q in
        let m = fits a n p t.1 in
        AtPrepared t.0 p refl (ap (λ z. cell.Prepared z n) m.0 ∙ ap (cell.Prepared p.from) m.1)

-- who executes a request is the one server that serves
module _ (setup : Setup) (low : ℕ → ℕ → ℕ) (f : Fleet) (k : IsShadow setup low f) (s v : ℕ) where
  abbrev IsOne : Type 0
  IsOne = (has_lost f v ≡ false) × IsServing (held_place f) s v × ((u : ℕ) → IsServing (held_place f) s u → u ≡ v)

  one_by : has_lost f v ≡ false → IsServing (held_place f) s v → IsOne
  one_by known serving = (known, serving, λ u h. (held_safe setup low f k).serving s u v h serving)

  one_primary : has_lost f v ≡ false → ((f.servers v).slots s).cell ≡ cell.Primary → IsOne
  one_primary known e =
      let here : held_cells f s v ≡ cell.Primary = ap (λ b. if b then f.had s v else ((f.servers v).slots s).cell) known ∙ e in
      one_by known (ap (serves_as (held_cells f s) v) here)

  -- a passed request is one that the shade has passed on
  one_prepared : has_lost f v ≡ false → (p : Relay) → ((f.servers v).slots s).cell ≡ cell.Prepared p.from p.handover → IsAmong k.shade.passes (ticket_of (record { shard = s; target = v; pass = p })) → IsOne
  one_prepared known p e among =
      let here : held_cells f s v ≡ cell.Prepared p.from p.handover = ap (λ b. if b then f.had s v else ((f.servers v).slots s).cell) known ∙ e in
      let t : Ticket = ticket_of (record { shard = s; target = v; pass = p }) in
      let reply : answer_by (held_cells f s v) v (Some t) 0 ≡ played.Executed v =
      ap (λ c. answer_by c v (Some t) 0) here ∙ (rw (eq-eqb p.from p.from refl, eq-eqb p.handover p.handover refl) refl) in
      let x = executes_where_serving setup (shade_of f k).net (net_of f k) (PassEvent among.0) s v
      (ap (λ o. option_map (λ (t : Ticket). t.shard) o) among.1)
      (ap (λ o. (passed (shade_of f k).net o).0) among.1 ∙ ap Replied reply) in
      one_by known x.0

  one_executing : (request : Request) → ((p : Relay) → request ≡ Passed p → IsAmong k.shade.passes (ticket_of (record { shard = s; target = v; pass = p }))) → IsExecuting (f.servers v).base ((f.servers v).slots s) request → IsOne
  one_executing request h (AtPrimary known e) = one_primary known e
  one_executing request h (AtPrepared known p q e) = one_prepared known p e (h p q)

-- who executes a request has its slots, and is the one server that serves
pub executes_at_one_server : EachFleet ExecutesAtOneServer
executes_at_one_server setup f r e s v q = by_event e q
  where
    at_other : {A : Type 0} (g : A → FleetOutcome × Fleet) (o : Option A) → ((x : A) → (g x).0 ≡ Routed s v routing.Execute → ⊥) → (by_message f g o).0 ≡ Routed s v routing.Execute → ⊥
    at_other g None h q = absurd (cc)
    at_other g (Some x) h q = h x q

    never : {A : Type 0} (g : A → FleetOutcome × Fleet) (o : Option A) → ((x : A) → (g x).0 ≡ Routed s v routing.Execute → ⊥) → (by_message f g o).0 ≡ Routed s v routing.Execute → IsOne setup (λ s v. 0) f (fleet_shadow setup f r) s v
    never g o h q = absurd (at_other g o h q)

    no_commit : (at : ℕ) (m : Letter) → (after_commit f at m).0 ≡ Routed s v routing.Execute → ⊥
    no_commit at m q = by_work (committed (f.servers m.order.call.server).base (slot_for f m) (order_read m) at) q
      where
        by_work : (o : Option Slot) → (after_work f m o).0 ≡ Routed s v routing.Execute → ⊥
        by_work None q = absurd (cc)
        by_work (Some x) q = absurd (cc)

    at_request : (s' v' applied : ℕ) (request : Request) → ((p : Relay) → request ≡ Passed p → IsAmong (fleet_shadow setup f r).shade.passes (ticket_of (record { shard = s'; target = v'; pass = p }))) →
        (after_request f s' v' applied request).0 ≡ Routed s v routing.Execute → IsOne setup (λ s v. 0) f (fleet_shadow setup f r) s v
    at_request s' v' applied request h q =
        let a : s' ≡ s = cc in
        let b : v' ≡ v = cc in
        let c : request_routing f s' v' applied request ≡ routing.Execute = cc in
        subst (λ z. IsOne setup (λ s v. 0) f (fleet_shadow setup f r) z v) a (subst (λ z. IsOne setup (λ s v. 0) f (fleet_shadow setup f r) s' z) b
        (one_executing setup (λ s v. 0) f (fleet_shadow setup f r) s' v' request h (executing (f.servers v').base ((f.servers v').slots s') applied request c)))

    at_pass : (place applied : ℕ) (o : Option Handoff) → slice_get f.passes place ≡ o → (by_message f (λ h. after_request f h.shard h.target applied (Passed h.pass)) o).0 ≡ Routed s v routing.Execute →
        IsOne setup (λ s v. 0) f (fleet_shadow setup f r) s v
    at_pass place applied None e q = absurd (cc)
    at_pass place applied (Some h) e q = at_request h.shard h.target applied (Passed h.pass)
        (λ p w. subst (λ (z : Relay). IsAmong (fleet_shadow setup f r).shade.passes (ticket_of (record { shard = h.shard; target = h.target; pass = z }))) (let z : h.pass ≡ p = cc in z)
        (all_at (λ h. IsAmong (fleet_shadow setup f r).shade.passes (ticket_of h)) f.passes place h (fleet_shadow setup f r).passes e)) q

    by_event : (e : FleetEvent) → (fleet_comes f e).0 ≡ Routed s v routing.Execute → IsOne setup (λ s v. 0) f (fleet_shadow setup f r) s v
    by_event (Make x) q = absurd (cc)
    by_event (End v permit) q = absurd (cc)
    by_event (Open room) q = absurd (cc)
    by_event (HearServer place) q = never _ (slice_get f.answers place) (λ x p. absurd (cc)) q
    by_event (HearOwner place) q = never _ (slice_get f.stored place) (λ x p. absurd (cc)) q
    by_event (HearAsk place) q = never _ (slice_get f.asks place) (λ x p. absurd (cc)) q
    by_event (SendOrder lost id) q = absurd (cc)
    by_event (SendPublication lost id) q = absurd (cc)
    by_event (Judge place) q = never _ (slice_get f.sent place) (λ x p. absurd (cc)) q
    by_event (Commit place at) q = never _ (slice_get f.sent place) (no_commit at) q
    by_event (Abandon s v) q = absurd (cc)
    by_event (Publish place) q = never _ (slice_get f.published place) (λ x p. absurd (cc)) q
    by_event (Serve s' v' applied) q = at_request s' v' applied Direct (λ p w. absurd (cc)) q
    by_event (Receive place applied) q = at_pass place applied (slice_get f.passes place) refl q
    by_event (Seal place) q = never _ (slice_get f.passes place) (λ x p. absurd (cc)) q
    by_event (Forget v) q = absurd (cc)
    by_event (Recover place v) q = never _ (slice_get (controller f).restores place) (λ x p. absurd (cc)) q
