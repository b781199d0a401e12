-- What becomes of a slot, and of the requests that were passed on, by an event.
use Rattle.std.proofs.Common.{◌≡◌, ◌⊎◌, ℕ, suc, refl, sym, ap, ◌∙◌, inl, inr, subst, Bool, true, false, Option, Some, None, List, ◌++◌, length}
use Rattle.std.specs.Prelude.{◌==◌, if◌then◌else◌, slice_get}
use Rattle.std.specs.List.{AllByRecursion}
use Rattle.std.specs.Option.{option_to_list}
use Rattle.std.proofs.lemmas.Bool.{eqb-true}
use Rattle.sm_server.specs.declared.call.Cell.{Cell}
use Rattle.sm_server.specs.declared.call.Cell.TheVariants.{Absent, Forwarding, Prepared, Primary, Secondary}
use Rattle.sm_server.specs.declared.call.Call.{Call}
use Rattle.sm_server.specs.declared.call.Call.TheVariants.{Add, Change, Drop, PrepareAdd, PrepareDrop}
use Rattle.sm_server.specs.Call.{led_to}
use Rattle.sm_placement.specs.Sums.{put}
use Rattle.sm_agent.specs.declared.base.Base.{Base}
use Rattle.sm_agent.specs.declared.base.Reception.{Reception}
use Rattle.sm_agent.specs.declared.base.Reception.TheVariants as reception
use Rattle.sm_agent.specs.declared.order.Verdict.{Verdict}
use Rattle.sm_agent.specs.declared.order.Verdict.TheVariants as verdict
use Rattle.sm_agent.specs.declared.request.Request.{Request}
use Rattle.sm_agent.specs.declared.request.Request.TheVariants.{Direct, Passed}
use Rattle.sm_agent.specs.declared.request.Routing.{Routing}
use Rattle.sm_agent.specs.declared.request.Routing.TheVariants as routing
use Rattle.sm_agent.specs.declared.slot.Slot.{Slot}
use Rattle.sm_agent.specs.Base.{forgotten, lacks_slots, restored}
use Rattle.sm_agent.specs.Order.{abandoned, begun_slot, committed, cut_by, placed, sealed, vacant}
use Rattle.sm_agent.specs.Request.{passed_on, routed}
use Rattle.laws_network.specs.Net.{Order}
use Rattle.laws_network.specs.Controller.{Letter, Notice, Restore}
use Rattle.laws_network.specs.Fleet.{Abandon, Commit, Committed, End, Fleet, FleetEvent, FleetOutcome, Forget, Handoff, HearAsk, HearOwner, HearServer, Judge, Make, Open, Publish, Receive, Recover, Seal, SendOrder, SendPublication, Serve, Server, after_commit, after_loss, after_owner, after_reception, after_request, after_seal, after_verdict, after_work, by_message, controller, fleet_comes, handoff_by, has_lost, order_read, owner_verdict, request_routing, slot_for, verdict_of, with_slot}
use Rattle.laws_network.proofs.AtServer.{commit_is}
use Rattle.laws_network.proofs.Deliveries.{passes_on}
use Rattle.laws_network.proofs.Lists.{all_append}
use Rattle.laws_network.proofs.Shade.{IsAmong, among_more}
use Rattle.laws_network.proofs.Slots.{put_elim}

-- a server's slot of a shard
abbrev pub slot_at : Fleet → ℕ → ℕ → Slot
slot_at f s a = (f.servers a).slots s

-- What a slot is after an event: as it was, without a cut, with one that was heard, or with one that it has made.
pub data SlotMove (f : Fleet) (e : FleetEvent) (s a : ℕ) (new : Slot) : Type 0 where
  Kept : has_lost f a ≡ false → new.cell ≡ (slot_at f s a).cell → new.cut ≡ (slot_at f s a).cut → SlotMove f e s a new
  Emptied : new.cut ≡ None → SlotMove f e s a new
  Heard : (j : ℕ) (h : Handoff) (w : ℕ) → slice_get f.passes j ≡ Some h → h.shard ≡ s → new.cell ≡ Prepared w h.pass.handover → new.cut ≡ Some h.pass.cut → SlotMove f e s a new
  Made : (o : Order) (place at to n : ℕ) → e ≡ Commit place at → (fleet_comes f e).0 ≡ Committed o → o.call.shard ≡ s → o.call.server ≡ a → o.call.call ≡ PrepareDrop to n → new.cell ≡ Forwarding to n → new.cut ≡ Some at
      → SlotMove f e s a new

-- a slot of a fleet in which one slot is another one
put_slot : (f : Fleet) (t v : ℕ) (y : Slot) (s a : ℕ) (P : Slot → Type 0) → (a ≡ v → s ≡ t → P y) → P (slot_at f s a) → P (slot_at (with_slot f t v y) s a)
put_slot f t v y s a P here there = put_elim (λ (x : Server). P (x.slots s)) f.servers v (record (f.servers v) { slots = put (f.servers v).slots t y }) a
    (λ q. put_elim P (f.servers v).slots t y s (λ g. here q g) (λ g. subst (λ w. P (slot_at f s w)) q there))
    (λ q. there)

-- it has lost its slots as before
lost_same : (f : Fleet) (t v : ℕ) (y : Slot) (a : ℕ) → has_lost (with_slot f t v y) a ≡ has_lost f a
lost_same f t v y a = put_elim (λ (x : Server). lacks_slots x.base ≡ has_lost f a) f.servers v (record (f.servers v) { slots = put (f.servers v).slots t y }) a
    (λ q. ap (has_lost f) (sym q)) (λ q. refl)

-- a call that tells a cut makes its server forward
makes_cut : (x : Call) (c d : Cell) (at k : ℕ) → led_to x c ≡ Some d → cut_by x at ≡ Some k → (to n : ℕ) × (x ≡ PrepareDrop to n) × (c ≡ Primary) × (d ≡ Forwarding to n) × (at ≡ k)
makes_cut (PrepareDrop to n) Primary d at k e q = (to, n, refl, refl, (let z : d ≡ Forwarding to n = cc in z), (let z : at ≡ k = cc in z))
makes_cut (PrepareDrop to n) Absent d at k e q = absurd (cc)
makes_cut (PrepareDrop to n) Secondary d at k e q = absurd (cc)
makes_cut (PrepareDrop to n) (Prepared a b) d at k e q = absurd (cc)
makes_cut (PrepareDrop to n) (Forwarding a b) d at k e q = absurd (cc)
makes_cut (PrepareAdd a b) c d at k e q = absurd (cc)
makes_cut (Add r) c d at k e q = absurd (cc)
makes_cut (Change r t) c d at k e q = absurd (cc)
makes_cut Drop c d at k e q = absurd (cc)

-- a cut that is there, or none
some_or : (o : Option ℕ) → (o ≡ None) ⊎ ((k : ℕ) × (o ≡ Some k))
some_or None = inl refl
some_or (Some k) = inr (k, refl)

module _ (f : Fleet) (s a : ℕ) where
  -- all servers are as they were
  same : (e : FleetEvent) → has_lost f a ≡ false → SlotMove f e s a (slot_at f s a)
  same e known = Kept known refl refl

  abbrev Moves : FleetEvent → Fleet → Type 0
  Moves e g = has_lost g a ≡ false → SlotMove f e s a (slot_at g s a)

  by_letter : {A : Type 0} (e : FleetEvent) (g : A → FleetOutcome × Fleet) (o : Option A) → ((x : A) → o ≡ Some x → Moves e (g x).1) → Moves e (by_message f g o).1
  by_letter e g None h = same e
  by_letter e g (Some x) h = h x refl

  -- one slot has the same cell and cut
  with_same : (e : FleetEvent) (t v : ℕ) (y : Slot) → y.cell ≡ (slot_at f t v).cell → y.cut ≡ (slot_at f t v).cut → Moves e (with_slot f t v y)
  with_same e t v y c k known =
      let was : has_lost f a ≡ false = sym (lost_same f t v y a) ∙ known in
      put_slot f t v y s a (SlotMove f e s a)
      (λ q g. Kept was (c ∙ ap (λ w. (slot_at f t w).cell) (sym q) ∙ ap (λ z. (slot_at f z a).cell) (sym g)) (k ∙ ap (λ w. (slot_at f t w).cut) (sym q) ∙ ap (λ z. (slot_at f z a).cut) (sym g)))
      (same e was)

  verdict_moves : (e : FleetEvent) (l : Letter) (x : Verdict) → Moves e (after_verdict f l x)
  verdict_moves e l verdict.Begin = with_same e l.order.call.shard l.order.call.server (begun_slot (slot_for f l) (order_read l)) refl refl
  verdict_moves e l verdict.Working = same e
  verdict_moves e l verdict.Again = same e
  verdict_moves e l verdict.Old = same e
  verdict_moves e l verdict.Foreign = same e
  verdict_moves e l verdict.NotReady = same e
  verdict_moves e l (verdict.Refused why) = same e

  work_moves : (place at : ℕ) (l : Letter) (o : Option Slot) → committed (f.servers l.order.call.server).base (slot_for f l) (order_read l) at ≡ o → (fleet_comes f (Commit place at)).0 ≡ (after_work f l o).0
      → Moves (Commit place at) (after_work f l o).1
  work_moves place at l None e q known = same (Commit place at) known
  work_moves place at l (Some next) e q known =
      let c = commit_is (f.servers l.order.call.server).base (slot_for f l) (order_read l) at next e in
      let was : has_lost f a ≡ false = sym (lost_same f l.order.call.shard l.order.call.server next a) ∙ known in
      put_slot f l.order.call.shard l.order.call.server next s a (SlotMove f (Commit place at) s a)
      (λ g h. elim (some_or next.cut) [
        | inl none ↦ Emptied none
        | inr some ↦
            let m = makes_cut l.order.call.call (slot_for f l).cell next.cell at some.0 c.led (sym c.cut ∙ some.1) in
            Made l.order place at m.0 m.1 refl q (sym h) (sym g) m.2 m.4 (some.1 ∙ ap (λ (k : ℕ). let z : Option ℕ = Some k in z) (sym m.5))
      ])
      (same (Commit place at) was)

  owner_moves : (e : FleetEvent) (n : Notice) (x : Verdict) → Moves e (after_owner f n.publication x)
  owner_moves e n verdict.Begin = same e
  owner_moves e n verdict.Working = same e
  owner_moves e n verdict.Again = same e
  owner_moves e n verdict.Old = same e
  owner_moves e n verdict.Foreign = same e
  owner_moves e n verdict.NotReady = same e
  owner_moves e n (verdict.Refused why) = same e

  -- a slot that hears a cut is prepared in its handover
  hears : (slot : Slot) (n cut : ℕ) → ((sealed slot n cut).cut ≡ slot.cut) × ((sealed slot n cut).cell ≡ slot.cell) ⊎ ((w : ℕ) × ((sealed slot n cut).cell ≡ Prepared w n) × ((sealed slot n cut).cut ≡ Some cut))
  hears slot n cut = go slot.cell
    where
      Goal : Slot → Type 0
      Goal x = ((sealed x n cut).cut ≡ x.cut) × ((sealed x n cut).cell ≡ x.cell) ⊎ ((w : ℕ) × ((sealed x n cut).cell ≡ Prepared w n) × ((sealed x n cut).cut ≡ Some cut))

      go : (c : Cell) → Goal (record slot { cell = c })
      go Absent = inl (refl, refl)
      go Secondary = inl (refl, refl)
      go Primary = inl (refl, refl)
      go (Forwarding w m) = inl (refl, refl)
      go (Prepared w m) = by_test (m == n) refl
        where
          by_test : (b : Bool) → (m == n) ≡ b → Goal (record slot { cell = Prepared w m })
          by_test true q = inr (w, ap (λ t. (if t then record slot { cell = Prepared w m; cut = Some cut } else record slot { cell = Prepared w m }).cell) q ∙ ap (Prepared w) (eqb-true m n q), ap (λ t. (if t then record slot { cell = Prepared w m; cut = Some cut } else record slot { cell = Prepared w m }).cut) q)
          by_test false q = inl (ap (λ t. (if t then record slot { cell = Prepared w m; cut = Some cut } else record slot { cell = Prepared w m }).cut) q, ap (λ t. (if t then record slot { cell = Prepared w m; cut = Some cut } else record slot { cell = Prepared w m }).cell) q)

  seal_moves : (e : FleetEvent) (j : ℕ) (h : Handoff) → slice_get f.passes j ≡ Some h → Moves e (after_seal f h).1
  seal_moves e j h q known =
      let y = sealed (slot_at f h.shard h.target) h.pass.handover h.pass.cut in
      let was : has_lost f a ≡ false = sym (lost_same f h.shard h.target y a) ∙ known in
      elim (hears (slot_at f h.shard h.target) h.pass.handover h.pass.cut) [
        | inl k ↦ with_same e h.shard h.target y k.1 k.0 known
        | inr k ↦ put_slot f h.shard h.target y s a (SlotMove f e s a) (λ g z. Heard j h k.0 q (sym z) k.1 k.2) (same e was)
      ]

  loss_moves : (e : FleetEvent) (v : ℕ) → Moves e (after_loss f v)
  loss_moves e v = put_elim (λ (x : Server). lacks_slots x.base ≡ false → SlotMove f e s a (x.slots s)) f.servers v (record { base = forgotten (suc (length f.asks)); slots = λ s. vacant }) a
      (λ q known. Emptied refl) (λ q known. same e known)

  reception_moves : (e : FleetEvent) (v : ℕ) (r : Restore) (x : Reception) → Moves e (after_reception f v r x)
  reception_moves e v r (reception.Taken base) = put_elim (λ (x : Server). lacks_slots x.base ≡ false → SlotMove f e s a (x.slots s)) f.servers v (record { base = base; slots = λ s. placed vacant (r.cells s) (r.loads s) }) a
      (λ q known. Emptied refl) (λ q known. same e known)
  reception_moves e v r reception.Again = same e
  reception_moves e v r reception.Ignored = same e

  -- whatever comes
  pub slot_moves : (e : FleetEvent) → Moves e (fleet_comes f e).1
  slot_moves (Make x) = same (Make x)
  slot_moves (End v permit) = same (End v permit)
  slot_moves (Open room) = same (Open room)
  slot_moves (HearServer place) = by_letter (HearServer place) _ (slice_get f.answers place) (λ x q. same (HearServer place))
  slot_moves (HearOwner place) = by_letter (HearOwner place) _ (slice_get f.stored place) (λ x q. same (HearOwner place))
  slot_moves (HearAsk place) = by_letter (HearAsk place) _ (slice_get f.asks place) (λ x q. same (HearAsk place))
  slot_moves (SendOrder lost id) = same (SendOrder lost id)
  slot_moves (SendPublication lost id) = same (SendPublication lost id)
  slot_moves (Judge place) = by_letter (Judge place) _ (slice_get f.sent place) (λ l q. verdict_moves (Judge place) l (verdict_of f l))
  slot_moves (Commit place at) = by_letter (Commit place at) (after_commit f at) (slice_get f.sent place) (λ l q.
      work_moves place at l (committed (f.servers l.order.call.server).base (slot_for f l) (order_read l) at) refl (ap (λ (o : Option Letter). (by_message f (after_commit f at) o).0) q))
  slot_moves (Abandon t v) = with_same (Abandon t v) t v (abandoned (slot_at f t v)) refl refl
  slot_moves (Publish place) = by_letter (Publish place) _ (slice_get f.published place) (λ n q. owner_moves (Publish place) n (owner_verdict f n))
  slot_moves (Serve t v applied) = same (Serve t v applied)
  slot_moves (Receive place applied) = by_letter (Receive place applied) _ (slice_get f.passes place) (λ h q. same (Receive place applied))
  slot_moves (Seal place) = by_letter (Seal place) _ (slice_get f.passes place) (λ h q. seal_moves (Seal place) place h q)
  slot_moves (Forget v) = loss_moves (Forget v) v
  slot_moves (Recover place v) = by_letter (Recover place v) _ (slice_get (controller f).restores place) (λ r q. reception_moves (Recover place v) v r (restored (f.servers v).base r.restoration))

-- ---- requests that were passed on

-- a request is passed on by a server that forwards, and knows its cut
pub record IsPassed (f : Fleet) (h : Handoff) : Type 0 where
  pub known : has_lost f h.pass.from ≡ false
  pub cell : (slot_at f h.shard h.pass.from).cell ≡ Forwarding h.target h.pass.handover
  pub cut : (slot_at f h.shard h.pass.from).cut ≡ Some h.pass.cut

-- what has been passed on after an event
pub data PassMove (f : Fleet) (passes : List Handoff) : Type 0 where
  AsBefore : passes ≡ f.passes → PassMove f passes
  OneMore : (o : Option Handoff) → passes ≡ f.passes ++ option_to_list o → ((h : Handoff) → o ≡ Some h → IsPassed f h) → PassMove f passes

-- whoever passes a request on tells its cut
cut_passed : (base : Base) (slot : Slot) (applied : ℕ) (request : Request) (to n cut : ℕ) → routed base slot applied request ≡ routing.PassOn to n cut → slot.cut ≡ Some cut
cut_passed base slot applied request to n cut e =
    let p = passes_on base slot applied request to n cut e in
    let here : routed base (record slot { cell = Forwarding to n }) applied request ≡ routing.PassOn to n cut = subst (λ c. routed base (record slot { cell = c }) applied request ≡ routing.PassOn to n cut) p.1 e in
    go slot.cut (sym (ap (λ b. if b then routing.NotHere else passed_on to n base.fenced slot.cut) p.0) ∙ here)
  where
    by_frozen : (t : Bool) (k : ℕ) → (if t then routing.NotYet else routing.PassOn to n k) ≡ routing.PassOn to n cut → k ≡ cut
    by_frozen true k q = absurd (cc)
    by_frozen false k q = (let z : k ≡ cut = cc in z)

    go : (o : Option ℕ) → passed_on to n base.fenced o ≡ routing.PassOn to n cut → o ≡ Some cut
    go None q = absurd (cc)
    go (Some k) q = ap (λ (x : ℕ). let z : Option ℕ = Some x in z) (by_frozen base.fenced k q)

module _ (f : Fleet) where
  request_passes : (s v applied : ℕ) (request : Request) → PassMove f (after_request f s v applied request).1.passes
  request_passes s v applied request = OneMore (handoff_by s v (request_routing f s v applied request)) refl (λ h q. go (request_routing f s v applied request) refl h q)
    where
      go : (x : Routing) → request_routing f s v applied request ≡ x → (h : Handoff) → handoff_by s v x ≡ Some h → IsPassed f h
      go (routing.PassOn to n cut) e h q =
          let p = passes_on (f.servers v).base ((f.servers v).slots s) applied request to n cut e in
          let k = cut_passed (f.servers v).base ((f.servers v).slots s) applied request to n cut e in
          subst (IsPassed f) (let z : record { shard = s; target = to; pass = record { from = v; handover = n; cut = cut } } ≡ h = cc in z) (record { known = p.0; cell = p.1; cut = k })
      go routing.Execute e h q = absurd (cc)
      go routing.NotHere e h q = absurd (cc)
      go routing.NotYet e h q = absurd (cc)

  by_message_passes : {A : Type 0} (g : A → FleetOutcome × Fleet) (o : Option A) → ((x : A) → PassMove f (g x).1.passes) → PassMove f (by_message f g o).1.passes
  by_message_passes g None h = AsBefore refl
  by_message_passes g (Some x) h = h x

  verdict_passes : (l : Letter) (x : Verdict) → PassMove f (after_verdict f l x).passes
  verdict_passes l verdict.Begin = AsBefore refl
  verdict_passes l verdict.Working = AsBefore refl
  verdict_passes l verdict.Again = AsBefore refl
  verdict_passes l verdict.Old = AsBefore refl
  verdict_passes l verdict.Foreign = AsBefore refl
  verdict_passes l verdict.NotReady = AsBefore refl
  verdict_passes l (verdict.Refused why) = AsBefore refl

  work_passes : (l : Letter) (o : Option Slot) → PassMove f (after_work f l o).1.passes
  work_passes l None = AsBefore refl
  work_passes l (Some next) = AsBefore refl

  owner_passes : (n : Notice) (x : Verdict) → PassMove f (after_owner f n.publication x).passes
  owner_passes n verdict.Begin = AsBefore refl
  owner_passes n verdict.Working = AsBefore refl
  owner_passes n verdict.Again = AsBefore refl
  owner_passes n verdict.Old = AsBefore refl
  owner_passes n verdict.Foreign = AsBefore refl
  owner_passes n verdict.NotReady = AsBefore refl
  owner_passes n (verdict.Refused why) = AsBefore refl

  reception_passes : (v : ℕ) (r : Restore) (x : Reception) → PassMove f (after_reception f v r x).passes
  reception_passes v r (reception.Taken base) = AsBefore refl
  reception_passes v r reception.Again = AsBefore refl
  reception_passes v r reception.Ignored = AsBefore refl

  -- whatever comes
  pub passes_move : (e : FleetEvent) → PassMove f (fleet_comes f e).1.passes
  passes_move (Make x) = AsBefore refl
  passes_move (End v permit) = AsBefore refl
  passes_move (Open room) = AsBefore refl
  passes_move (HearServer place) = by_message_passes _ (slice_get f.answers place) (λ x. AsBefore refl)
  passes_move (HearOwner place) = by_message_passes _ (slice_get f.stored place) (λ x. AsBefore refl)
  passes_move (HearAsk place) = by_message_passes _ (slice_get f.asks place) (λ x. AsBefore refl)
  passes_move (SendOrder lost id) = AsBefore refl
  passes_move (SendPublication lost id) = AsBefore refl
  passes_move (Judge place) = by_message_passes _ (slice_get f.sent place) (λ l. verdict_passes l (verdict_of f l))
  passes_move (Commit place at) = by_message_passes _ (slice_get f.sent place) (λ l. work_passes l (committed (f.servers l.order.call.server).base (slot_for f l) (order_read l) at))
  passes_move (Abandon t v) = AsBefore refl
  passes_move (Publish place) = by_message_passes _ (slice_get f.published place) (λ n. owner_passes n (owner_verdict f n))
  passes_move (Serve t v applied) = request_passes t v applied Direct
  passes_move (Receive place applied) = by_message_passes _ (slice_get f.passes place) (λ h. request_passes h.shard h.target applied (Passed h.pass))
  passes_move (Seal place) = by_message_passes _ (slice_get f.passes place) (λ h. AsBefore refl)
  passes_move (Forget v) = AsBefore refl
  passes_move (Recover place v) = by_message_passes _ (slice_get (controller f).restores place) (λ r. reception_passes v r (restored (f.servers v).base r.restoration))

  -- what was passed on was so for good
  pub passes_more : (e : FleetEvent) (h : Handoff) → IsAmong f.passes h → IsAmong (fleet_comes f e).1.passes h
  passes_more e h k = go (passes_move e)
    where
      go : PassMove f (fleet_comes f e).1.passes → IsAmong (fleet_comes f e).1.passes h
      go (AsBefore q) = subst (λ (xs : List Handoff). IsAmong xs h) (sym q) k
      go (OneMore o q p) = subst (λ (xs : List Handoff). IsAmong xs h) (sym q) (among_more f.passes (option_to_list o) h k)

  -- what holds of all, and of each that is passed on by an event, holds of all then
  pub passes_all : (P : Handoff → Type 0) (e : FleetEvent) → AllByRecursion P f.passes → ((h : Handoff) → IsPassed f h → P h) → AllByRecursion P (fleet_comes f e).1.passes
  passes_all P e all each = go (passes_move e)
    where
      one : (o : Option Handoff) → ((h : Handoff) → o ≡ Some h → P h) → AllByRecursion P (option_to_list o)
      one None h = tt
      one (Some x) h = (h x refl, tt)

      go : PassMove f (fleet_comes f e).1.passes → AllByRecursion P (fleet_comes f e).1.passes
      go (AsBefore q) = subst (AllByRecursion P) (sym q) all
      go (OneMore o q p) = subst (AllByRecursion P) (sym q) (all_append P f.passes (option_to_list o) all (one o (λ h k. each h (p h k))))
