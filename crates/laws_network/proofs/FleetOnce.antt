-- Orders of the fleet have their effect once, and in the end servers have what is recorded.
use Rattle.std.proofs.Common.{◌≡◌, ℕ, zero, suc, ◌+◌, ◌≤◌, ◌<◌, ◌⊎◌, refl, sym, ap, ◌∙◌, inl, inr, subst, arith, Bool, true, false, Option, Some, None, List, [], ◌∷◌, ◌++◌}
use Rattle.std.specs.Prelude.{◌==◌, ◌&&◌, count_by, drop, if◌then◌else◌, is_none, nat_lt, slice_get, unwrap_or}
use Rattle.std.proofs.lemmas.Bool.{and_parts, eqb-true, ltb-true}
use Rattle.sm_placement.specs.Setup.{Setup, sizes_of}
use Rattle.sm_placement.specs.Sums.{put, put2}
use Rattle.sm_verifier.proofs.OnePlace.{put2_cases}
use Rattle.sm_agent.specs.declared.slot.Slot.{Slot}
use Rattle.sm_agent.specs.declared.order.Verdict.{Verdict}
use Rattle.sm_agent.specs.declared.order.Verdict.TheVariants as verdict
use Rattle.sm_agent.specs.Order.{committed}
use Rattle.std.specs.List.{AllByRecursion}
use Rattle.sm_reservation.specs.declared.stream_id.StreamId.{StreamId}
use Rattle.sm_plan_code.specs.declared.call.ServerCall.{ServerCall}
use Rattle.sm_protocol.specs.State.{State, is_running, opened}
use Rattle.sm_protocol.specs.Happens.{Done, Step, engaged, engages, happens}
use Rattle.sm_protocol.proofs.Courses.{some_same}
use Rattle.sm_agent.specs.declared.base.Reception.{Reception}
use Rattle.sm_agent.specs.declared.base.Reception.TheVariants as reception
use Rattle.sm_agent.specs.Base.{restored}
use Rattle.laws_network.specs.Net.{Deliver, Order, after_delivery, at_place, call_now, delivered, is_awaited, order_for, order_of}
use Rattle.laws_network.specs.Laws.{IsFurther, is_for, led_to}
use Rattle.laws_network.specs.World.{is_answered_by, publication_of}
use Rattle.laws_network.specs.Controller.{Answered, Controller, EPOCH, Ended, JournalEntry, Letter, Made, Notice, Opened, Restore, Restored, Stored, entry_recorded, are_versions_low, goes_on, has_no_plan, is_permitted, is_local, replayed, restore_for}
use Rattle.laws_network.specs.Fleet.{Abandon, Commit, End, Fleet, FleetEvent, FleetOutcome, Forget, HearAsk, HearOwner, HearServer, Judge, Make, Open, Publish, Receive, Recover, Seal, SendOrder, SendPublication, Serve, after_commit, after_notice, after_owner, after_reception, after_verdict, after_work, by_message, controller, fleet_comes, fleet_run, has_lost, held_cells, order_read, slot_for, notice_stamp, verdict_of}
use Rattle.laws_network.specs.FleetLaws.{CommitsWhereUp, AllFleetFit, CommitsOncePerNumber, EachFleet, BeginningsAreHarmless, MapNeverGoesBack, OnlyPresentCommits, ServersAreAtEnds, ServersAreNear, ServersAreRecorded, order_committed, orders_committed}
use Rattle.laws_network.proofs.AtServer.{IsAway, IsCommit, commit_is, turned}
use Rattle.laws_network.proofs.Behind.{present_engages}
use Rattle.laws_network.proofs.Commands.{in_order}
use Rattle.laws_network.proofs.Deliveries.{committed_above, effect_shadow, is_served, shade_of}
use Rattle.laws_network.proofs.Lists.{all_at}
use Rattle.laws_network.proofs.OfFleet.{net_of}
use Rattle.laws_network.proofs.Once.{count_hit, count_miss}
use Rattle.laws_network.proofs.Present.{IsPresentOrPast}
use Rattle.laws_network.proofs.Raised.{real_is_at_ends, real_is_near, serves_where_up}
use Rattle.laws_network.proofs.Reaching.{comes_shadow, fleet_shadow}
use Rattle.laws_network.proofs.Shadow.{IsLetter, IsShadow}
use Rattle.laws_network.proofs.Shown.{IsForward, forward_next, forward_same}
use Rattle.laws_network.proofs.Slots.{put_elim}

-- ---- who commits

-- an event by which an order has its effect
record IsEffect (setup : Setup) (low : ℕ → ℕ → ℕ) (f : Fleet) (k : IsShadow setup low f) (o : Order) (new : Fleet) : Type 0 where
  pub present : order_of (controller f).base (controller f).w o.stream ≡ Some o
  pub above : low o.call.shard o.call.server < o.number
  pub up : (controller f).w.place.down o.call.server ≡ false
  pub next : IsShadow setup (put2 low o.call.shard o.call.server o.number) new

-- one that commits an order, or none
abbrev CommitsOr : (setup : Setup) (low : ℕ → ℕ → ℕ) (f : Fleet) (k : IsShadow setup low f) → FleetOutcome × Fleet → Type 0
CommitsOr setup low f k r = (order_committed r.0 ≡ []) ⊎ ((o : Order) × (order_committed r.0 ≡ o ∷ []) × IsEffect setup low f k o r.1)

-- an event that sends nothing to a server commits nothing
quiet : {A : Type 0} (f : Fleet) (g : A → FleetOutcome × Fleet) (o : Option A) → ((x : A) → order_committed (g x).0 ≡ []) → order_committed (by_message f g o).0 ≡ []
quiet f g None h = refl
quiet f g (Some x) h = h x

module _ (setup : Setup) (low : ℕ → ℕ → ℕ) (f : Fleet) (k : IsShadow setup low f) where
  effect : (l : Letter) (at : ℕ) (slot : Slot) → IsLetter (sizes_of setup) k.shade l → IsCommit (f.servers l.order.call.server).base (slot_for f l) (order_read l) at slot → IsEffect setup low f k l.order (after_work f l (Some slot)).1
  effect l at slot i c =
      let above = committed_above setup low f k l at slot c in record {
        present = elim (all_at_among (in_order setup low f k).sent i.among.0 i.among.1) [
          | inl p ↦ p
          | inr p ↦ absurd (omega arith)
        ];
        above = (let p = k.above l.order.call.shard l.order.call.server in omega arith);
        up = serves_where_up setup (shade_of f k).net (net_of f k) (Deliver i.among.0) l.order (
            ap (λ x. (at_place (shade_of f k).net delivered x).0) i.among.1
            ∙ ap (λ x. (after_delivery (shade_of f k).net l.order x).0) (is_served setup (shade_of f k) i.among.0 l.order slot.cell k.reached i.among.1 above (led c)));
        next = effect_shadow setup low f k l at slot i c above;
      }
    where
      led : IsCommit (f.servers l.order.call.server).base (slot_for f l) (order_read l) at slot → led_to l.order.call.call (held_cells f l.order.call.shard l.order.call.server) ≡ Some slot.cell
      led c = ap (λ b. led_to l.order.call.call (if b then f.had l.order.call.shard l.order.call.server else (slot_for f l).cell)) c.heard.known ∙ c.led

      all_at_among : AllByRecursion (IsPresentOrPast (order_of (controller f).base (controller f).w) k.shade.last) k.shade.sent → (j : ℕ) → slice_get k.shade.sent j ≡ Some l.order → IsPresentOrPast (order_of (controller f).base (controller f).w) k.shade.last l.order
      all_at_among all j e = all_at (IsPresentOrPast (order_of (controller f).base (controller f).w) k.shade.last) k.shade.sent j l.order all e

  commits_or : (e : FleetEvent) → CommitsOr setup low f k (fleet_comes f e)
  commits_or (Make x) = inl refl
  commits_or (End v permit) = inl refl
  commits_or (Open room) = inl refl
  commits_or (HearServer place) = inl (quiet f _ (slice_get f.answers place) (λ x. refl))
  commits_or (HearOwner place) = inl (quiet f _ (slice_get f.stored place) (λ x. refl))
  commits_or (HearAsk place) = inl (quiet f _ (slice_get f.asks place) (λ x. refl))
  commits_or (SendOrder lost id) = inl refl
  commits_or (SendPublication lost id) = inl refl
  commits_or (Judge place) = inl (quiet f _ (slice_get f.sent place) (λ x. refl))
  commits_or (Commit place at) = go (slice_get f.sent place) refl
    where
      by_work : (l : Letter) → IsLetter (sizes_of setup) k.shade l → (o : Option Slot) → committed (f.servers l.order.call.server).base (slot_for f l) (order_read l) at ≡ o → CommitsOr setup low f k (after_work f l o)
      by_work l i None e = inl refl
      by_work l i (Some slot) e = inr (l.order, refl, effect l at slot i (commit_is (f.servers l.order.call.server).base (slot_for f l) (order_read l) at slot e))

      go : (o : Option Letter) → slice_get f.sent place ≡ o → CommitsOr setup low f k (by_message f (after_commit f at) o)
      go None e = inl refl
      go (Some l) e = by_work l (all_at (IsLetter (sizes_of setup) k.shade) f.sent place l k.sent e) (committed (f.servers l.order.call.server).base (slot_for f l) (order_read l) at) refl
  commits_or (Abandon s v) = inl refl
  commits_or (Publish place) = inl (quiet f _ (slice_get f.published place) (λ x. refl))
  commits_or (Serve s v applied) = inl refl
  commits_or (Receive place applied) = inl (quiet f _ (slice_get f.passes place) (λ x. refl))
  commits_or (Seal place) = inl (quiet f _ (slice_get f.passes place) (λ x. refl))
  commits_or (Forget v) = inl refl
  commits_or (Recover place v) = inl (quiet f _ (slice_get (controller f).restores place) (λ x. refl))

-- only present orders have an effect
pub only_present_commits : EachFleet OnlyPresentCommits
only_present_commits setup f r e o q = elim (commits_or setup (λ s v. 0) f (fleet_shadow setup f r) e) [
  | inl n ↦ absurd (let z : o ∷ [] ≡ [] = ap order_committed (sym q) ∙ n in cc)
  | inr c ↦
      let z : c.0 ∷ [] ≡ o ∷ [] = sym c.1 ∙ ap order_committed q in
      let same : c.0 ≡ o = cc in
      subst (λ (p : Order). order_of (controller f).base (controller f).w p.stream ≡ Some p) same c.2.present
]

-- no server that is recorded as down commits an order
pub commits_where_up : EachFleet CommitsWhereUp
commits_where_up setup f r e o q = elim (commits_or setup (λ s v. 0) f (fleet_shadow setup f r) e) [
  | inl n ↦ absurd (let z : o ∷ [] ≡ [] = ap order_committed (sym q) ∙ n in cc)
  | inr c ↦
      let z : c.0 ∷ [] ≡ o ∷ [] = sym c.1 ∙ ap order_committed q in
      let same : c.0 ≡ o = cc in
      subst (λ (p : Order). (controller f).w.place.down p.call.server ≡ false) same c.2.up
]

-- ---- once

-- an order for this cell, under this number, is above the numbers that the cell has seen
for_same : (s v number : ℕ) (o : Order) → is_for s v number o ≡ true → (o.call.shard ≡ s) × ((o.call.server ≡ v) × (o.number ≡ number))
for_same s v number o e =
    let p = and_parts (o.call.shard == s) _ e in
    let q = and_parts (o.call.server == v) (o.number == number) p.1 in
    (eqb-true o.call.shard s p.0, (eqb-true o.call.server v q.0, eqb-true o.number number q.1))

-- what is counted of such orders along a list of events
abbrev IsCounted : (ℕ → ℕ → ℕ) → ℕ → ℕ → ℕ → List Order → Type 0
IsCounted low s v number os = (count_by (is_for s v number) os ≤ 1) × (number ≤ low s v → count_by (is_for s v number) os ≡ 0)

-- one order more
count_one : (setup : Setup) (s v number : ℕ) (low : ℕ → ℕ → ℕ) (f : Fleet) (k : IsShadow setup low f) (o : Order) (new : Fleet) (os : List Order) → IsEffect setup low f k o new → IsCounted low s v number os →
    IsCounted (put2 low o.call.shard o.call.server o.number) s v number os → (b : Bool) → is_for s v number o ≡ b → IsCounted low s v number (o ∷ os)
count_one setup s v number low f k o new os x a c true t =
    let m = count_hit (is_for s v number) o os t in
    let p = for_same s v number o t in
    let here : put2 low o.call.shard o.call.server o.number s v ≡ o.number = elim (put2_cases low o.call.shard o.call.server o.number s v) [ inl h ↦ h.2 | inr h ↦ absurd (h.0 (sym p.0, sym p.1.0)) ] in
    let n = p.1.1 in
    let z = c.1 (omega arith) in
    let above : low s v < o.number = subst (λ q. low q v < o.number) p.0 (subst (λ q. low o.call.shard q < o.number) p.1.0 x.above) in
    ((omega arith), λ l. absurd (omega arith))
count_one setup s v number low f k o new os x a c false t =
    let m = count_miss (is_for s v number) o os t in
    ((let b = a.0 in omega arith), λ l. (let b = a.1 l in omega arith))

once : (setup : Setup) (s v number : ℕ) (es : List FleetEvent) (low : ℕ → ℕ → ℕ) (f : Fleet) → IsShadow setup low f → AllFleetFit setup f es → IsCounted low s v number (orders_committed es f)
once setup s v number [] low f k fits = ((omega arith), λ l. refl)
once setup s v number (e ∷ es) low f k fits =
    let a = once setup s v number es low (fleet_comes f e).1 (comes_shadow setup low f k e fits.0) fits.1 in
    elim (commits_or setup low f k e) [
      | inl n ↦ subst (λ l. IsCounted low s v number (l ++ orders_committed es (fleet_comes f e).1)) (sym n) a
      | inr c ↦ subst (λ l. IsCounted low s v number (l ++ orders_committed es (fleet_comes f e).1)) (sym c.1)
          (count_one setup s v number low f k c.0 (fleet_comes f e).1 (orders_committed es (fleet_comes f e).1) c.2 a
          (once setup s v number es (put2 low c.0.call.shard c.0.call.server c.0.number) (fleet_comes f e).1 c.2.next fits.1) (is_for s v number c.0) refl)
    ]

-- no number has its effect twice on a cell
pub commits_once_per_number : EachFleet CommitsOncePerNumber
commits_once_per_number setup f r es s v number fits = (once setup s v number es (λ s v. 0) f (fleet_shadow setup f r) fits).0

-- ---- what servers have

known_cell : (f : Fleet) (s v : ℕ) → has_lost f v ≡ false → held_cells f s v ≡ ((f.servers v).slots s).cell
known_cell f s v h = ap (λ b. if b then f.had s v else ((f.servers v).slots s).cell) h

-- the order of a stream names it
order_stream : (base : ℕ) (w : State) (id : StreamId) (o : Order) → order_of base w id ≡ Some o → o.stream ≡ id
order_stream base w id o e = go (is_running w id) (call_now w id) e
  where
    go : (b : Bool) (c : Option ServerCall) → (if b then order_for base w id c else None) ≡ Some o → o.stream ≡ id
    go false c q = absurd (cc)
    go true None q = absurd (cc)
    go true (Some x) q = ap (λ (z : Order). z.stream) (sym (some_same _ o q))

-- each cell is as recorded, or one call further
pub servers_are_near : EachFleet ServersAreNear
servers_are_near setup f r s v known =
    let k = fleet_shadow setup f r in
    elim (real_is_near setup (shade_of f k).net (net_of f k) s v) [
      | inl e ↦ inl (sym (known_cell f s v known) ∙ e)
      | inr n ↦ inr (record {
        order = n.order;
        present = (let e = order_stream (controller f).base (controller f).w n.stream n.order n.current in subst (λ id. order_of (controller f).base (controller f).w id ≡ Some n.order) (sym e) n.current);
        shard = n.shard;
        server = n.server;
        last = last_is k n;
        led = n.led ∙ ap Some (known_cell f s v known);
      })
    ]
  where
    last_is : (k : IsShadow setup (λ s v. 0) f) (n : IsFurther (shade_of f k).net s v) → ((f.servers v).slots s).last ≡ n.order.number
    last_is k n =
        let o = k.servers v known in
        let p = present_engages (controller f).base (controller f).w n.stream n.order n.current in
        let b = o.behind n.stream p.0 (subst (λ u. engages (controller f).w u n.stream ≡ true) n.server p.1) in
        let m = p.2 in
        let l = n.last in
        elim (o.lasts s) [
          | inl a ↦ sym a.1 ∙ n.last
          | inr a ↦ absurd (let q = a.1 in omega arith)
        ]

-- if no present order is the last one that its server has served, servers have what is recorded
pub servers_are_recorded : EachFleet ServersAreRecorded
servers_are_recorded setup f r none s v known = elim (servers_are_near setup f r s v known) [
  | inl e ↦ e
  | inr a ↦ absurd (none a.order a.present (ap (λ i. ((f.servers i).slots a.order.call.shard).last) a.server ∙ (ap (λ i. ((f.servers v).slots i).last) a.shard ∙ a.last)))
]

-- once all plans are done, servers have the end of the plans
pub servers_are_at_ends : EachFleet ServersAreAtEnds
servers_are_at_ends setup f r done s v known =
    let k = fleet_shadow setup f r in
    sym (known_cell f s v known) ∙ real_is_at_ends setup (shade_of f k).net (net_of f k) done s v

-- ---- the map

-- what a publication does to the map
owner_forward : (f : Fleet) (n : Notice) (s : ℕ) → IsForward (f.shown s) ((after_notice f n).1.shown s)
owner_forward f n s = elim (turned f.owner (notice_stamp n)) [
  | inl t ↦ subst (λ o. IsForward (f.shown s) ((after_owner f n.publication (unwrap_or o rest)).shown s)) (sym t.1) (away t.0 t.2)
  | inr t ↦ subst (λ o. IsForward (f.shown s) ((after_owner f n.publication (unwrap_or o rest)).shown s)) (sym t.0) (by_version (nat_lt (f.shown n.publication.shard).version n.publication.entry.version) refl)
]
  where
    rest : Verdict
    rest = if nat_lt (f.shown n.publication.shard).version n.publication.entry.version then verdict.Begin else verdict.Again

    away : (v : Verdict) → IsAway v → IsForward (f.shown s) ((after_owner f n.publication v).shown s)
    away v (inl e) = subst (λ y. IsForward (f.shown s) ((after_owner f n.publication y).shown s)) (sym e) (forward_same (f.shown s))
    away v (inr (inl e)) = subst (λ y. IsForward (f.shown s) ((after_owner f n.publication y).shown s)) (sym e) (forward_same (f.shown s))
    away v (inr (inr e)) = subst (λ y. IsForward (f.shown s) ((after_owner f n.publication y).shown s)) (sym e) (forward_same (f.shown s))

    by_version : (b : Bool) → nat_lt (f.shown n.publication.shard).version n.publication.entry.version ≡ b → IsForward (f.shown s) ((after_owner f n.publication (if b then verdict.Begin else verdict.Again)).shown s)
    by_version false e = forward_same (f.shown s)
    by_version true e = put_elim (IsForward (f.shown s)) f.shown n.publication.shard n.publication.entry s
        (λ q. let l = ltb-true (f.shown n.publication.shard).version n.publication.entry.version e in
        let m : (f.shown s).version ≡ (f.shown n.publication.shard).version = ap (λ i. (f.shown i).version) q in
        record { version = omega arith; same = λ h. absurd (omega arith) })
        (λ q. forward_same (f.shown s))

-- what a message does to the map
message_forward : {A : Type 0} (f : Fleet) (s : ℕ) (g : A → FleetOutcome × Fleet) (o : Option A) → ((x : A) → IsForward (f.shown s) ((g x).1.shown s)) → IsForward (f.shown s) ((by_message f g o).1.shown s)
message_forward f s g None h = forward_same (f.shown s)
message_forward f s g (Some x) h = h x

fleet_forward : (f : Fleet) (e : FleetEvent) (s : ℕ) → IsForward (f.shown s) ((fleet_comes f e).1.shown s)
fleet_forward f (Make x) s = forward_same (f.shown s)
fleet_forward f (End v permit) s = forward_same (f.shown s)
fleet_forward f (Open room) s = forward_same (f.shown s)
fleet_forward f (HearServer place) s = message_forward f s _ (slice_get f.answers place) (λ x. forward_same (f.shown s))
fleet_forward f (HearOwner place) s = message_forward f s _ (slice_get f.stored place) (λ x. forward_same (f.shown s))
fleet_forward f (HearAsk place) s = message_forward f s _ (slice_get f.asks place) (λ x. forward_same (f.shown s))
fleet_forward f (SendOrder lost id) s = forward_same (f.shown s)
fleet_forward f (SendPublication lost id) s = forward_same (f.shown s)
fleet_forward f (Judge place) s = message_forward f s _ (slice_get f.sent place) (λ l. by_verdict l (verdict_of f l))
  where
    by_verdict : (l : Letter) (x : Verdict) → IsForward (f.shown s) ((after_verdict f l x).shown s)
    by_verdict l verdict.Begin = forward_same (f.shown s)
    by_verdict l verdict.Working = forward_same (f.shown s)
    by_verdict l verdict.Again = forward_same (f.shown s)
    by_verdict l verdict.Old = forward_same (f.shown s)
    by_verdict l verdict.Foreign = forward_same (f.shown s)
    by_verdict l verdict.NotReady = forward_same (f.shown s)
    by_verdict l (verdict.Refused why) = forward_same (f.shown s)
fleet_forward f (Commit place at) s = message_forward f s _ (slice_get f.sent place) (λ l. by_work l (committed (f.servers l.order.call.server).base (slot_for f l) (order_read l) at))
  where
    by_work : (l : Letter) (o : Option Slot) → IsForward (f.shown s) ((after_work f l o).1.shown s)
    by_work l None = forward_same (f.shown s)
    by_work l (Some x) = forward_same (f.shown s)
fleet_forward f (Abandon r v) s = forward_same (f.shown s)
fleet_forward f (Publish place) s = message_forward f s _ (slice_get f.published place) (λ n. owner_forward f n s)
fleet_forward f (Serve r v applied) s = forward_same (f.shown s)
fleet_forward f (Receive place applied) s = message_forward f s _ (slice_get f.passes place) (λ h. forward_same (f.shown s))
fleet_forward f (Seal place) s = message_forward f s _ (slice_get f.passes place) (λ h. forward_same (f.shown s))
fleet_forward f (Forget v) s = forward_same (f.shown s)
fleet_forward f (Recover place v) s = message_forward f s _ (slice_get (controller f).restores place) (λ x. by_reception x (restored (f.servers v).base x.restoration))
  where
    by_reception : (x : Restore) (y : Reception) → IsForward (f.shown s) ((after_reception f v x y).shown s)
    by_reception x (reception.Taken b) = forward_same (f.shown s)
    by_reception x reception.Again = forward_same (f.shown s)
    by_reception x reception.Ignored = forward_same (f.shown s)

run_fleet_forward : (f : Fleet) (es : List FleetEvent) (s : ℕ) → IsForward (f.shown s) ((fleet_run es f).shown s)
run_fleet_forward f [] s = forward_same (f.shown s)
run_fleet_forward f (e ∷ es) s = forward_next (f.shown s) ((fleet_comes f e).1.shown s) ((fleet_run es (fleet_comes f e).1).shown s) (fleet_forward f e s) (run_fleet_forward (fleet_comes f e).1 es s)

-- what the map shows never goes back
pub map_never_goes_back : MapNeverGoesBack
map_never_goes_back f es s = let a = run_fleet_forward f es s in (a.version, a.same)

-- ---- beginnings of the journal

-- an entry takes no restore away
entry_keeps : (c : Controller) (e : JournalEntry) (k : ℕ) (r : Restore) → slice_get c.restores k ≡ Some r → slice_get (entry_recorded c e).restores k ≡ Some r
entry_keeps c (Made h) k r e = go (is_local c.w h)
  where
    go : (b : Bool) → slice_get (if b then goes_on c h else c).restores k ≡ Some r
    go true = e
    go false = e
entry_keeps c (Answered o) k r e = go (is_awaited c.base c.w o)
  where
    go : (b : Bool) → slice_get (if b then goes_on c (Step o.stream) else c).restores k ≡ Some r
    go true = e
    go false = e
entry_keeps c (Stored p) k r e = go (is_answered_by p (publication_of c.base c.w p.stream))
  where
    go : (b : Bool) → slice_get (if b then goes_on c (Step p.stream) else c).restores k ≡ Some r
    go true = e
    go false = e
entry_keeps c (Ended v permit) k r e = go (is_permitted (c.permits v) permit)
  where
    go : (b : Bool) → slice_get (if b then record c { w = (happens c.w (Done v)).1; permits = put c.permits v None } else c).restores k ≡ Some r
    go true = e
    go false = e
entry_keeps c (Restored v nonce) k r e = go (is_none (engaged c.w v))
  where
    more : (xs : List Restore) (k : ℕ) → slice_get xs k ≡ Some r → slice_get (xs ++ restore_for c v nonce ∷ []) k ≡ Some r
    more [] k e = absurd (cc)
    more (x ∷ xs) zero e = e
    more (x ∷ xs) (suc k) e = more xs k e

    go : (b : Bool) → slice_get (if b then record c { restores = c.restores ++ restore_for c v nonce ∷ [] } else c).restores k ≡ Some r
    go true = more c.restores k e
    go false = e
entry_keeps c (Opened room) k r e = go (has_no_plan c.w && are_versions_low c.w)
  where
    go : (b : Bool) → slice_get (if b then record c { w = opened c.w.sizes c.w.place room; base = c.base + EPOCH } else c).restores k ≡ Some r
    go true = e
    go false = e

-- nor do all entries that a beginning lacks
beginning_keeps : (c : Controller) (es : List JournalEntry) (lost k : ℕ) (r : Restore) → slice_get (replayed c (drop lost es)).restores k ≡ Some r → slice_get (replayed c es).restores k ≡ Some r
beginning_keeps c es zero k r e = e
beginning_keeps c [] (suc lost) k r e = e
beginning_keeps c (x ∷ es) (suc lost) k r e = entry_keeps (replayed c es) x k r (beginning_keeps c es lost k r e)

-- what a controller with any beginning of the journal sends does no harm
pub beginnings_are_harmless : EachFleet BeginningsAreHarmless
beginnings_are_harmless setup f r = record {
  orders = λ lost id l e.
      let k = fleet_shadow setup f r in
      let i = k.letters lost id l e in
      elim (all_at (IsPresentOrPast (order_of (controller f).base (controller f).w) k.shade.last) k.shade.sent i.among.0 l.order (in_order setup (λ s v. 0) f k).sent i.among.1) [
        | inl p ↦ inl p
        | inr p ↦ inr (λ es fits. (once setup l.order.call.shard l.order.call.server l.order.number es k.shade.last f (from_last setup f k) fits).1 p)
      ];
  restores = λ lost j x e. beginning_keeps f.start f.journal lost j x e;
}
  where
    from_last : (setup : Setup) (f : Fleet) (k : IsShadow setup (λ s v. 0) f) → IsShadow setup k.shade.last f
    from_last setup f k = record {
      shade = k.shade;
      above = λ s v. omega arith;
      reached = k.reached;
      sizes = k.sizes;
      start = k.start;
      fence = k.fence;
      owner = k.owner;
      sent = k.sent;
      answers = k.answers;
      published = k.published;
      stored = k.stored;
      passes = k.passes;
      letters = k.letters;
      notices = k.notices;
      servers = k.servers;
      asked = k.asked;
      restores = k.restores;
    }
