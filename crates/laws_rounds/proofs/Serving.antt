-- An order that was sent can come, and a server that begins its work can end it: so whatever it owes can come.
use Rattle.std.proofs.Common.{◌≡◌, ℕ, ◌<◌, ◌⊎◌, refl, sym, ap, ◌∙◌, inl, inr, subst, arith, true, false, Option, Some, None, List, [], ◌∷◌, ◌++◌, length}
use Rattle.std.specs.Prelude.{◌-◌, IsSome, option_map, slice_get}
use Rattle.std.specs.List.{AllByRecursion}
use Rattle.std.specs.Option.{option_to_list}
use Rattle.std.proofs.lemmas.Bool.{eq-eqb, le-leb, lt-ltb}
use Rattle.sm_server.specs.declared.call.Cell.{Cell}
use Rattle.sm_server.specs.declared.call.Cell.TheVariants as cell
use Rattle.sm_server.specs.declared.call.Call.TheVariants as call
use Rattle.sm_server.specs.declared.call.Role.TheVariants as role
use Rattle.sm_server.specs.Call.{led_to}
use Rattle.sm_placement.specs.Setup.{Setup, sizes_of}
use Rattle.sm_placement.specs.Sums.{put}
use Rattle.sm_placement.proofs.Calls.{served_ok}
use Rattle.sm_reservation.specs.declared.stream_id.StreamId.{StreamId}
use Rattle.sm_protocol.proofs.Courses.{some_same}
use Rattle.sm_agent.specs.declared.order.Verdict.{Verdict}
use Rattle.sm_agent.specs.declared.order.Verdict.TheVariants as verdict
use Rattle.sm_agent.specs.declared.request.Request.TheVariants.{Direct}
use Rattle.sm_agent.specs.declared.request.Routing.TheVariants as routing
use Rattle.sm_agent.specs.declared.slot.Slot.{Slot}
use Rattle.sm_agent.specs.Base.{lacks_slots}
use Rattle.sm_agent.specs.Order.{begun_slot, committed, is_at_work, is_done, sealed, turned_away}
use Rattle.laws_network.specs.Net.{Order, order_of}
use Rattle.laws_network.specs.Controller.{Controller, Letter, Notice, letter, letter_of}
use Rattle.laws_network.specs.Fleet.{Commit, Committed, Fleet, FleetEvent, Handoff, HearOwner, HearServer, Judge, Publish, Seal, Serve, Server, after_commit, after_letter, after_notice, after_owner, after_seal, after_verdict, after_work, by_message, controller, fleet_comes, handoff_by, has_lost, load_used, order_read, owner_verdict, request_routing, slot_for, verdict_of, with_slot}
use Rattle.laws_network.specs.FleetLaws.{AreNamedKnown, CanBeDone, IsFleetReached, TellsCut}
use Rattle.laws_network.proofs.AtServer.{IsAway, IsBySlot, IsHeard, Lower, Refuses, Same, Serves, heard, judged_is}
use Rattle.laws_network.proofs.Commands.{in_order}
use Rattle.laws_network.proofs.Forwarders.{can_be_done, done_or}
use Rattle.laws_network.proofs.Lists.{all_at}
use Rattle.laws_network.proofs.Onward.{slice_get_push}
use Rattle.laws_network.proofs.Present.{IsPresentOrPast}
use Rattle.laws_network.proofs.Reaching.{fleet_shadow}
use Rattle.laws_network.proofs.ReadyOwners.{owners_ready}
use Rattle.laws_network.proofs.Shadow.{IsLetter, IsShadow}
use Rattle.laws_network.proofs.Slots.{put_elim}
use Rattle.laws_rounds.specs.Round.{ConfirmationComes, OrderComes, OwnerKeeps, PublicationComes, ServerKeeps, WorkEnds}
use Rattle.laws_rounds.proofs.Gentle.{IsGentle, named_after, after_run}
use Rattle.laws_rounds.proofs.Walks.{reached_on}

-- ---- a slot that changes

slot_put : (f : Fleet) (s v : ℕ) (slot : Slot) → ((with_slot f s v slot).servers v).slots s ≡ slot
slot_put f s v slot = put_elim (λ (x : Server). x.slots s ≡ slot) f.servers v (record (f.servers v) { slots = put (f.servers v).slots s slot }) v
    (λ e. put_elim (λ (x : Slot). x ≡ slot) (f.servers v).slots s slot s (λ d. refl) (λ d. absurd (d refl))) (λ e. absurd (e refl))

base_put : (f : Fleet) (s v : ℕ) (slot : Slot) → ((with_slot f s v slot).servers v).base ≡ (f.servers v).base
base_put f s v slot = put_elim (λ (x : Server). x.base ≡ (f.servers v).base) f.servers v (record (f.servers v) { slots = put (f.servers v).slots s slot }) v (λ e. refl) (λ e. refl)

some_is : {A : Type 0} (o : Option A) → IsSome o → (x : A) × (o ≡ Some x)
some_is None h = absurd (cc)
some_is (Some x) h = (x, refl)

-- ---- work that has begun

-- The work of the order at this place has begun, and leads somewhere.
pub record IsUnderWay (f : Fleet) (l : Letter) (k : ℕ) : Type 0 where
  pub sent : slice_get f.sent k ≡ Some l
  pub hears : turned_away (f.servers l.order.call.server).base (order_read l).stamp ≡ None
  pub above : (slot_for f l).last < l.order.number
  pub working : is_at_work (slot_for f l).at_work l.order.number ≡ true
  pub next : Cell
  pub led : led_to l.order.call.call (slot_for f l).cell ≡ Some next

-- once it is done it is committed
commits : (f : Fleet) (l : Letter) (k at : ℕ) → IsUnderWay f l k → is_done l.order.call.call (slot_for f l).cell (slot_for f l).cut at ≡ true → IsSome (committed (f.servers l.order.call.server).base (slot_for f l) (order_read l) at)
commits f l k at r done =
    let away = r.hears in
    let above = lt-ltb (slot_for f l).last l.order.number r.above in
    let work = r.working in
    let led = r.led in
    rw (away, above, work, done, led) refl

-- and answered
commit_ends : (f : Fleet) (l : Letter) (k at : ℕ) → IsUnderWay f l k → is_done l.order.call.call (slot_for f l).cell (slot_for f l).cut at ≡ true → WorkEnds l.order (Commit k at ∷ HearServer (length f.answers) ∷ []) f
commit_ends f l k at r done = inl (outcome, inl (length f.answers, refl, answered))
  where
    slot : (x : Slot) × (committed (f.servers l.order.call.server).base (slot_for f l) (order_read l) at ≡ Some x)
    slot = some_is (committed (f.servers l.order.call.server).base (slot_for f l) (order_read l) at) (commits f l k at r done)

    outcome : (fleet_comes f (Commit k at)).0 ≡ Committed l.order
    outcome = ap (λ o. (by_message f (after_commit f at) o).0) r.sent ∙ ap (λ o. (after_work f l o).0) slot.1

    answered : slice_get (fleet_comes f (Commit k at)).1.answers (length f.answers) ≡ Some l.order
    answered = ap (λ o. slice_get (by_message f (after_commit f at) o).1.answers (length f.answers)) r.sent
        ∙ (ap (λ o. slice_get (after_work f l o).1.answers (length f.answers)) slot.1 ∙ slice_get_push f.answers l.order)

-- what ends a work
abbrev pub Ending : Fleet → Letter → Type 0
Ending f l = (es : List FleetEvent) × AllByRecursion IsGentle es × WorkEnds l.order es f

module _ (f : Fleet) (l : Letter) (k : ℕ) (r : IsUnderWay f l k) (is_add : l.order.call.call ≡ call.Add role.Primary) (t : TellsCut f l) (taken : (f.servers t.owner).base.fenced ≡ false) where
  abbrev s : ℕ
  s = l.order.call.shard

  abbrev v : ℕ
  v = l.order.call.server

  abbrev handoff : Handoff
  handoff = record { shard = l.order.call.shard; target = l.order.call.server; pass = record { from = t.owner; handover = t.number; cut = t.cut } }

  abbrev told : Fleet
  told = record f { passes = f.passes ++ record { shard = l.order.call.shard; target = l.order.call.server; pass = record { from = t.owner; handover = t.number; cut = t.cut } } ∷ [] }

  passes : request_routing f s t.owner 0 Direct ≡ routing.PassOn v t.number t.cut
  passes = let known = t.known in let forwards = t.forwards in let cut = t.told in rw (known, forwards, taken, cut) refl

  is_told : (fleet_comes f (Serve s t.owner 0)).1 ≡ told
  is_told = ap (λ x. let z : Fleet = record f { passes = f.passes ++ option_to_list (handoff_by s t.owner x) } in z) passes

  abbrev filled : Fleet
  filled = with_slot told l.order.call.shard l.order.call.server (sealed (slot_for f l) t.number t.cut)

  is_filled : (fleet_comes told (Seal (length f.passes))).1 ≡ filled
  is_filled = ap (λ o. (by_message told (after_seal told) o).1) (slice_get_push f.passes handoff)

  is_sealed : sealed (slot_for f l) t.number t.cut ≡ record (slot_for f l) { cut = Some t.cut }
  is_sealed = let prepared = t.prepared in rw (prepared, eq-eqb t.number t.number refl) refl

  slot_is : slot_for filled l ≡ record (slot_for f l) { cut = Some t.cut }
  slot_is = slot_put told l.order.call.shard l.order.call.server (sealed (slot_for f l) t.number t.cut) ∙ is_sealed

  under_way : IsUnderWay filled l k
  under_way = record {
    sent = r.sent;
    hears = ap (λ b. turned_away b (order_read l).stamp) (base_put told l.order.call.shard l.order.call.server (sealed (slot_for f l) t.number t.cut)) ∙ r.hears;
    above = subst (λ (x : Slot). x.last < l.order.number) (sym slot_is) r.above;
    working = ap (λ (x : Slot). is_at_work x.at_work l.order.number) slot_is ∙ r.working;
    next = r.next;
    led = ap (λ (x : Slot). led_to l.order.call.call x.cell) slot_is ∙ r.led;
  }

  done : is_done l.order.call.call (slot_for filled l).cell (slot_for filled l).cut t.cut ≡ true
  done =
      ap (λ (x : Slot). is_done l.order.call.call x.cell x.cut t.cut) slot_is
      ∙ (ap (λ x. is_done x (slot_for f l).cell (Some t.cut) t.cut) is_add ∙ (ap (λ x. is_done (call.Add role.Primary) x (Some t.cut) t.cut) t.prepared ∙ le-leb t.cut t.cut (omega arith)))

  -- the old owner tells the cut, and the new one takes over
  cut_ends : Ending f l
  cut_ends = (
    Serve s t.owner 0 ∷ Seal (length f.passes) ∷ Commit k t.cut ∷ HearServer (length f.answers) ∷ [],
    (tt, (tt, (tt, (tt, tt)))),
    inr (subst (λ z. WorkEnds l.order (Seal (length f.passes) ∷ Commit k t.cut ∷ HearServer (length f.answers) ∷ []) z) (sym is_told)
        (inr (subst (λ z. WorkEnds l.order (Commit k t.cut ∷ HearServer (length f.answers) ∷ []) z) (sym is_filled) (commit_ends filled l k t.cut under_way done)))),
  )

-- a work that has begun can end
work_ends : (setup : Setup) (f : Fleet) → IsFleetReached setup f → AreNamedKnown f → (l : Letter) → letter_of (controller f) l.order.stream ≡ Some l → has_lost f l.order.call.server ≡ false → (k : ℕ) → IsUnderWay f l k → Ending f l
work_ends setup f reached named l present known k r =
    go (done_or l.order.call.call (slot_for f l).cell) (can_be_done setup (λ s v. 0) f shadow l present known (owners_ready setup f reached named) r.above)
  where
    shadow : IsShadow setup (λ s v. 0) f
    shadow = fleet_shadow setup f reached

    at_once : (at : ℕ) → is_done l.order.call.call (slot_for f l).cell (slot_for f l).cut at ≡ true → Ending f l
    at_once at done = (Commit k at ∷ HearServer (length f.answers) ∷ [], (tt, (tt, tt)), commit_ends f l k at r done)

    go : ((a : ℕ) × (n : ℕ) × (l.order.call.call ≡ call.Add role.Primary) × ((slot_for f l).cell ≡ cell.Prepared a n)) ⊎ ((cut : Option ℕ) (at : ℕ) → is_done l.order.call.call (slot_for f l).cell cut at ≡ true) → CanBeDone f l → Ending f l
    go (inr done) c = at_once 0 (done (slot_for f l).cut 0)
    go (inl a) (inl c) = at_once c.0 c.1
    go (inl a) (inr t) = cut_ends f l k r a.2 t ((shadow.servers t.owner t.known).taken)

-- ---- an order that comes

-- an order comes by these events, and so does all that its server owes
abbrev pub Serving : Fleet → Letter → Type 0
Serving f l = (es : List FleetEvent) × AllByRecursion IsGentle es × OrderComes l es f

module _ (setup : Setup) (first : Controller) (id : StreamId) (l : Letter) (sizes : first.w.sizes ≡ sizes_of setup) (present : letter_of first id ≡ Some l)
    (f : Fleet) (reached : IsFleetReached setup f) (named : AreNamedKnown f) (journal : (controller f).journal ≡ first.journal) (fence : (controller f).fence ≡ first.fence) (k : ℕ) (sent : slice_get f.sent k ≡ Some l) where
  abbrev next : Fleet
  next = (fleet_comes f (Judge k)).1

  next_is : (x : Verdict) → verdict_of f l ≡ x → (fleet_comes f (Judge k)).1 ≡ after_verdict f l x
  next_is x q = ap (λ o. (by_message f (after_letter f) o).1) sent ∙ ap (after_verdict f l) q

  shadow : IsShadow setup (λ s v. 0) f
  shadow = fleet_shadow setup f reached

  -- a letter is what the controller of the beginning sends
  own : l ≡ letter first l.order
  own = go (order_of first.base first.w id) present
    where
      go : (o : Option Order) → option_map (letter first) o ≡ Some l → l ≡ letter first l.order
      go None q = absurd (cc)
      go (Some o) q = subst (λ (m : Letter). m ≡ letter first m.order) (some_same (letter first o) l q) refl

  same_sizes : (controller f).w.sizes ≡ first.w.sizes
  same_sizes = shadow.sizes ∙ sym sizes

  -- and what that controller sends now, too
  letters_same : letter (controller f) l.order ≡ letter first l.order
  letters_same = λ i. record {
    order = l.order;
    journal = journal i;
    fence = fence i;
    load = (same_sizes i).load l.order.call.shard;
    room = (same_sizes i).room l.order.call.server;
  }

  letter_same : letter (controller f) l.order ≡ l
  letter_same = letters_same ∙ sym own

  -- where its work may begin it is present
  present_now : IsHeard (f.servers l.order.call.server).base (order_read l).stamp → (slot_for f l).last < l.order.number → letter_of (controller f) l.order.stream ≡ Some l
  present_now h above = go (all_at (IsPresentOrPast (order_of (controller f).base (controller f).w) shadow.shade.last) shadow.shade.sent among.0 l.order (in_order setup (λ s v. 0) f shadow).sent among.1)
    where
      among : (j : ℕ) × (slice_get shadow.shade.sent j ≡ Some l.order)
      among = (all_at (IsLetter (sizes_of setup) shadow.shade) f.sent k l shadow.sent sent).among

      go : IsPresentOrPast (order_of (controller f).base (controller f).w) shadow.shade.last l.order → letter_of (controller f) l.order.stream ≡ Some l
      go (inl e) = ap (option_map (letter (controller f))) e ∙ ap (λ (m : Letter). let z : Option Letter = Some m in z) letter_same
      go (inr past) = absurd (elim ((shadow.servers l.order.call.server h.known).lasts l.order.call.shard) [
        | inl a ↦ (let q = a.1 in omega arith)
        | inr a ↦ (let q = a.1 in let b = h.above in omega arith)
      ])

  next_reached : IsFleetReached setup next
  next_reached = reached_on setup f (Judge k ∷ []) reached (tt, tt)

  next_named : AreNamedKnown next
  next_named = named_after f next (after_run (Judge k ∷ []) f (tt, tt)) named

  -- the work is under way then, and ends
  by_work : (g : Fleet) → next ≡ g → controller g ≡ controller f → IsUnderWay g l k → IsHeard (f.servers l.order.call.server).base (order_read l).stamp → (slot_for f l).last < l.order.number → has_lost g l.order.call.server ≡ false → Ending next l
  by_work g is same r h above known = work_ends setup next next_reached next_named l
      (ap (λ (x : Fleet). letter_of (controller x) l.order.stream) is ∙ (ap (λ c. letter_of c l.order.stream) same ∙ present_now h above))
      (ap (λ (x : Fleet). has_lost x l.order.call.server) is ∙ known) k (subst (λ x. IsUnderWay x l k) (sym is) r)

  -- nothing is owed
  turned : (x : Verdict) → verdict_of f l ≡ x → ((h : Fleet) → ServerKeeps x l.order [] h) → Serving f l
  turned x q nothing = (Judge k ∷ [], (tt, tt), inl (k, refl, sent, subst (λ y. ServerKeeps y l.order [] next) (sym q) (nothing next)))

  by_ending : (x : Verdict) → verdict_of f l ≡ x → (e : Ending next l) → ServerKeeps x l.order e.0 next → Serving f l
  by_ending x q e keeps = (Judge k ∷ e.0, (tt, e.1), inl (k, refl, sent, subst (λ y. ServerKeeps y l.order e.0 next) (sym q) keeps))

  by_kind : (x : Verdict) → verdict_of f l ≡ x → IsAway x ⊎ (IsHeard (f.servers l.order.call.server).base (order_read l).stamp × IsBySlot (slot_for f l) (load_used f l.order.call.server) (order_read l) x) → Serving f l
  by_kind x q (inl (inl a)) = turned verdict.NotReady (q ∙ a) (λ h. tt)
  by_kind x q (inl (inr (inl a))) = turned verdict.Foreign (q ∙ a) (λ h. tt)
  by_kind x q (inl (inr (inr a))) = turned verdict.Old (q ∙ a) (λ h. tt)
  by_kind x q (inr (h, Lower less a)) = turned verdict.Old (q ∙ a) (λ h. tt)
  by_kind x q (inr (h, Refuses more why r a)) = turned (verdict.Refused why) (q ∙ a) (λ h. tt)
  by_kind x q (inr (h, Same same a)) =
      let is = next_is verdict.Again (q ∙ a) in (
        Judge k ∷ HearServer (length f.answers) ∷ [],
        (tt, (tt, tt)),
        inl (
          k,
          refl,
          sent,
          subst (λ y. ServerKeeps y l.order (HearServer (length f.answers) ∷ []) next) (sym (q ∙ a))
              (inl (length f.answers, refl, ap (λ (z : Fleet). slice_get z.answers (length f.answers)) is ∙ slice_get_push f.answers l.order)),
        ),
      )
  by_kind x q (inr (h, Serves more after r (inl a))) =
      let slot = begun_slot (slot_for f l) (order_read l) in
      let g = with_slot f l.order.call.shard l.order.call.server slot in
      let led = (served_ok (slot_for f l).cell (l.room - load_used f l.order.call.server) l.load true l.order.call.call after r).1 in
      let base = base_put f l.order.call.shard l.order.call.server slot in
      let is = slot_put f l.order.call.shard l.order.call.server slot in
      let way : IsUnderWay g l k = record {
        sent = sent;
        hears = ap (λ b. turned_away b (order_read l).stamp) base ∙ heard (f.servers l.order.call.server).base (order_read l).stamp h;
        above = subst (λ (y : Slot). y.last < l.order.number) (sym is) more;
        working = ap (λ (y : Slot). is_at_work y.at_work l.order.number) is ∙ eq-eqb l.order.number l.order.number refl;
        next = after;
        led = ap (λ (y : Slot). led_to l.order.call.call y.cell) is ∙ led;
      } in
      let e = by_work g (next_is verdict.Begin (q ∙ a)) refl way h more (ap lacks_slots base ∙ h.known) in
      by_ending verdict.Begin (q ∙ a) e e.2
  by_kind x q (inr (h, Serves more after r (inr a))) =
      let led = (served_ok (slot_for f l).cell (l.room - load_used f l.order.call.server) l.load true l.order.call.call after r).1 in
      let way : IsUnderWay f l k = record {
        sent = sent;
        hears = heard (f.servers l.order.call.server).base (order_read l).stamp h;
        above = more;
        working = a.1;
        next = after;
        led = led;
      } in
      let e = by_work f (next_is verdict.Working (q ∙ a.0)) refl way h more h.known in
      by_ending verdict.Working (q ∙ a.0) e e.2

  -- the order comes, and what its server owes then
  pub serving : Serving f l
  serving = by_kind (verdict_of f l) refl (judged_is (f.servers l.order.call.server).base (slot_for f l) (load_used f l.order.call.server) (order_read l))

-- ---- a publication that comes

abbrev pub Storing : Fleet → Notice → Type 0
Storing f n = (es : List FleetEvent) × AllByRecursion IsGentle es × PublicationComes n es f

-- a publication comes, and the map owner's answer
pub storing : (f : Fleet) (n : Notice) (k : ℕ) → slice_get f.published k ≡ Some n → Storing f n
storing f n k sent = go (owner_verdict f n) refl
  where
    next_is : (x : Verdict) → owner_verdict f n ≡ x → (fleet_comes f (Publish k)).1 ≡ after_owner f n.publication x
    next_is x q = ap (λ o. (by_message f (after_notice f) o).1) sent ∙ ap (after_owner f n.publication) q

    answers : (x : Verdict) → owner_verdict f n ≡ x → ((h : Fleet) → ConfirmationComes n.publication (HearOwner (length f.stored) ∷ []) h → OwnerKeeps x n.publication (HearOwner (length f.stored) ∷ []) h) →
        (after_owner f n.publication x).stored ≡ f.stored ++ n.publication ∷ [] → Storing f n
    answers x q owes stored = (
      Publish k ∷ HearOwner (length f.stored) ∷ [],
      (tt, (tt, tt)),
      inl (
        k,
        refl,
        sent,
        subst (λ y. OwnerKeeps y n.publication (HearOwner (length f.stored) ∷ []) (fleet_comes f (Publish k)).1) (sym q)
            (owes (fleet_comes f (Publish k)).1
            (inl (length f.stored, refl, ap (λ (z : Fleet). slice_get z.stored (length f.stored)) (next_is x q) ∙ (ap (λ xs. slice_get xs (length f.stored)) stored ∙ slice_get_push f.stored n.publication)))),
      ),
    )

    turned : (x : Verdict) → owner_verdict f n ≡ x → ((h : Fleet) → OwnerKeeps x n.publication [] h) → Storing f n
    turned x q nothing = (Publish k ∷ [], (tt, tt), inl (k, refl, sent, subst (λ y. OwnerKeeps y n.publication [] (fleet_comes f (Publish k)).1) (sym q) (nothing (fleet_comes f (Publish k)).1)))

    go : (x : Verdict) → owner_verdict f n ≡ x → Storing f n
    go verdict.Begin q = answers verdict.Begin q (λ h c. c) refl
    go verdict.Again q = answers verdict.Again q (λ h c. c) refl
    go verdict.Working q = turned verdict.Working q (λ h. tt)
    go verdict.Old q = turned verdict.Old q (λ h. tt)
    go verdict.Foreign q = turned verdict.Foreign q (λ h. tt)
    go verdict.NotReady q = turned verdict.NotReady q (λ h. tt)
    go (verdict.Refused why) q = turned (verdict.Refused why) q (λ h. tt)
