-- Whoever takes over goes by the cut that the old owner has made: so it has all.
use Rattle.std.proofs.Common.{◌≡◌, ◌≤◌, ℕ, refl, sym, ap, ◌∙◌, inl, inr, subst, arith, Bool, true, false, Option, Some, None, List, [], ◌∷◌, leb-true, length}
use Rattle.std.specs.Prelude.{◌==◌, ◌&&◌, ◌||◌, if◌then◌else◌, nat_lt, not, slice_get}
use Rattle.std.proofs.lemmas.Bool.{and_parts, cases_lt, eqb-true, lt-ltb, or_parts}
use Rattle.sm_server.specs.declared.call.Cell.{Cell}
use Rattle.sm_server.specs.declared.call.Cell.TheVariants.{Prepared}
use Rattle.sm_server.specs.declared.call.Role.TheVariants as role
use Rattle.sm_server.specs.declared.call.Call.{Call}
use Rattle.sm_server.specs.declared.call.Call.TheVariants.{Add}
use Rattle.sm_server.specs.Call.{LeadsWhereLed}
use Rattle.sm_agent.specs.declared.base.Base.{Base}
use Rattle.sm_agent.specs.declared.order.Order.{Order as ServerOrder}
use Rattle.sm_agent.specs.declared.request.Relay.{Relay}
use Rattle.sm_agent.specs.declared.request.Request.TheVariants.{Passed}
use Rattle.sm_agent.specs.declared.request.Routing.{Routing}
use Rattle.sm_agent.specs.declared.request.Routing.TheVariants as routing
use Rattle.sm_agent.specs.declared.slot.Slot.{Slot}
use Rattle.sm_agent.specs.Base.{lacks_slots}
use Rattle.sm_agent.specs.Order.{committed, is_done, is_filled, may_commit}
use Rattle.sm_agent.specs.Request.{received, routed}
use Rattle.laws_network.specs.Net.{Order}
use Rattle.laws_network.specs.Controller.{Letter}
use Rattle.laws_network.specs.Fleet.{Commit, Committed, Fleet, FleetEvent, Handoff, Routed, after_commit, after_request, after_work, by_message, fleet_comes, fleet_run, has_lost, order_read, request_routing, slot_for}
use Rattle.laws_network.specs.FleetLaws.{AllFleetFit}
use Rattle.laws_network.proofs.AtServer.{commit_is}
use Rattle.laws_network.proofs.Lists.{all_at}
use Rattle.laws_service_data.specs.Joined.{Joined, JoinedEvent, OfData, OfFleet, fleet_events, joined_comes, joined_run}
use Rattle.laws_service_data.specs.Laws.{ForwardsAlong}
use Rattle.laws_service_data.specs.CutsTold.{ForwardsWhile, IsCutTold, TakesOverBy, TakesOverWithAll}
use Rattle.laws_service_data.proofs.Cuts.{reached_cut}
use Rattle.laws_service_data.proofs.CutsTold.{cut_is_told}
use Rattle.laws_service_data.proofs.Runs.{IsJoint, joint, joint_next}
use Rattle.laws_service_data.proofs.Told.{slot_at}

-- ---- what a new owner goes by

-- who executes a request that was passed on has applied no less than the cut, in its handover
received_by : (from n : ℕ) (frozen : Bool) (applied : ℕ) (relay : Relay) → received from n frozen applied relay ≡ routing.Execute → (relay.handover ≡ n) × (relay.cut ≤ applied)
received_by from n frozen applied relay e = go (relay.from == from && relay.handover == n) refl (frozen || nat_lt applied relay.cut) refl e
  where
    reached : nat_lt applied relay.cut ≡ false → relay.cut ≤ applied
    reached q = elim (cases_lt applied relay.cut) [
      | inl l ↦ absurd (let z = lt-ltb applied relay.cut l in cc)
      | inr l ↦ l
    ]

    go : (a : Bool) → (relay.from == from && relay.handover == n) ≡ a → (c : Bool) → (frozen || nat_lt applied relay.cut) ≡ c → (if not a then routing.NotHere else if c then routing.NotYet else routing.Execute) ≡ routing.Execute
        → (relay.handover ≡ n) × (relay.cut ≤ applied)
    go false p c q h = absurd (cc)
    go true p true q h = absurd (cc)
    go true p false q h = (eqb-true relay.handover n (and_parts (relay.from == from) (relay.handover == n) p).1, reached (or_parts frozen (nat_lt applied relay.cut) q).1)

-- so it is at a prepared server
executes_passed : (base : Base) (slot : Slot) (applied from n : ℕ) (relay : Relay) → slot.cell ≡ Prepared from n → routed base slot applied (Passed relay) ≡ routing.Execute → (relay.handover ≡ n) × (relay.cut ≤ applied)
executes_passed base slot applied from n relay cell e =
    received_by from n base.fenced applied relay (known (lacks_slots base) (received from n base.fenced applied relay)
    (subst (λ c. routed base (record slot { cell = c }) applied (Passed relay) ≡ routing.Execute) cell e))
  where
    known : (b : Bool) (x : Routing) → (if b then routing.NotHere else x) ≡ routing.Execute → x ≡ routing.Execute
    known true x q = absurd (cc)
    known false x q = q

-- whoever commits its taking over has applied no less than the cut that it has heard
commits_filled : (base : Base) (slot : Slot) (order : ServerOrder) (at : ℕ) (next : Slot) (from n : ℕ) → order.call ≡ Add role.Primary → slot.cell ≡ Prepared from n → committed base slot order at ≡ Some next → is_filled slot.cut at ≡ true
commits_filled base slot order at next from n call cell e =
    sym (ap (λ (x : Call). is_done x slot.cell slot.cut at) call ∙ ap (λ (c : Cell). is_done (Add role.Primary) c slot.cut at) cell) ∙ done (may_commit base slot order at) _ refl e
  where
    done : (b : Bool) (o : Option Slot) → may_commit base slot order at ≡ b → (if b then o else None) ≡ Some next → is_done order.call slot.cell slot.cut at ≡ true
    done true o m q = (and_parts _ _ m).1
    done false o m q = absurd (cc)

filled : (o : Option ℕ) (at : ℕ) → is_filled o at ≡ true → (c : ℕ) × (o ≡ Some c) × (c ≤ at)
filled None at e = absurd (cc)
filled (Some c) at e = (c, refl, leb-true c at e)

module _ (f : Fleet) (s v from number position cut : ℕ) (told : IsCutTold f s number cut) (prepared : (slot_at f s v).cell ≡ Prepared from number) where
  by_pass : (place : ℕ) (o : Option Handoff) → slice_get f.passes place ≡ o → (by_message f (λ (h : Handoff). after_request f h.shard h.target position (Passed h.pass)) o).0 ≡ Routed s v routing.Execute → cut ≤ position
  by_pass place None e q = absurd (cc)
  by_pass place (Some h) e q =
      let z : Routed h.shard h.target (request_routing f h.shard h.target position (Passed h.pass)) ≡ Routed s v routing.Execute = q in
      let shard : h.shard ≡ s = cc in
      let target : h.target ≡ v = cc in
      let execute : request_routing f h.shard h.target position (Passed h.pass) ≡ routing.Execute = cc in
      let cell : (slot_at f h.shard h.target).cell ≡ Prepared from number = ap (λ r. (slot_at f r h.target).cell) shard ∙ (ap (λ w. (slot_at f s w).cell) target ∙ prepared) in
      let p = executes_passed (f.servers h.target).base (slot_at f h.shard h.target) position from number h.pass cell execute in
      let c : h.pass.cut ≡ cut = all_at (λ h. h.shard ≡ s → h.pass.handover ≡ number → h.pass.cut ≡ cut) f.passes place h told.passed e shard p.0 in
      let l : h.pass.cut ≤ position = p.1 in
      omega arith

  by_work : (l : Letter) (o : Order) (x : Option Slot) → committed (f.servers l.order.call.server).base (slot_for f l) (order_read l) position ≡ x → (after_work f l x).0 ≡ Committed o
      → o.call.shard ≡ s → o.call.server ≡ v → o.call.call ≡ Add role.Primary → cut ≤ position
  by_work l o None e q shard server call = absurd (cc)
  by_work l o (Some next) e q shard server call =
      let z : Committed l.order ≡ Committed o = q in
      let same : l.order ≡ o = cc in
      let at_s : l.order.call.shard ≡ s = ap (λ (x : Order). x.call.shard) same ∙ shard in
      let at_v : l.order.call.server ≡ v = ap (λ (x : Order). x.call.server) same ∙ server in
      let cell : (slot_for f l).cell ≡ Prepared from number = ap (λ r. (slot_at f r l.order.call.server).cell) at_s ∙ (ap (λ w. (slot_at f s w).cell) at_v ∙ prepared) in
      let k = filled (slot_for f l).cut position (commits_filled (f.servers l.order.call.server).base (slot_for f l) (order_read l) position next from number (ap (λ (x : Order). x.call.call) same ∙ call) cell e) in
      let known : has_lost f v ≡ false = sym (ap (has_lost f) at_v) ∙ (commit_is (f.servers l.order.call.server).base (slot_for f l) (order_read l) position next e).heard.known in
      let c : k.0 ≡ cut = told.heard v from k.0 known prepared (sym (ap (λ r. (slot_at f r l.order.call.server).cut) at_s ∙ ap (λ w. (slot_at f s w).cut) at_v) ∙ k.1) in
      let le : k.0 ≤ position = k.2 in
      omega arith

  by_letter : (place : ℕ) (o : Order) (x : Option Letter) → (by_message f (after_commit f position) x).0 ≡ Committed o → o.call.shard ≡ s → o.call.server ≡ v → o.call.call ≡ Add role.Primary → cut ≤ position
  by_letter place o None q shard server call = absurd (cc)
  by_letter place o (Some l) q shard server call = by_work l o (committed (f.servers l.order.call.server).base (slot_for f l) (order_read l) position) refl q shard server call

  -- whoever takes over has applied no less than the cut
  applied_enough : (e : FleetEvent) → TakesOverBy f s v position e → cut ≤ position
  applied_enough e (inl t) = by_pass t.0 (slice_get f.passes t.0) refl (subst (λ x. (fleet_comes f x).0 ≡ Routed s v routing.Execute) t.1 t.2)
  applied_enough e (inr t) = by_letter t.0 t.1 (slice_get f.sent t.0) (subst (λ x. (fleet_comes f x).0 ≡ Committed t.1) t.2 t.3) t.4 t.5 t.6

-- ---- along joined events

forwards_while : (s u : ℕ) (js : List JoinedEvent) (x : Joined) → ForwardsAlong s u x js → ForwardsWhile s u x.fleet (fleet_events js)
forwards_while s u [] x along = tt
forwards_while s u (OfFleet e acts ∷ js) x along = (along.0, along.1, along.2, forwards_while s u js (joined_comes x (OfFleet e acts)) along.4)
forwards_while s u (OfData event ∷ js) x along = forwards_while s u js (joined_comes x (OfData event)) along.4

same_fleet : (js : List JoinedEvent) (x : Joined) → (joined_run js x).fleet ≡ fleet_run (fleet_events js) x.fleet
same_fleet [] x = refl
same_fleet (OfFleet e acts ∷ js) x = same_fleet js (joined_comes x (OfFleet e acts))
same_fleet (OfData event ∷ js) x = same_fleet js (joined_comes x (OfData event))

-- whoever takes over may do so by the rules
pub takes_over_with_all : LeadsWhereLed → TakesOverWithAll
takes_over_with_all led setup s u v from number position x js e list source copy cut fit kept along prepared takes told here there begun =
    let k : IsJoint setup s cut.before = joint led setup s cut.before cut.reached in
    let es = fleet_events js in
    let after = (fleet_comes cut.before.fleet (Commit cut.place (length list))).1 in
    let now : x.fleet ≡ after = ap (λ (y : Joined). y.fleet) cut.is in
    let forwards = subst (λ g. ForwardsWhile cut.order.call.shard cut.order.call.server g es) now
    (subst (λ w. ForwardsWhile cut.order.call.shard w x.fleet es) (sym cut.server) (subst (λ r. ForwardsWhile r u x.fleet es) (sym cut.shard) (forwards_while s u js x along))) in
    let there_told = cut_is_told setup cut.before.fleet cut.place (length list) cut.to number cut.order es k.fleet cut.commits cut.call (subst (λ g. AllFleetFit setup g es) now fit) forwards in
    let is_told : IsCutTold (joined_run js x).fleet s number (length list) =
    subst (λ g. IsCutTold g s number (length list)) (sym (same_fleet js x ∙ ap (fleet_run es) now)) (subst (λ r. IsCutTold (fleet_run es after) r number (length list)) cut.shard there_told) in
    let enough : length list ≤ position = applied_enough (joined_run js x).fleet s v from number position (length list) is_told prepared e takes in
    reached_cut led setup s u v x js list source copy (subst (IsJoint setup s) (sym cut.is) (joint_next led setup s cut.before k (Commit cut.place (length list)) cut.acts tt cut.kept))
    fit kept along cut.copy there here begun (omega arith)
