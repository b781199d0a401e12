-- Servers have what the record says with the effects of some streams.
use Rattle.std.proofs.Common.{◌≡◌, ◌≢◌, ℕ, suc, zero, ◌<◌, ◌⊎◌, refl, sym, ap, ◌∙◌, inl, inr, subst, arith, Bool, true, false, Option, Some, None, List, [], ◌∷◌, ◌++◌}
use Rattle.std.specs.Prelude.{◌||◌, is_some, map, option_map, if◌then◌else◌}
use Rattle.std.specs.List.{AllByRecursion}
use Rattle.std.proofs.lemmas.Bool.{cases_lt}
use Rattle.sm_server.specs.declared.call.Cell.{Cell}
use Rattle.sm_server.specs.Call.{led_to}
use Rattle.sm_placement.specs.Setup.{Setup}
use Rattle.sm_placement.specs.Place.{Place}
use Rattle.sm_reservation.specs.declared.stream_id.StreamId.{StreamId}
use Rattle.sm_plan_code.specs.declared.call.ServerCall.{ServerCall}
use Rattle.sm_plan_code.specs.declared.instruction.Instr.{Instr}
use Rattle.sm_verifier.proofs.OnePlace.{put2_cases}
use Rattle.sm_protocol.specs.State.{State, is_running, next_instruction}
use Rattle.sm_protocol.specs.Next.{call_under, entry_by}
use Rattle.sm_protocol.specs.Happens.{Happening, Lose, happens, run}
use Rattle.sm_protocol.specs.Laws.{IsReached}
use Rattle.sm_protocol.proofs.Courses.{some_same}
use Rattle.sm_protocol.proofs.Invariant.{IsKept}
use Rattle.sm_protocol.proofs.Whole.{reached_keeps}
use Rattle.laws_network.specs.Net.{Order, call_above, call_now, cell_above, order_for, order_of}
use Rattle.laws_network.specs.Fleet.{Fleet, controller, has_lost}
use Rattle.laws_network.specs.FleetLaws.{EachFleet, IsAheadAt, IsFleetReached}
use Rattle.laws_network.proofs.Ahead.{IsMade, AreReady, ahead_of, lost, made_all}
use Rattle.laws_network.proofs.Calm.{IsCalm, ready}
use Rattle.laws_network.proofs.Commands.{state_reached}
use Rattle.laws_network.proofs.Deliveries.{shade_of}
use Rattle.laws_network.proofs.Events.{at_call_of}
use Rattle.laws_network.proofs.FleetOnce.{servers_are_near}
use Rattle.laws_network.proofs.OfFleet.{net_of}
use Rattle.laws_network.proofs.Overlay.{AreOnce, IsIn, call_made, cell_after, cell_by, made_at, overlay}
use Rattle.laws_network.proofs.Raised.{net_is_calm}
use Rattle.laws_network.proofs.Reaching.{fleet_shadow}
use Rattle.laws_network.proofs.Risen.{led_above}
use Rattle.laws_network.proofs.Shadow.{IsShadow}
use Rattle.laws_decisions.specs.Decisions.{AreNamedOnce, AreTold, EffectsAreTold, is_awaiting, with_effects}

-- ---- lists of streams

in_append : (xs ys : List StreamId) (id : StreamId) → IsIn (xs ++ ys) id → IsIn xs id ⊎ IsIn ys id
in_append [] ys id h = inr h
in_append (x ∷ xs) ys id (inl e) = inl (inl e)
in_append (x ∷ xs) ys id (inr h) = elim (in_append xs ys id h) [ inl k ↦ inl (inr k) | inr k ↦ inr k ]

in_left : (xs ys : List StreamId) (id : StreamId) → IsIn xs id → IsIn (xs ++ ys) id
in_left [] ys id h = absurd h
in_left (x ∷ xs) ys id (inl e) = inl e
in_left (x ∷ xs) ys id (inr h) = inr (in_left xs ys id h)

in_right : (xs ys : List StreamId) (id : StreamId) → IsIn ys id → IsIn (xs ++ ys) id
in_right [] ys id h = h
in_right (x ∷ xs) ys id h = inr (in_right xs ys id h)

-- two lists with nothing in common, each with nothing twice
once_append : (xs ys : List StreamId) → AreOnce xs → AreOnce ys → ((id : StreamId) → IsIn xs id → IsIn ys id → ⊥) → AreOnce (xs ++ ys)
once_append [] ys a b apart = b
once_append (x ∷ xs) ys a b apart = (
  λ h. elim (in_append xs ys x h) [ inl k ↦ a.0 k | inr k ↦ apart x (inl refl) k ],
  once_append xs ys a.1 b (λ id h k. apart id (inr h) k),
)

-- lists one after the other
joined : ℕ → (ℕ → List StreamId) → List StreamId
joined zero g = []
joined (suc n) g = joined n g ++ g n

in_joined : (n : ℕ) (g : ℕ → List StreamId) (id : StreamId) → IsIn (joined n g) id → (k : ℕ) × (k < n) × IsIn (g k) id
unfolding joined
in_joined zero g id h = absurd h
in_joined (suc n) g id h = elim (in_append (joined n g) (g n) id h) [
  | inl k ↦ let r = in_joined n g id k in (r.0, (let l = r.1 in omega arith), r.2)
  | inr k ↦ (n, (omega arith), k)
]

joined_in : (n : ℕ) (g : ℕ → List StreamId) (id : StreamId) (k : ℕ) → k < n → IsIn (g k) id → IsIn (joined n g) id
unfolding joined
joined_in zero g id k l h = absurd (omega arith)
joined_in (suc n) g id k l h = elim (cases_lt k n) [
  | inl m ↦ in_left (joined n g) (g n) id (joined_in n g id k m h)
  | inr m ↦ in_right (joined n g) (g n) id (let e : k ≡ n = (omega arith) in subst (λ j. IsIn (g j) id) e h)
]

once_joined : (n : ℕ) (g : ℕ → List StreamId) → ((k : ℕ) → AreOnce (g k)) → ((k j : ℕ) (id : StreamId) → IsIn (g k) id → IsIn (g j) id → k ≡ j) → AreOnce (joined n g)
unfolding joined
once_joined zero g each apart = tt
once_joined (suc n) g each apart = once_append (joined n g) (g n) (once_joined n g each apart) (each n) (λ id h k.
    let r = in_joined n g id h in
    let e = apart r.0 n id r.2 k in
    let l = r.1 in
    absurd (omega arith))

-- ---- the other way round

turned_round : List StreamId → List StreamId
turned_round [] = []
turned_round (id ∷ ids) = turned_round ids ++ id ∷ []

run_append : (es fs : List Happening) (w : State) → run (es ++ fs) w ≡ run fs (run es w)
run_append [] fs w = refl
run_append (e ∷ es) fs w = run_append es fs (happens w e).1

lost_append : (ids js : List StreamId) → map (λ id. Lose id true) (ids ++ js) ≡ map (λ id. Lose id true) ids ++ map (λ id. Lose id true) js
lost_append [] js = refl
lost_append (id ∷ ids) js = ap (λ es. Lose id true ∷ es) (lost_append ids js)

-- the effects of streams, the last of which had its own first
effects_turned : (ids : List StreamId) (w : State) → with_effects (turned_round ids) w ≡ ahead_of ids w
unfolding turned_round
effects_turned [] w = refl
effects_turned (id ∷ ids) w =
    ap (λ es. run es w) (lost_append (turned_round ids) (id ∷ []))
    ∙ run_append (map (λ j. Lose j true) (turned_round ids)) (Lose id true ∷ []) w
    ∙ ap (λ x. lost x id) (effects_turned ids w)

all_append : (P : StreamId → Type 0) (ids js : List StreamId) → AllByRecursion P ids → AllByRecursion P js → AllByRecursion P (ids ++ js)
all_append P [] js a b = b
all_append P (id ∷ ids) js a b = (a.0, all_append P ids js a.1 b)

all_turned : (P : StreamId → Type 0) (ids : List StreamId) → ((id : StreamId) → IsIn ids id → P id) → AllByRecursion P (turned_round ids)
unfolding turned_round
all_turned P [] h = tt
all_turned P (id ∷ ids) h = all_append P (turned_round ids) (id ∷ []) (all_turned P ids (λ j k. h j (inr k))) (h id (inl refl), tt)

named_append : (ids : List StreamId) (id : StreamId) → AreNamedOnce ids → AllByRecursion (λ other. other ≢ id) ids → AreNamedOnce (ids ++ id ∷ [])
named_append [] id a b = (tt, tt)
named_append (j ∷ ids) id a b = (all_append (λ other. other ≢ j) ids (id ∷ []) a.0 ((λ e. b.0 (sym e)), tt), named_append ids id a.1 b.1)

named_turned : (ids : List StreamId) → AreOnce ids → AreNamedOnce (turned_round ids)
unfolding turned_round
named_turned [] o = tt
named_turned (id ∷ ids) o = named_append (turned_round ids) id (named_turned ids o.1) (all_turned (λ other. other ≢ id) ids (λ j k e. o.0 (subst (IsIn ids) e k)))

-- ---- the cells once calls are made

-- the call is for this cell
abbrev IsAt : ServerCall → ℕ → ℕ → Type 0
IsAt x s v = (x.shard ≡ s) × (x.server ≡ v)

-- the streams' calls are for other cells
AreElsewhere : State → List StreamId → ℕ → ℕ → Type 0
AreElsewhere w ids s v = (id : StreamId) → IsIn ids id → (x : ServerCall) → call_now w id ≡ Some x → IsAt x s v → ⊥

module _ (w : State) (f : ℕ → ℕ → Cell) (s v : ℕ) where
  elsewhere_by : (o : Option ServerCall) (g : ℕ → ℕ → Cell) → ((x : ServerCall) → o ≡ Some x → IsAt x s v → ⊥) → made_at o g s v ≡ g s v
  elsewhere_by None g n = refl
  elsewhere_by (Some x) g n = elim (put2_cases g x.shard x.server (cell_by x g) s v) [
    | inl h ↦ absurd (n x refl (sym h.0, sym h.1))
    | inr h ↦ h.1
  ]

  overlay_elsewhere : (ids : List StreamId) → AreElsewhere w ids s v → overlay w ids f s v ≡ f s v
  unfolding AreElsewhere
  overlay_elsewhere [] n = refl
  overlay_elsewhere (a ∷ ids) n = elsewhere_by (call_now w a) (overlay w ids f) (λ x e at. n a (inl refl) x e at) ∙ overlay_elsewhere ids (λ id h. n id (inr h))

  at_cell : (x : ServerCall) (g : ℕ → ℕ → Cell) → IsAt x s v → g s v ≡ f s v → call_made x g s v ≡ cell_after (f s v) (led_to x.call (f s v))
  at_cell x g at same = elim (put2_cases g x.shard x.server (cell_by x g) s v) [
    | inl h ↦ h.2 ∙ ap (λ c. cell_after c (led_to x.call c)) (ap (λ r. g r x.server) at.0 ∙ ap (g s) at.1 ∙ same)
    | inr h ↦ absurd (h.0 (sym at.0, sym at.1))
  ]

  overlay_there : (ids : List StreamId) (id : StreamId) (x : ServerCall) → AreOnce ids → IsIn ids id → call_now w id ≡ Some x → IsAt x s v →
      ((j : StreamId) → IsIn ids j → (y : ServerCall) → call_now w j ≡ Some y → IsAt y s v → j ≡ id) → overlay w ids f s v ≡ cell_after (f s v) (led_to x.call (f s v))
  unfolding AreElsewhere
  overlay_there [] id x once h e at alone = absurd h
  overlay_there (a ∷ ids) id x once (inl same) e at alone =
      ap (λ o. made_at o (overlay w ids f) s v) (ap (call_now w) (sym same) ∙ e)
      ∙ at_cell x (overlay w ids f) at (overlay_elsewhere ids (λ j k y d q. once.0 (subst (IsIn ids) (alone j (inr k) y d q ∙ same) k)))
  overlay_there (a ∷ ids) id x once (inr h) e at alone =
      elsewhere_by (call_now w a) (overlay w ids f) (λ y d q. once.0 (subst (IsIn ids) (sym (alone a (inl refl) y d q)) h))
      ∙ overlay_there ids id x once.1 h e at (λ j k. alone j (inr k))

-- ---- orders

-- what an order tells of its stream
record IsOrderOf (base : ℕ) (w : State) (id : StreamId) (o : Order) : Type 0 where
  pub call : ServerCall
  pub runs : is_running w id ≡ true
  pub now : call_now w id ≡ Some call
  pub is : o.call ≡ record call { call = call_above base call.call }
  pub stream : o.stream ≡ id

of_order : (base : ℕ) (w : State) (id : StreamId) (o : Order) → order_of base w id ≡ Some o → IsOrderOf base w id o
of_order base w id o e = go (is_running w id) (call_now w id) refl refl e
  where
    go : (b : Bool) (c : Option ServerCall) → is_running w id ≡ b → call_now w id ≡ c → (if b then order_for base w id c else None) ≡ Some o → IsOrderOf base w id o
    go false c r n q = absurd (cc)
    go true None r n q = absurd (cc)
    go true (Some x) r n q =
        let same = some_same _ o q in
        record { call = x; runs = r; now = n; is = ap (λ (z : Order). z.call) (sym same); stream = ap (λ (z : Order). z.stream) (sym same) }

awaits_order : (w : State) (id : StreamId) (x : ServerCall) → is_running w id ≡ true → call_now w id ≡ Some x → is_awaiting w id ≡ true
awaits_order w id x r n = go (next_instruction w id) refl
  where
    go : (o : Option Instr) → next_instruction w id ≡ o → is_awaiting w id ≡ true
    go None e = absurd (let z = n in let d : call_now w id ≡ None = rw e refl in let q = sym d ∙ n in cc)
    go (Some i) e =
        let c : call_under w.numbers (Some i) ≡ Some x = (let d : call_now w id ≡ call_under w.numbers (Some i) = rw e refl in sym d ∙ n) in
        rw (r, e) (ap (λ o. is_some o || is_some (entry_by w (Some i))) c)

-- ---- the fleet

module _ (setup : Setup) (f : Fleet) (r : IsFleetReached setup f) where
  abbrev w : State
  w = (controller f).w

  abbrev base : ℕ
  base = (controller f).base

  shadow : IsShadow setup (λ s v. 0) f
  shadow = fleet_shadow setup f r

  reached : IsReached setup (controller f).w
  reached = state_reached setup (λ s v. 0) f shadow

  kept : IsKept (controller f).w
  kept = (reached_keeps setup (controller f).w reached).0

  calm : IsCalm (controller f).w
  calm = net_is_calm setup (shade_of f shadow).net (net_of f shadow)

  -- a cell as it is recorded, or one call further
  abbrev IsNear : ℕ → ℕ → Type 0
  IsNear s v = (((f.servers v).slots s).cell ≡ cell_above base (w.place.cells s v)) ⊎ IsAheadAt f s v

  -- the stream whose call has had its effect at the cell
  of_near : (s v : ℕ) → IsNear s v → List StreamId
  of_near s v (inl e) = []
  of_near s v (inr a) = a.order.stream ∷ []

  of_server : (s v : ℕ) (b : Bool) → has_lost f v ≡ b → List StreamId
  of_server s v true e = []
  of_server s v false e = of_near s v (servers_are_near setup f r s v e)

  of_cell : ℕ → ℕ → List StreamId
  of_cell s v = of_server s v (has_lost f v) refl

  of_shard : ℕ → List StreamId
  of_shard s = joined w.sizes.servers (of_cell s)

  -- the streams whose calls have had their effects
  ahead : List StreamId
  ahead = joined w.sizes.shards of_shard

  -- a stream of a cell stands before an order for it
  record IsFor (s v : ℕ) (id : StreamId) : Type 0 where
    pub call : ServerCall
    pub runs : is_running w id ≡ true
    pub now : call_now w id ≡ Some call
    pub at : IsAt call s v

  for_ahead : (s v : ℕ) (a : IsAheadAt f s v) → IsFor s v a.order.stream
  for_ahead s v a =
      let o = of_order base w a.order.stream a.order a.present in
      record {
        call = o.call;
        runs = o.runs;
        now = o.now;
        at = (ap (λ (x : ServerCall). x.shard) (sym o.is) ∙ a.shard, ap (λ (x : ServerCall). x.server) (sym o.is) ∙ a.server);
      }

  for_near : (s v : ℕ) (n : IsNear s v) (id : StreamId) → IsIn (of_near s v n) id → IsFor s v id
  unfolding of_near
  for_near s v (inl e) id h = absurd h
  for_near s v (inr a) id (inl e) = subst (IsFor s v) (sym e) (for_ahead s v a)
  for_near s v (inr a) id (inr h) = absurd h

  for_server : (s v : ℕ) (b : Bool) (e : has_lost f v ≡ b) (id : StreamId) → IsIn (of_server s v b e) id → IsFor s v id
  unfolding of_server
  for_server s v true e id h = absurd h
  for_server s v false e id h = for_near s v (servers_are_near setup f r s v e) id h

  for_cell : (s v : ℕ) (id : StreamId) → IsIn (of_cell s v) id → IsFor s v id
  unfolding of_cell
  for_cell s v id h = for_server s v (has_lost f v) refl id h

  once_near : (s v : ℕ) (n : IsNear s v) → AreOnce (of_near s v n)
  unfolding of_near
  once_near s v (inl e) = tt
  once_near s v (inr a) = ((λ h. h), tt)

  once_cell : (s v : ℕ) → AreOnce (of_cell s v)
  unfolding of_cell of_server
  once_cell s v = go (has_lost f v) refl
    where
      go : (b : Bool) (e : has_lost f v ≡ b) → AreOnce (of_server s v b e)
      go true e = tt
      go false e = once_near s v (servers_are_near setup f r s v e)

  -- a stream stands before one call
  same_cell : (s v t u : ℕ) (id : StreamId) → IsFor s v id → IsFor t u id → (s ≡ t) × (v ≡ u)
  same_cell s v t u id a b =
      let e : a.call ≡ b.call = some_same a.call b.call (sym a.now ∙ b.now) in
      (sym a.at.0 ∙ ap (λ (x : ServerCall). x.shard) e ∙ b.at.0, sym a.at.1 ∙ ap (λ (x : ServerCall). x.server) e ∙ b.at.1)

  -- whoever is among them is of one cell
  of_ahead : (id : StreamId) → IsIn ahead id → (s : ℕ) × (v : ℕ) × (s < w.sizes.shards) × (v < w.sizes.servers) × IsIn (of_cell s v) id
  unfolding ahead of_shard
  of_ahead id h =
      let a = in_joined w.sizes.shards of_shard id h in
      let b = in_joined w.sizes.servers (of_cell a.0) id a.2 in
      (a.0, b.0, a.1, b.1, b.2)

  once_ahead : AreOnce ahead
  unfolding ahead of_shard
  once_ahead = once_joined w.sizes.shards of_shard
      (λ s. once_joined w.sizes.servers (of_cell s) (once_cell s) (λ k j id h i. (same_cell s k s j id (for_cell s k id h) (for_cell s j id i)).1))
      (λ k j id h i.
      let a = in_joined w.sizes.servers (of_cell k) id h in
      let b = in_joined w.sizes.servers (of_cell j) id i in
      (same_cell k a.0 j b.0 id (for_cell k a.0 id a.2) (for_cell j b.0 id b.2)).0)

  -- a stream among them whose call is for a cell is of that cell
  of_its_cell : (s v : ℕ) (id : StreamId) → IsIn ahead id → (x : ServerCall) → call_now w id ≡ Some x → IsAt x s v → IsIn (of_cell s v) id
  of_its_cell s v id h x n at =
      let a = of_ahead id h in
      let c = for_cell a.0 a.1 id a.4 in
      let e : c.call ≡ x = some_same c.call x (sym c.now ∙ n) in
      let s' : a.0 ≡ s = sym c.at.0 ∙ ap (λ (y : ServerCall). y.shard) e ∙ at.0 in
      let v' : a.1 ≡ v = sym c.at.1 ∙ ap (λ (y : ServerCall). y.server) e ∙ at.1 in
      subst (λ t. IsIn (of_cell t v) id) s' (subst (λ u. IsIn (of_cell a.0 u) id) v' a.4)

  are_ready : AreReady w ahead
  are_ready id h =
      let a = of_ahead id h in
      let c = for_cell a.0 a.1 id a.4 in
      let t = at_call_of w id c.call c.runs c.now in
      (t.0, c.call, ready kept calm t.1)

  made : IsMade setup w ahead (ahead_of ahead w)
  made = made_all setup ahead w reached calm.halted are_ready once_ahead

  cells_there : (s v : ℕ) → (with_effects (turned_round ahead) w).place.cells s v ≡ overlay w ahead w.place.cells s v
  cells_there s v = ap (λ (x : State). x.place.cells s v) (effects_turned ahead w) ∙ ap (λ (p : Place). p.cells s v) made.place

  -- the cell of a server that has its slots
  near_there : (s v : ℕ) → s < w.sizes.shards → v < w.sizes.servers → (n : IsNear s v) → ((id : StreamId) → IsIn (of_cell s v) id → IsIn (of_near s v n) id) → ((id : StreamId) → IsIn (of_near s v n) id → IsIn (of_cell s v) id) →
      ((f.servers v).slots s).cell ≡ cell_above base (overlay w ahead w.place.cells s v)
  unfolding of_near ahead of_shard AreElsewhere for_ahead of_order
  near_there s v ls lv (inl e) into from = e ∙ ap (cell_above base) (sym (overlay_elsewhere w w.place.cells s v ahead (λ id h x n at. into id (of_its_cell s v id h x n at))))
  near_there s v ls lv (inr a) into from =
      let o = of_order base w a.order.stream a.order a.present in
      let c = for_ahead s v a in
      let here : IsIn ahead a.order.stream = joined_in w.sizes.shards of_shard a.order.stream s ls (joined_in w.sizes.servers (of_cell s) a.order.stream v lv (from a.order.stream (inl refl))) in
      let is = overlay_there w w.place.cells s v ahead a.order.stream c.call once_ahead here c.now c.at (λ j k y n at. elim (into j (of_its_cell s v j k y n at)) [ inl q ↦ q | inr q ↦ absurd q ]) in
      let led : option_map (cell_above base) (led_to c.call.call (w.place.cells s v)) ≡ Some ((f.servers v).slots s).cell =
      sym (led_above base c.call.call (w.place.cells s v)) ∙ ap (λ (x : ServerCall). led_to x.call (cell_above base (w.place.cells s v))) (sym o.is) ∙ a.led in
      by_led (led_to c.call.call (w.place.cells s v)) led ∙ ap (cell_above base) (sym is)
    where
      by_led : (o : Option Cell) → option_map (cell_above base) o ≡ Some ((f.servers v).slots s).cell → ((f.servers v).slots s).cell ≡ cell_above base (cell_after (w.place.cells s v) o)
      by_led None e = absurd (cc)
      by_led (Some next) e = sym (some_same (cell_above base next) ((f.servers v).slots s).cell e)

  cell_there : (s v : ℕ) → s < w.sizes.shards → v < w.sizes.servers → has_lost f v ≡ false → ((f.servers v).slots s).cell ≡ cell_above base (overlay w ahead w.place.cells s v)
  unfolding of_cell of_server
  cell_there s v ls lv known = go (has_lost f v) refl refl known
    where
      go : (b : Bool) (e : has_lost f v ≡ b) → of_cell s v ≡ of_server s v b e → b ≡ false → ((f.servers v).slots s).cell ≡ cell_above base (overlay w ahead w.place.cells s v)
      go true e q k = absurd (cc)
      go false e q k = near_there s v ls lv (servers_are_near setup f r s v e) (λ id h. subst (λ l. IsIn l id) q h) (λ id h. subst (λ l. IsIn l id) (sym q) h)

  are_told : AreTold f
  are_told = record {
    ids = turned_round ahead;
    awaiting = record {
      apart = named_turned ahead once_ahead;
      awaiting = all_turned (λ id. is_awaiting w id ≡ true) ahead (λ id h.
          let a = of_ahead id h in
          let c = for_cell a.0 a.1 id a.4 in
          awaits_order w id c.call c.runs c.now);
    };
    cells = λ s v ls lv known. cell_there s v ls lv known ∙ ap (cell_above base) (sym (cells_there s v));
  }

-- what servers have is what the record says with some effects
pub effects_are_told : EachFleet EffectsAreTold
effects_are_told setup f r = are_told setup f r
