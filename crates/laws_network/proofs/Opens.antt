-- Once all have taken a settlement, it opens an epoch with a past.
use Rattle.std.proofs.Common.{◌≡◌, ◌≤◌, ◌<◌, ◌⊎◌, ℕ, suc, ◌+◌, refl, sym, ap, ◌∙◌, inl, inr, subst, arith, Bool, true, false, Option, Some, None, Result, Ok, Err, List, [], ◌∷◌, length}
use Rattle.std.specs.Prelude.{◌==◌, is_none, is_some, max, nat_lt, if◌then◌else◌, slice_get}
use Rattle.std.proofs.Math.Path.{fun_ext}
use Rattle.std.specs.List.{AllByRecursion}
use Rattle.std.proofs.lemmas.Bool.{cases_Bool, cases_lt, eqb-true, ltb-true}
use Rattle.sm_server.specs.declared.call.Cell.{Cell}
use Rattle.sm_server.specs.declared.call.Cell.TheVariants as cell
use Rattle.sm_server.specs.declared.call.Call.{Call}
use Rattle.sm_server.specs.declared.call.Refusal.{Refusal}
use Rattle.sm_server.specs.Call.{led_to, served}
use Rattle.sm_placement.specs.Setup.{Setup}
use Rattle.sm_protocol.specs.Laws.{MOST_PLACES}
use Rattle.laws_network.specs.Orders.{by_served}
use Rattle.laws_network.specs.Net.{Deliver, Delivery, Order, after_delivery, at_place, comes, delivered, delivery_of, real_delivery}
use Rattle.laws_network.specs.World.{Entry, Inner, Publication, World}
use Rattle.laws_network.specs.WorldLaws.{IsWorldOpening, IsWorldReached}
use Rattle.laws_network.specs.Laws.{IsNetOpening, IsOpening}
use Rattle.laws_network.specs.Reopening.{MapOwner, Party, Reopening, Server, Settlement, Settling}
use Rattle.laws_network.specs.ReopeningLaws.{AllTook, EachSettling, OpensWithPast, in_force}
use Rattle.laws_network.proofs.Bounds.{IsBounded, is_bounded}
use Rattle.laws_network.proofs.Coming.{delivery_leads, leads_from_none, put_over, world_next}
use Rattle.laws_network.proofs.Executing.{by_worlds}
use Rattle.laws_network.proofs.Lists.{all_at, all_map}
use Rattle.laws_network.proofs.Overlay.{put2-at}
use Rattle.laws_network.proofs.Raised.{none_is_refused, serves_where_up}
use Rattle.laws_network.proofs.Reopened.{IsHeld}
use Rattle.laws_network.proofs.Shown.{IsMapKept, IsMet, net_is_reached, reached_kept}
use Rattle.laws_network.proofs.Standing.{IsTaken, Last}

-- what holds of the element at each place holds of all
all_from : {A : Type 0} (P : A → Type 0) (xs : List A) → ((k : ℕ) (a : A) → slice_get xs k ≡ Some a → P a) → AllByRecursion P xs
all_from P [] f = tt
all_from P (x ∷ xs) f = (f 0 x refl, all_from P xs (λ k a e. f (suc k) a e))

-- an order with a number above the last one is served or refused
delivery_fresh : (c : Cell) (last number free load : ℕ) (x : Call) → last < number → (d : Delivery) → delivery_of c last number free load x ≡ d → ((next : Cell) × (d ≡ Delivery.Served next)) ⊎ ((why : Refusal) × (d ≡ Delivery.Refused why))
delivery_fresh c last number free load x above d e = by_lower (nat_lt number last) refl e
  where
    by_result : (r : Result Cell Refusal) → by_served r ≡ d → ((next : Cell) × (d ≡ Delivery.Served next)) ⊎ ((why : Refusal) × (d ≡ Delivery.Refused why))
    by_result (Ok a) e = inl (a, sym e)
    by_result (Err a) e = inr (a, sym e)

    by_same : (b : Bool) → (number == last) ≡ b → (if b then Delivery.Again else by_served (served c free load true x)) ≡ d → ((next : Cell) × (d ≡ Delivery.Served next)) ⊎ ((why : Refusal) × (d ≡ Delivery.Refused why))
    by_same true q e = absurd (let z = eqb-true number last q in omega arith)
    by_same false q e = by_result (served c free load true x) e

    by_lower : (b : Bool) → nat_lt number last ≡ b → (if b then Delivery.Old else if number == last then Delivery.Again else by_served (served c free load true x)) ≡ d →
        ((next : Cell) × (d ≡ Delivery.Served next)) ⊎ ((why : Refusal) × (d ≡ Delivery.Refused why))
    by_lower true q e = absurd (let z = ltb-true number last q in omega arith)
    by_lower false q e = by_same (number == last) refl e

module _ (setup : Setup) (w : World) (first since : ℕ) (l : Option Last) (x0 : Settling) (C : ℕ → ℕ → Cell) (L : ℕ → ℕ → ℕ) (S : ℕ → Entry) (h : IsHeld setup w first since l (record x0 { world = put_over w C L S })) where
  abbrev x : Settling
  x = record x0 { world = put_over w C L S }

  abbrev r : Reopening
  r = x0.reopening

  bounded : IsBounded w.net
  bounded = is_bounded setup w.net (net_is_reached setup w h.reached)

  map_kept : IsMapKept setup w
  map_kept = reached_kept setup w h.reached

  -- an order to a server that is recorded as down, or that nothing is recorded of, has no higher number than the last one there
  old_at : (k : ℕ) (o : Order) → slice_get w.net.sent k ≡ Some o → (w.net.w.place.down o.call.server ≡ true) ⊎ (w.net.w.sizes.servers ≤ o.call.server) → o.number ≤ w.net.last o.call.shard o.call.server
  old_at k o got out = elim (cases_lt (w.net.last o.call.shard o.call.server) o.number) [
    | inr b ↦ b
    | inl b ↦ absurd (elim (delivery_fresh (w.net.cells o.call.shard o.call.server) (w.net.last o.call.shard o.call.server) o.number _ _ o.call.call b (real_delivery w.net o) refl) [
      | inl d ↦ served_not d.0 d.1
      | inr d ↦ (none_is_refused setup w.net (net_is_reached setup w h.reached) (Deliver k) tt).0 d.0 (comes_is (real_delivery w.net o) refl ∙ ap (λ q. (after_delivery w.net o q).0) d.1)
    ])
  ]
    where
      comes_is : (d : Delivery) → real_delivery w.net o ≡ d → (comes w.net (Deliver k)).0 ≡ (after_delivery w.net o d).0
      comes_is d e = ap (λ q. (at_place w.net delivered q).0) got ∙ ap (λ q. (after_delivery w.net o q).0) e

      served_not : (next : Cell) → real_delivery w.net o ≡ Delivery.Served next → ⊥
      served_not next e = elim out [
        | inl d ↦ absurd (let z = serves_where_up setup w.net (net_is_reached setup w h.reached) (Deliver k) o (comes_is (Delivery.Served next) e) in cc)
        | inr b ↦ (
            let reached = subst (IsWorldReached setup) (ap (λ q. let z : World = record w { net = (at_place w.net delivered q).1 } in z) got ∙ ap (λ q. let z : World = record w { net = (after_delivery w.net o q).1 } in z) e)
            (world_next setup w (Inner (Deliver k)) h.reached tt) in
            let there = (is_bounded setup (after_delivery w.net o (Delivery.Served next)).1 (net_is_reached setup (record w { net = (after_delivery w.net o (Delivery.Served next)).1 }) reached)).no_server o.call.shard o.call.server b in
            let is : next ≡ cell.Absent = sym (put2-at w.net.cells o.call.shard o.call.server next o.call.shard o.call.server refl refl) ∙ there in
            let led = delivery_leads (w.net.cells o.call.shard o.call.server) (w.net.last o.call.shard o.call.server) o.number _ _ o.call.call next e in
            leads_from_none o.call.call next (ap (λ c. led_to o.call.call c) (sym (bounded.no_server o.call.shard o.call.server b)) ∙ led) is
            )
      ]

  module _ (s : Settlement) (set : r.settlement ≡ Some s) (all : AllTook r) where
    -- what was confirmed last
    abbrev pub now : Last
    now = record { base = r.base; settlement = s; nonces = (h.controller.confirmed s set).0 }

    -- it is this settlement
    pub last_is : l ≡ Some now
    last_is = (h.controller.confirmed s set).1

    is_set : is_some r.settlement ≡ true
    is_set = ap is_some set

    -- it is an opening
    pub opening : IsOpening s.setup s.place s.room
    opening = h.controller.opening now last_is

    -- ---- the parties

    -- who was sent it has taken it
    pub taken : (p : Party) → is_some (r.told p) ≡ true → IsTaken l r p (x.bases p)
    taken (Server v) t = (h.servers v).taken (all (Server v) t)
    taken MapOwner t = h.owner.taken (all MapOwner t)

    -- a server that has its slots has the cells that were settled
    pub cells_settled : (k v : ℕ) → (x.bases (Server v)).nonce ≡ None → C k v ≡ s.place.cells k v
    cells_settled k v q = by_fence (x.bases (Server v)).fenced refl
      where
        untold : (p : Bool) → r.promised v ≡ p → is_some (r.told (Server v)) ≡ false → C k v ≡ s.place.cells k v
        untold false p t = (((h.servers v).untouched p q).along now last_is).same k
        untold true p t = elim (h.controller.kept_promises is_set v p) [
          | inl y ↦ absurd (cc)
          | inr y ↦ absurd ((h.servers v).lost y q)
        ]

        by_fence : (b : Bool) → (x.bases (Server v)).fenced ≡ b → C k v ≡ s.place.cells k v
        by_fence false e = ((h.servers v).partly now last_is q).settled e k
        by_fence true e = elim (cases_Bool (is_some (r.told (Server v)))) [
          | inl t ↦ absurd (let z = ((taken (Server v) t).at q).0 in cc)
          | inr t ↦ untold (r.promised v) refl t
        ]

    owner_stands : ((x.bases MapOwner).fenced ≡ false) × ((x.bases MapOwner).number ≡ r.base)
    owner_stands = (taken MapOwner (h.controller.told_map is_set)).at h.owner.known

    shown_settled : (k : ℕ) → S k ≡ record { server = s.place.listed k; version = r.base }
    shown_settled k = (h.shown.last now last_is owner_stands.0).0 k

    -- ---- numbers

    ends_below : w.net.base + length w.net.w.log + 1 ≤ r.base
    ends_below = let a = h.controller.places in let b = bounded.log in omega arith

    -- an order to a server that has its slots has a number at or below its last one there, or its base
    order_old : (k : ℕ) (o : Order) → slice_get w.net.sent k ≡ Some o → (x.bases (Server o.call.server)).nonce ≡ None → o.number ≤ max (L o.call.shard o.call.server) (x.bases (Server o.call.server)).number
    order_old k o got q = by_promise (r.promised o.call.server) refl
      where
        by_promise : (p : Bool) → r.promised o.call.server ≡ p → o.number ≤ max (L o.call.shard o.call.server) (x.bases (Server o.call.server)).number
        by_promise true p =
            let a = ((h.servers o.call.server).touched p).above q in
            let b = all_at (λ y. y.number ≤ w.net.base + length w.net.w.log + 1) w.net.sent k o bounded.sent got in
            let c = bounded.log in
            omega arith
        by_promise false p =
            let u = (h.servers o.call.server).untouched p q in
            let a = old_at k o got (u.along now last_is).out in
            elim (u.lasts o.call.shard) [ inl y ↦ omega arith | inr y ↦ (let b = y.1 in omega arith) ]

    answer_old : (o : Order) → (o.number ≤ w.net.base + length w.net.w.log + 1) × (o.number ≤ w.net.last o.call.shard o.call.server) → (x.bases (Server o.call.server)).nonce ≡ None →
        o.number ≤ max (L o.call.shard o.call.server) (x.bases (Server o.call.server)).number
    answer_old o a q = by_promise (r.promised o.call.server) refl
      where
        by_promise : (p : Bool) → r.promised o.call.server ≡ p → o.number ≤ max (L o.call.shard o.call.server) (x.bases (Server o.call.server)).number
        by_promise true p = let b = ((h.servers o.call.server).touched p).above q in let c = a.0 in let d = bounded.log in omega arith
        by_promise false p = elim (((h.servers o.call.server).untouched p q).lasts o.call.shard) [
          | inl y ↦ (let c = a.1 in omega arith)
          | inr y ↦ (let b = y.1 in let c = a.1 in omega arith)
        ]

    abbrev has : ℕ → Bool
    has v = is_none (x.bases (Server v)).nonce

    -- the last numbers that count
    last_of : (k v number : ℕ) → number ≤ r.base → ((x.bases (Server v)).nonce ≡ None → number ≤ max (L k v) (x.bases (Server v)).number) →
        number ≤ (if has v then max (L k v) (x.bases (Server v)).number else r.base)
    last_of k v number low known = go (x.bases (Server v)).nonce refl
      where
        go : (q : Option ℕ) → (x.bases (Server v)).nonce ≡ q → number ≤ (if has v then max (L k v) (x.bases (Server v)).number else r.base)
        go None q = subst (λ (b : Bool). number ≤ (if b then max (L k v) (x.bases (Server v)).number else r.base)) (sym (ap is_none q)) (known q)
        go (Some n) q = subst (λ (b : Bool). number ≤ (if b then max (L k v) (x.bases (Server v)).number else r.base)) (sym (ap is_none q)) low

    last_low : (k v : ℕ) → (if has v then max (L k v) (x.bases (Server v)).number else r.base) ≤ r.base
    last_low k v = go (has v)
      where
        go : (b : Bool) → (if b then max (L k v) (x.bases (Server v)).number else r.base) ≤ r.base
        go true = let a = (h.servers v).lasts k in let b = (h.servers v).number in omega arith
        go false = omega arith

    pub cells_open : (k v : ℕ) → (if has v then C k v else s.place.cells k v) ≡ s.place.cells k v
    cells_open k v = go (x.bases (Server v)).nonce refl
      where
        go : (q : Option ℕ) → (x.bases (Server v)).nonce ≡ q → (if has v then C k v else s.place.cells k v) ≡ s.place.cells k v
        go None q = ap (λ (b : Bool). if b then C k v else s.place.cells k v) (ap is_none q) ∙ cells_settled k v q
        go (Some n) q = ap (λ (b : Bool). if b then C k v else s.place.cells k v) (ap is_none q)

    -- ---- the opening

    net_opens : IsNetOpening s.setup (in_force x s).net
    net_opens = record {
      place = s.place;
      room = s.room;
      opening = opening;
      w = refl;
      cells = fun_ext (λ k. fun_ext (λ v. cells_open k v));
      lasts = last_low;
      sent = all_from (λ o. o.number ≤ (in_force x s).net.last o.call.shard o.call.server) w.net.sent (λ k o got.
          last_of o.call.shard o.call.server o.number
          (let a = all_at (λ y. y.number ≤ w.net.base + length w.net.w.log + 1) w.net.sent k o bounded.sent got in let b = ends_below in omega arith)
          (order_old k o got));
      answers = all_map (λ o. (o.number ≤ w.net.base + length w.net.w.log + 1) × (o.number ≤ w.net.last o.call.shard o.call.server)) (λ o. o.number ≤ (in_force x s).net.last o.call.shard o.call.server) w.net.answers
          (λ o a. last_of o.call.shard o.call.server o.number (let b = a.0 in let c = ends_below in omega arith) (answer_old o a)) bounded.answers;
      passes = all_map (λ t. t.number ≤ w.net.base + MOST_PLACES) (λ t. t.number ≤ r.base) w.net.passes (λ t a. let b = h.controller.places in omega arith) bounded.passes;
    }

    version_is : (k : ℕ) → (S k).version ≡ r.base
    version_is k = ap (λ (z : Entry). z.version) (shown_settled k)

    stale : (p : Publication) → p.entry.version ≤ w.net.base + suc (w.net.w.place.version p.shard) → p.entry.version ≤ (S p.shard).version
    stale p a = let b = version_is p.shard in let c = h.controller.versions p.shard in omega arith

    was_low : (k : ℕ) → (w.shown k).version ≤ w.net.base + suc (w.net.w.place.version k)
    was_low k = elim (map_kept.entries k) [
      | inl a ↦ (let b = a.version in omega arith)
      | inr a ↦ (let b = a.version in omega arith)
    ]

    -- it opens an epoch with a past
    pub world_opens : IsWorldOpening s.setup (in_force x s)
    world_opens = record {
      net = net_opens;
      servers = λ k. ap (λ (z : Entry). z.server) (shown_settled k);
      versions = λ k. let a = version_is k in omega arith;
      published = all_map (IsMet w) (λ p. p.entry.version ≤ (S p.shard).version) w.published (λ p a. stale p (elim a [
        | inl b ↦ (let c = b.version in omega arith)
        | inr b ↦ (let c = b.recorded in omega arith)
      ])) map_kept.published;
      stored = all_map (λ p. p.entry.version ≤ (w.shown p.shard).version) (λ p. p.entry.version ≤ (S p.shard).version) w.stored (λ p a. stale p (let b = was_low p.shard in omega arith)) map_kept.stored;
    }

  opens : OpensWithPast x
  opens s set all = (cells_settled s set all, world_opens s set all)

-- what was settled opens an epoch with a past
pub opens_with_past : EachSettling OpensWithPast
opens_with_past = by_worlds OpensWithPast opens
