-- Orders, publications and requests of the epoch before come while a reopening is under way: they do what they do in the network's own world, or nothing.
use Rattle.std.proofs.Common.{◌≡◌, ◌≢◌, ◌≤◌, ◌<◌, ℕ, suc, ◌+◌, refl, sym, ap, ◌∙◌, inl, inr, subst, arith, append-nil, not, Bool, true, false, Option, Some, None, Result, Ok, Err, List, [], ◌∷◌, ◌++◌, length}
use Rattle.std.specs.Prelude.{◌-◌, ◌==◌, ◌&&◌, is_none, nat_lt, if◌then◌else◌, slice_get}
use Rattle.std.proofs.Math.Path.{fun_ext}
use Rattle.std.specs.Option.{option_to_list}
use Rattle.std.proofs.lemmas.Bool.{and_parts, cases_Bool, cases_eq, ltb-true, not-true, le-ltb, ne_eqb, cases_lt}
use Rattle.sm_server.specs.declared.call.Cell.{Cell}
use Rattle.sm_server.specs.declared.call.Cell.TheVariants as cell
use Rattle.sm_server.specs.declared.call.Call.{Call}
use Rattle.sm_server.specs.declared.call.Call.TheVariants as call
use Rattle.sm_server.specs.declared.call.Role.TheVariants as role
use Rattle.sm_server.specs.declared.call.Refusal.{Refusal}
use Rattle.sm_server.specs.Call.{led_to, served}
use Rattle.sm_placement.specs.Setup.{Setup, Sizes, sizes_of}
use Rattle.sm_placement.specs.Sums.{put, put2}
use Rattle.sm_placement.specs.Place.{load_of}
use Rattle.sm_placement.proofs.Calls.{served_ok}
use Rattle.sm_placement.proofs.Sums.{put-apart, put-here}
use Rattle.sm_verifier.proofs.OnePlace.{put2_cases}
use Rattle.laws_network.specs.Orders.{by_served, newer}
use Rattle.laws_network.specs.Net.{Answer, Ask, Control, Deliver, Delivery, Order, Pass, Quiet, Send, Ticket, after_delivery, at_place, delivered, delivery_of, pass_by, passed, real_delivery, replied}
use Rattle.sm_protocol.specs.Happens.{answer_by}
use Rattle.laws_network.specs.World.{Entry, Inner, Propose, Publication, Store, Stored, World, WorldEvent, by_place, kept_by, within, world_comes, world_run}
use Rattle.laws_network.specs.WorldLaws.{IsWorldReached, WorldFits}
use Rattle.laws_network.specs.Reopening.{Comes, MapOwner, Message, Server, Settling, in_world, is_handing, settling_comes, takes, takes_number, takes_request}
use Rattle.laws_network.proofs.Bounds.{IsBounded, is_bounded}
use Rattle.laws_network.proofs.Fair.{IsSettledCell, settled_cell}
use Rattle.laws_network.proofs.Lists.{all_append, all_at, all_map}
use Rattle.laws_network.proofs.Overlay.{put2-at, put2-other}
use Rattle.laws_network.specs.ReopeningLaws.{IsWithinRoom}
use Rattle.laws_network.proofs.Raised.{real_is_safe, serves_where_up}
use Rattle.laws_network.proofs.Shown.{IsMet, net_is_reached, reached_kept}
use Rattle.laws_network.proofs.Standing.{Frame, IsGood, IsServerHeld, Last, Standing, addressee, good_served, server_served, IsAsHigh}
use Rattle.laws_network.proofs.Recorded.{none_where}
use Rattle.laws_network.proofs.Reopened.{IsHeld, frame, standing}

-- what is reached leads on
world_append : (es fs : List WorldEvent) (x : World) → world_run (es ++ fs) x ≡ world_run fs (world_run es x)
world_append [] fs x = refl
world_append (e ∷ es) fs x = world_append es fs (world_comes x e).1

-- an event leads from what is reached to what is reached
pub world_next : (setup : Setup) (w : World) (e : WorldEvent) → IsWorldReached setup w → WorldFits (sizes_of setup) e → IsWorldReached setup (world_comes w e).1
world_next setup w e r fits = record {
  start = r.start;
  opening = r.opening;
  events = r.events ++ e ∷ [];
  fit = all_append (WorldFits (sizes_of setup)) r.events (e ∷ []) r.fit (fits, tt);
  state = ap (λ y. (world_comes y e).1) r.state ∙ sym (world_append r.events (e ∷ []) r.start);
}

-- what is put at a cell is the same where it was the same
put2_same : {A : Type 0} (f g : ℕ → ℕ → A) (s v : ℕ) (a : A) (r u : ℕ) → f r u ≡ g r u → put2 f s v a r u ≡ put2 g s v a r u
put2_same f g s v a r u e = elim (put2_cases f s v a r u) [
  | inl h ↦ h.2 ∙ sym (put2-at g s v a r u h.0 h.1)
  | inr h ↦ h.1 ∙ e ∙ sym (put2-other g s v a r u h.0)
]

put2_high : (f g : ℕ → ℕ → ℕ) (s v a number r u : ℕ) → IsAsHigh number (f r u) (g r u) → IsAsHigh number (put2 f s v a r u) (put2 g s v a r u)
put2_high f g s v a number r u e = elim (put2_cases f s v a r u) [
  | inl h ↦ inl (h.2 ∙ sym (put2-at g s v a r u h.0 h.1))
  | inr h ↦ (
      let q = put2-other g s v a r u h.0 in
      let p = h.1 in
      elim e [ inl b ↦ inl (p ∙ b ∙ sym q) | inr b ↦ inr ((let c = b.0 in omega arith), (let c = b.1 in omega arith)) ]
      )
]

put2_low : (f : ℕ → ℕ → ℕ) (s v a r u k : ℕ) → f r u ≤ k → a ≤ k → put2 f s v a r u ≤ k
put2_low f s v a r u k h i = elim (put2_cases f s v a r u) [
  | inl e ↦ (let z = e.2 in omega arith)
  | inr e ↦ (let z = e.1 in omega arith)
]

-- an order above the last number is not an old one
delivery_above : (c : Cell) (last number free load : ℕ) (x : Call) → last < number → delivery_of c last number free load x ≡ by_served (served c free load true x)
delivery_above c last number free load x above =
    ap (λ b. if b then Delivery.Old else if number == last then Delivery.Again else by_served (served c free load true x)) (le-ltb number last (omega arith))
    ∙ ap (λ b. if b then Delivery.Again else by_served (served c free load true x)) (ne_eqb number last (λ e. absurd (omega arith)))

-- and what becomes of one above a base is the same under last numbers that are the same there
delivery_as : (c : Cell) (last was base number free load : ℕ) (x : Call) → base < number → IsAsHigh base last was → delivery_of c last number free load x ≡ delivery_of c was number free load x
delivery_as c last was base number free load x above (inl e) = ap (λ n. delivery_of c n number free load x) e
delivery_as c last was base number free load x above (inr e) =
    delivery_above c last number free load x (let a = e.0 in omega arith) ∙ sym (delivery_above c was number free load x (let a = e.1 in omega arith))

-- an order that is served leads somewhere
pub delivery_leads : (c : Cell) (last number free load : ℕ) (x : Call) (next : Cell) → delivery_of c last number free load x ≡ Delivery.Served next → led_to x c ≡ Some next
delivery_leads c last number free load x next e = by_lower (nat_lt number last) e
  where
    by_result : (r : Result Cell Refusal) → served c free load true x ≡ r → by_served r ≡ Delivery.Served next → led_to x c ≡ Some next
    by_result (Ok a) q e = (served_ok c free load true x next (q ∙ ap Ok (cc))).1
    by_result (Err a) q e = absurd (cc)

    by_same : (b : Bool) → (if b then Delivery.Again else by_served (served c free load true x)) ≡ Delivery.Served next → led_to x c ≡ Some next
    by_same true e = absurd (cc)
    by_same false e = by_result (served c free load true x) refl e

    by_lower : (b : Bool) → (if b then Delivery.Old else if number == last then Delivery.Again else by_served (served c free load true x)) ≡ Delivery.Served next → led_to x c ≡ Some next
    by_lower true e = absurd (cc)
    by_lower false e = by_same (number == last) e

-- and leaves something if there was nothing
pub leads_from_none : (x : Call) (next : Cell) → led_to x cell.Absent ≡ Some next → next ≢ cell.Absent
leads_from_none (call.Add role.Primary) next e z = absurd (cc)
leads_from_none (call.Add role.Secondary) next e z = absurd (cc)
leads_from_none call.Drop next e z = absurd (cc)
leads_from_none (call.Change role.Primary role.Primary) next e z = absurd (cc)
leads_from_none (call.Change role.Primary role.Secondary) next e z = absurd (cc)
leads_from_none (call.Change role.Secondary role.Primary) next e z = absurd (cc)
leads_from_none (call.Change role.Secondary role.Secondary) next e z = absurd (cc)
leads_from_none (call.PrepareAdd a n) next e z = absurd (cc)
leads_from_none (call.PrepareDrop a n) next e z = absurd (cc)

-- no server passes a request on but one that forwards
no_pass : (s v : ℕ) (sent : Option Ticket) (c : Cell) → is_handing c ≡ false → pass_by s v (answer_by c v sent 0) ≡ None
no_pass s v sent cell.Absent h = refl
no_pass s v sent cell.Secondary h = refl
no_pass s v sent cell.Primary h = refl
no_pass s v sent (cell.Prepared a n) h = absurd (cc)
no_pass s v sent (cell.Forwarding a n) h = absurd (cc)

pub settled_rests : (c : Cell) → IsSettledCell c → is_handing c ≡ false
settled_rests cell.Absent s = refl
settled_rests cell.Secondary s = refl
settled_rests cell.Primary s = refl
settled_rests (cell.Prepared a n) (inl p) = absurd p
settled_rests (cell.Prepared a n) (inr e) = absurd (cc)
settled_rests (cell.Forwarding a n) (inl p) = absurd p
settled_rests (cell.Forwarding a n) (inr e) = absurd (cc)

-- the world with these slots and this map
abbrev pub put_over : World → (ℕ → ℕ → Cell) → (ℕ → ℕ → ℕ) → (ℕ → Entry) → World
put_over w cells last shown = record w { net = record w.net { cells = cells; last = last }; shown = shown }

module _ (setup : Setup) (w : World) (first since : ℕ) (l : Option Last) (x0 : Settling) (C : ℕ → ℕ → Cell) (L : ℕ → ℕ → ℕ) (S : ℕ → Entry) (h : IsHeld setup w first since l (record x0 { world = put_over w C L S })) where
  abbrev x : Settling
  x = record x0 { world = put_over w C L S }

  abbrev f : Frame
  f = frame w first since l x

  -- it holds there of some world
  abbrev Goes : World → Type 0
  Goes z = (u : World) × IsHeld setup u first since l (record x0 { world = z })

  bounded : IsBounded w.net
  bounded = is_bounded setup w.net (net_is_reached setup w h.reached)

  -- only messages of the epoch before were sent, and the map is shown as it is there
  moved : (a : List Order) (p : List Ticket) (t : List Publication) (now was : ℕ → Entry) → IsWorldReached setup (record w { net = record w.net { answers = a; passes = p }; stored = t; shown = was }) →
      (l ≡ None → (s : ℕ) → now s ≡ was s) → ((k : Last) → l ≡ Some k → (s : ℕ) → now s ≡ S s) →
      Goes (put_over (record w { net = record w.net { answers = a; passes = p }; stored = t; shown = was }) C L now)
  moved a p t now was r none some = (
    record w { net = record w.net { answers = a; passes = p }; stored = t; shown = was },
    record {
      reached = r;
      over = refl;
      controller = h.controller;
      servers = h.servers;
      owner = h.owner;
      shown = record { first = none; last = λ k e q. let z = h.shown.last k e q in ((λ s. some k e s ∙ z.0 s), z.1) };
      messages = h.messages;
    },
  )

  -- ---- an order comes

  module _ (k : ℕ) (o : Order) (got : slice_get w.net.sent k ≡ Some o) (taken : takes_number (x.bases (Server o.call.server)) o.number ≡ true) where
    abbrev s : ℕ
    s = o.call.shard

    abbrev v : ℕ
    v = o.call.server

    parts : (is_none (x.bases (Server v)).nonce ≡ true) × ((not (x.bases (Server v)).fenced && nat_lt (x.bases (Server v)).number o.number) ≡ true)
    parts = and_parts (is_none (x.bases (Server v)).nonce) (not (x.bases (Server v)).fenced && nat_lt (x.bases (Server v)).number o.number) taken

    known : (x.bases (Server v)).nonce ≡ None
    known = none_where (x.bases (Server v)).nonce parts.0

    free : (x.bases (Server v)).fenced ≡ false
    free = not-true (x.bases (Server v)).fenced (and_parts (not (x.bases (Server v)).fenced) (nat_lt (x.bases (Server v)).number o.number) parts.1).0

    above : (x.bases (Server v)).number < o.number
    above = ltb-true (x.bases (Server v)).number o.number (and_parts (not (x.bases (Server v)).fenced) (nat_lt (x.bases (Server v)).number o.number) parts.1).1

    low : o.number ≤ w.net.base + length w.net.w.log + 1
    low = all_at (λ y. y.number ≤ w.net.base + length w.net.w.log + 1) w.net.sent k o bounded.sent got

    unpromised : x.reopening.promised v ≡ false
    unpromised = elim (cases_Bool (x.reopening.promised v)) [
      | inl y ↦ absurd (let a = ((h.servers v).touched y).above known in let b = above in let c = low in let d = h.controller.log in omega arith)
      | inr n ↦ n
    ]

    same_cells : (r : ℕ) → C r v ≡ w.net.cells r v
    same_cells = ((h.servers v).untouched unpromised known).cells

    high : (r : ℕ) → IsAsHigh (x.bases (Server v)).number (L r v) (w.net.last r v)
    high = ((h.servers v).untouched unpromised known).lasts

    -- it is judged as it is there
    pub same_delivery : real_delivery x.world.net o ≡ real_delivery w.net o
    same_delivery =
        ap (λ c. delivery_of c (L s v) o.number (w.net.w.sizes.room v - load_of w.net.w.sizes C v) (w.net.w.sizes.load s) o.call.call) (same_cells s)
        ∙ delivery_as (w.net.cells s v) (L s v) (w.net.last s v) (x.bases (Server v)).number o.number (w.net.w.sizes.room v - load_of w.net.w.sizes C v) (w.net.w.sizes.load s) o.call.call above (high s)
        ∙ ap (λ (d : ℕ → Cell). delivery_of (w.net.cells s v) (w.net.last s v) o.number (w.net.w.sizes.room v - load_of w.net.w.sizes (λ r u. d r) v) (w.net.w.sizes.load s) o.call.call) (fun_ext same_cells)

    reached_by : (d : Delivery) → real_delivery w.net o ≡ d → IsWorldReached setup (record w { net = (after_delivery w.net o d).1 })
    reached_by d e = subst (IsWorldReached setup) (ap (λ q. let z : World = record w { net = (at_place w.net delivered q).1 } in z) got ∙ ap (λ q. let z : World = record w { net = (after_delivery w.net o q).1 } in z) e)
        (world_next setup w (Inner (Deliver k)) h.reached tt)

    -- an order is served by a server that is recorded, and as up
    up : (next : Cell) → real_delivery w.net o ≡ Delivery.Served next → w.net.w.place.down v ≡ false
    up next e = serves_where_up setup w.net (net_is_reached setup w h.reached) (Deliver k) o (ap (λ q. (at_place w.net delivered q).0) got ∙ ap (λ q. (after_delivery w.net o q).0) e)

    inside : (next : Cell) → real_delivery w.net o ≡ Delivery.Served next → w.net.w.sizes.servers ≤ v → ⊥
    inside next e b =
        let there = (is_bounded setup (after_delivery w.net o (Delivery.Served next)).1 (net_is_reached setup (record w { net = (after_delivery w.net o (Delivery.Served next)).1 }) (reached_by (Delivery.Served next) e))).no_server s v b in
        let is : next ≡ cell.Absent = sym (put2-at w.net.cells s v next s v refl refl) ∙ there in
        let led = delivery_leads (w.net.cells s v) (w.net.last s v) o.number (w.net.w.sizes.room v - load_of w.net.w.sizes w.net.cells v) (w.net.w.sizes.load s) o.call.call next e in
        leads_from_none o.call.call next (ap (λ c. led_to o.call.call c) (sym (bounded.no_server s v b)) ∙ led) is

    -- and only if nothing was confirmed
    none_confirmed : (next : Cell) → real_delivery w.net o ≡ Delivery.Served next → l ≡ None
    none_confirmed next e = go l refl
      where
        go : (q : Option Last) → l ≡ q → l ≡ None
        go None q = q
        go (Some z) q = elim (((h.servers v).untouched unpromised known).along z q).out [
          | inl d ↦ absurd (let b = up next e in cc)
          | inr b ↦ absurd (inside next e b)
        ]

    abbrev Y : World
    Y = put_over w C L S

    -- it is served as it is there
    module _ (next : Cell) (e : real_delivery w.net o ≡ Delivery.Served next) where
      abbrev w2 : World
      w2 = record w { net = (after_delivery w.net o (Delivery.Served next)).1 }

      abbrev x2 : Settling
      x2 = record x0 { world = record Y { net = (after_delivery Y.net o (Delivery.Served next)).1 } }

      cells_same : (r : ℕ) → put2 C s v next r v ≡ put2 w.net.cells s v next r v
      cells_same r = put2_same C w.net.cells s v next r v (same_cells r)

      lasts_same : (r : ℕ) → IsAsHigh (x0.bases (Server v)).number (put2 L s v o.number r v) (put2 w.net.last s v o.number r v)
      lasts_same r = put2_high L w.net.last s v o.number (x0.bases (Server v)).number r v (high r)

      lasts_low : (r : ℕ) → put2 L s v o.number r v ≤ x0.reopening.base
      lasts_low r = put2_low L s v o.number r v x0.reopening.base ((h.servers v).lasts r) (let a = low in let b = h.controller.places in let c = h.controller.log in omega arith)

      -- its load is within its room as it is there
      fits : IsWithinRoom (x0.sizes v) (λ r u. put2 C s v next r v) v
      fits b = elim (cases_lt v w.net.w.sizes.servers) [
        | inr q ↦ absurd (inside next e q)
        | inl q ↦ (
            let sizes = ((h.servers v).untouched unpromised known).sizes (up next e) q in
            let room = (real_is_safe setup w2.net (net_is_reached setup w2 (reached_by (Delivery.Served next) e))).rooms v q in
            subst (λ (c : Sizes). load_of c (λ r u. put2 C s v next r v) v ≤ c.room v) (sym sizes)
            (subst (λ (d : ℕ → Cell). load_of w.net.w.sizes (λ r u. d r) v ≤ w.net.w.sizes.room v) (sym (fun_ext cells_same)) room)
            )
      ]

      abbrev build : ℕ → (ℕ → Cell) → (ℕ → ℕ) → (ℕ → Cell) → (ℕ → ℕ) → Standing
      build u cells last was was_last = record { base = x0.bases (Server u); cells = cells; last = last; sizes = x0.sizes u; was = was; was_last = was_last }

      else_same : {A : Type 0} (g : ℕ → ℕ → A) (a : A) (u : ℕ) → u ≢ v → ◌≡◌ {A = ℕ → A} (λ r. put2 g s v a r u) (λ r. g r u)
      else_same g a u n = fun_ext (λ r. put2-other g s v a r u (λ q. n q.1))

      there : (u : ℕ) → u ≢ v → standing w2 x2 u ≡ standing w x u
      there u n =
          ap (λ c. build u c (λ r. put2 L s v o.number r u) (λ r. put2 w.net.cells s v next r u) (λ r. put2 w.net.last s v o.number r u)) (else_same C next u n)
          ∙ ap (λ c. build u (λ r. C r u) c (λ r. put2 w.net.cells s v next r u) (λ r. put2 w.net.last s v o.number r u)) (else_same L o.number u n)
          ∙ ap (λ c. build u (λ r. C r u) (λ r. L r u) c (λ r. put2 w.net.last s v o.number r u)) (else_same w.net.cells next u n)
          ∙ ap (λ c. build u (λ r. C r u) (λ r. L r u) (λ r. w.net.cells r u) c) (else_same w.net.last o.number u n)

      here : IsServerHeld f v (standing w2 x2 v)
      here = server_served f v (standing w x v) (h.servers v) known free unpromised (none_confirmed next e) (λ r. put2 C s v next r v) (λ r. put2 w.net.cells s v next r v)
          (λ r. put2 L s v o.number r v) (λ r. put2 w.net.last s v o.number r v) cells_same lasts_same lasts_low fits

      good_here : (m : Message) → IsGood f (standing w x v) (x.bases MapOwner) x.messages m → IsGood f (standing w2 x2 v) (x.bases MapOwner) x.messages m
      good_here m g = good_served f v (standing w x v) (x.bases MapOwner) x.messages (h.servers v) known free unpromised (none_confirmed next e) (λ r. put2 C s v next r v) (λ r. put2 w.net.cells s v next r v)
          (λ r. put2 L s v o.number r v) (λ r. put2 w.net.last s v o.number r v) cells_same lasts_same lasts_low fits m g

      served_held : IsHeld setup w2 first since l x2
      served_held = record {
        reached = reached_by (Delivery.Served next) e;
        over = refl;
        controller = h.controller;
        servers = λ u. elim (cases_eq u v) [
          | inl q ↦ subst (λ a. IsServerHeld f a (standing w2 x2 a)) (sym q) here
          | inr q ↦ subst (IsServerHeld f u) (sym (there u q)) (h.servers u)
        ];
        owner = h.owner;
        shown = record { first = h.shown.first; last = h.shown.last };
        messages = all_map (λ m. IsGood f (standing w x (addressee m)) (x.bases MapOwner) x.messages m) (λ m. IsGood f (standing w2 x2 (addressee m)) (x.bases MapOwner) x.messages m) x.messages
            (λ m g. elim (cases_eq (addressee m) v) [
              | inl q ↦ subst (λ a. IsGood f (standing w2 x2 a) (x.bases MapOwner) x.messages m) (sym q) (good_here m (subst (λ a. IsGood f (standing w x a) (x.bases MapOwner) x.messages m) q g))
              | inr q ↦ subst (λ y. IsGood f y (x.bases MapOwner) x.messages m) (sym (there (addressee m) q)) g
            ]) h.messages;
      }

    order_comes : (d : Delivery) → real_delivery w.net o ≡ d → Goes (record Y { net = (after_delivery Y.net o d).1 })
    order_comes Delivery.Old e = (w, h)
    order_comes Delivery.Again e = moved (w.net.answers ++ o ∷ []) w.net.passes w.stored S w.shown (reached_by Delivery.Again e) h.shown.first (λ z q r. refl)
    order_comes (Delivery.Refused why) e = (w, h)
    order_comes (Delivery.Served next) e = (record w { net = (after_delivery w.net o (Delivery.Served next)).1 }, served_held next e)

    pub order_held : Goes (within Y (delivered Y.net o)).1
    order_held = subst (λ d. Goes (record Y { net = (after_delivery Y.net o d).1 })) (sym same_delivery) (order_comes (real_delivery w.net o) refl)

  -- ---- a request comes

  module _ (s v : ℕ) (taken : takes_request x s v ≡ true) where
    -- a server that replies has its slots
    pub knows : (x.bases (Server v)).nonce ≡ None
    knows = none_where (x.bases (Server v)).nonce (and_parts (is_none (x.bases (Server v)).nonce) (not ((x.bases (Server v)).fenced && is_handing (C s v))) taken).0

    -- and is not fenced in a handover
    pub acts : ((x.bases (Server v)).fenced && is_handing (C s v)) ≡ false
    acts = not-true ((x.bases (Server v)).fenced && is_handing (C s v)) (and_parts (is_none (x.bases (Server v)).nonce) (not ((x.bases (Server v)).fenced && is_handing (C s v))) taken).1

    -- once something was confirmed, a server that replies has no part in a handover
    pub rests : (k : Last) → l ≡ Some k → is_handing (C s v) ≡ false
    rests k e = go (x.bases (Server v)).fenced refl acts
      where
        go : (b : Bool) → (x.bases (Server v)).fenced ≡ b → (b && is_handing (C s v)) ≡ false → is_handing (C s v) ≡ false
        go true q a = a
        go false q a = ap is_handing (((h.servers v).partly k e knows).settled q s)
            ∙ settled_rests (k.settlement.place.cells s v) (let o = h.controller.opening k e in settled_cell k.settlement.setup k.settlement.place k.settlement.room o s v)

  module _ (s v : ℕ) (sent : Option Ticket) (reached : IsWorldReached setup (record w { net = (replied w.net s v sent).1 })) (taken : takes_request x s v ≡ true) where
    abbrev Z : World
    Z = put_over w C L S

    request_held : (b : Bool) → x.reopening.promised v ≡ b → Goes (within Z (replied Z.net s v sent)).1
    request_held false p =
        let same : C s v ≡ w.net.cells s v = ((h.servers v).untouched p (knows s v taken)).cells s in
        subst (λ c. Goes (record Z { net = record Z.net { passes = w.net.passes ++ option_to_list (pass_by s v (answer_by c v sent 0)) } })) (sym same)
        (moved w.net.answers (w.net.passes ++ option_to_list (pass_by s v (answer_by (w.net.cells s v) v sent 0))) w.stored S w.shown reached h.shown.first (λ z q r. refl))
    request_held true p = by_last l refl
      where
        by_last : (q : Option Last) → l ≡ q → Goes (within Z (replied Z.net s v sent)).1
        by_last None q = absurd (((h.servers v).touched p).confirmed q)
        by_last (Some k) q = subst (λ t. Goes (record Z { net = record Z.net { passes = t } })) (sym none) (w, h)
          where
            none : w.net.passes ++ option_to_list (pass_by s v (answer_by (C s v) v sent 0)) ≡ w.net.passes
            none = ap (λ t. w.net.passes ++ option_to_list t) (no_pass s v sent (C s v) (rests s v taken k q)) ∙ append-nil w.net.passes

  -- ---- a publication comes

  module _ (k : ℕ) (p : Publication) (got : slice_get w.published k ≡ Some p) (taken : takes_number (x.bases MapOwner) p.entry.version ≡ true) where
    abbrev X : World
    X = put_over w C L S

    pieces : (is_none (x.bases MapOwner).nonce ≡ true) × ((not (x.bases MapOwner).fenced && nat_lt (x.bases MapOwner).number p.entry.version) ≡ true)
    pieces = and_parts (is_none (x.bases MapOwner).nonce) (not (x.bases MapOwner).fenced && nat_lt (x.bases MapOwner).number p.entry.version) taken

    open_still : (x.bases MapOwner).fenced ≡ false
    open_still = not-true (x.bases MapOwner).fenced (and_parts (not (x.bases MapOwner).fenced) (nat_lt (x.bases MapOwner).number p.entry.version) pieces.1).0

    over_it : (x.bases MapOwner).number < p.entry.version
    over_it = ltb-true (x.bases MapOwner).number p.entry.version (and_parts (not (x.bases MapOwner).fenced) (nat_lt (x.bases MapOwner).number p.entry.version) pieces.1).1

    version_low : p.entry.version ≤ w.net.base + suc (w.net.w.place.version p.shard)
    version_low = elim (all_at (IsMet w) w.published k p (reached_kept setup w h.reached).published got) [
      | inl a ↦ (let b = a.version in omega arith)
      | inr a ↦ (let b = a.recorded in omega arith)
    ]

    nothing_confirmed : l ≡ None
    nothing_confirmed = go l refl
      where
        go : (q : Option Last) → l ≡ q → l ≡ None
        go None q = q
        go (Some z) q = absurd (
            let a = (h.shown.last z q open_still).1 in
            let b = h.controller.above_versions z q p.shard in
            let c = version_low in
            let d = over_it in
            omega arith
            )

    shown_same : (s : ℕ) → put S p.shard (newer (S p.shard) p.entry) s ≡ put w.shown p.shard (newer (w.shown p.shard) p.entry) s
    shown_same s = elim (cases_eq s p.shard) [
      | inl e ↦ put-here S p.shard (newer (S p.shard) p.entry) s e ∙ ap (λ a. newer a p.entry) (h.shown.first nothing_confirmed p.shard) ∙ sym (put-here w.shown p.shard (newer (w.shown p.shard) p.entry) s e)
      | inr e ↦ put-apart S p.shard (newer (S p.shard) p.entry) s e ∙ h.shown.first nothing_confirmed s ∙ sym (put-apart w.shown p.shard (newer (w.shown p.shard) p.entry) s e)
    ]

    pub publication_held : Goes (kept_by X p)
    publication_held = moved w.net.answers w.net.passes (w.stored ++ p ∷ []) (put S p.shard (newer (S p.shard) p.entry)) (put w.shown p.shard (newer (w.shown p.shard) p.entry))
        (subst (IsWorldReached setup) (ap (λ q. (by_place w (λ y p. (Quiet, kept_by y p)) q).1) got) (world_next setup w (Store k) h.reached tt))
        (λ e s. shown_same s) (λ z q. absurd (let a = nothing_confirmed in cc))

  -- ---- any of them comes

  abbrev Leads : Settling → Type 0
  Leads y = (u : World) × IsHeld setup u first since l y

  abbrev W : World
  W = put_over w C L S

  pub coming_held : (e : WorldEvent) → Leads (settling_comes x (Comes e)).1
  coming_held (Inner (Deliver k)) = by_order (slice_get w.net.sent k) refl
    where
      by_test : (o : Order) → slice_get w.net.sent k ≡ Some o → (b : Bool) → takes_number (x.bases (Server o.call.server)) o.number ≡ b → Leads (if b then in_world x (within W (delivered W.net o)) else (Quiet, x)).1
      by_test o q false e = (w, h)
      by_test o q true e = order_held k o q e

      by_order : (q : Option Order) → slice_get w.net.sent k ≡ q →
          Leads (if takes (λ (o : Order). takes_number (x.bases (Server o.call.server)) o.number) q then in_world x (within W (at_place W.net delivered q)) else (Quiet, x)).1
      by_order None q = (w, h)
      by_order (Some o) q = by_test o q (takes_number (x.bases (Server o.call.server)) o.number) refl
  coming_held (Inner (Ask s v)) = by_test (takes_request x s v) refl
    where
      by_test : (b : Bool) → takes_request x s v ≡ b → Leads (if b then in_world x (within W (replied W.net s v None)) else (Quiet, x)).1
      by_test false e = (w, h)
      by_test true e = request_held s v None (world_next setup w (Inner (Ask s v)) h.reached tt) e (x.reopening.promised v) refl
  coming_held (Inner (Pass k)) = by_pass (slice_get w.net.passes k) refl
    where
      by_test : (t : Ticket) → slice_get w.net.passes k ≡ Some t → (b : Bool) → takes_request x t.shard t.target ≡ b → Leads (if b then in_world x (within W (replied W.net t.shard t.target (Some t))) else (Quiet, x)).1
      by_test t q false e = (w, h)
      by_test t q true e = request_held t.shard t.target (Some t)
          (subst (IsWorldReached setup) (ap (λ z. let y : World = record w { net = (passed w.net z).1 } in y) q) (world_next setup w (Inner (Pass k)) h.reached tt)) e (x.reopening.promised t.target) refl

      by_pass : (q : Option Ticket) → slice_get w.net.passes k ≡ q →
          Leads (if takes (λ (t : Ticket). takes_request x t.shard t.target) q then in_world x (within W (passed W.net q)) else (Quiet, x)).1
      by_pass None q = (w, h)
      by_pass (Some t) q = by_test t q (takes_request x t.shard t.target) refl
  coming_held (Store k) = by_publication (slice_get w.published k) refl
    where
      by_test : (p : Publication) → slice_get w.published k ≡ Some p → (b : Bool) → takes_number (x.bases MapOwner) p.entry.version ≡ b → Leads (if b then in_world x (Quiet, kept_by W p) else (Quiet, x)).1
      by_test p q false e = (w, h)
      by_test p q true e = publication_held k p q e

      by_publication : (q : Option Publication) → slice_get w.published k ≡ q →
          Leads (if takes (λ (p : Publication). takes_number (x.bases MapOwner) p.entry.version) q then in_world x (by_place W (λ y p. (Quiet, kept_by y p)) q) else (Quiet, x)).1
      by_publication None q = (w, h)
      by_publication (Some p) q = by_test p q (takes_number (x.bases MapOwner) p.entry.version) refl
  coming_held (Inner (Control e)) = (w, h)
  coming_held (Inner (Send id)) = (w, h)
  coming_held (Inner (Answer k)) = (w, h)
  coming_held (Propose id) = (w, h)
  coming_held (Stored k) = (w, h)

-- whatever of the epoch before comes, what holds still does
pub comes_held : (setup : Setup) (w : World) (first since : ℕ) (l : Option Last) (x : Settling) → IsHeld setup w first since l x → (e : WorldEvent) → (u : World) × IsHeld setup u first since l (settling_comes x (Comes e)).1
comes_held setup w first since l x h e =
    subst (λ z. (u : World) × IsHeld setup u first since l (settling_comes (record x { world = z }) (Comes e)).1) (sym h.over)
    (coming_held setup w first since l x x.world.net.cells x.world.net.last x.world.shown (subst (λ z. IsHeld setup w first since l (record x { world = z })) h.over h) e)
