-- Orders, publications and requests that come keep the fleet as its shade.
use Rattle.std.proofs.Common.{◌≡◌, ◌≢◌, ℕ, ◌≤◌, ◌<◌, ◌⊎◌, refl, sym, ap, ◌∙◌, inl, inr, subst, arith, not, Bool, true, false, Option, Some, None, Result, Ok, Err, List, [], ◌∷◌, ◌++◌}
use Rattle.std.specs.Prelude.{◌==◌, ◌-◌, ◌&&◌, ◌||◌, if◌then◌else◌, is_some, nat_lt, slice_get, unwrap_or}
use Rattle.std.specs.Option.{option_to_list}
use Rattle.std.proofs.Math.Path.{fun_ext}
use Rattle.std.proofs.lemmas.Bool.{cases_Bool, eq-eqb, ltb-true, ne_eqb}
use Rattle.sm_server.specs.declared.call.Cell.TheVariants as cell
use Rattle.sm_server.specs.declared.call.Refusal.{Refusal}
use Rattle.sm_server.specs.Call.{led_to, served}
use Rattle.sm_placement.specs.Setup.{Setup, Sizes, sizes_of}
use Rattle.sm_placement.specs.Place.{load_of}
use Rattle.sm_placement.specs.Sums.{put, put2}
use Rattle.sm_placement.proofs.Calls.{served_ok}
use Rattle.sm_verifier.proofs.OnePlace.{put2_cases}
use Rattle.sm_protocol.specs.Ticket.{Ticket}
use Rattle.sm_protocol.specs.Happens.{answer_by}
use Rattle.sm_protocol.proofs.Courses.{some_same}
use Rattle.sm_agent.specs.declared.base.Base.{Base}
use Rattle.sm_agent.specs.declared.slot.Slot.{Slot}
use Rattle.sm_agent.specs.declared.order.Verdict.{Verdict}
use Rattle.sm_agent.specs.declared.order.Verdict.TheVariants as verdict
use Rattle.sm_agent.specs.declared.request.Relay.{Relay}
use Rattle.sm_agent.specs.declared.request.Request.{Request}
use Rattle.sm_agent.specs.declared.request.Request.TheVariants.{Direct, Passed}
use Rattle.sm_agent.specs.declared.request.Routing.{Routing}
use Rattle.sm_agent.specs.declared.request.Routing.TheVariants as routing
use Rattle.sm_agent.specs.Base.{lacks_slots}
use Rattle.sm_agent.specs.Order.{abandoned, begun_slot, committed, cell_load, sealed}
use Rattle.sm_agent.specs.Request.{passed_on, received, routed}
use Rattle.laws_network.specs.Words.{Cell, Delivery, Entry}
use Rattle.laws_network.specs.Orders.{by_served, newer}
use Rattle.laws_network.specs.Net.{Ask, Deliver, Order, Quiet, after_delivery, at_place, delivered, pass_by, real_delivery}
use Rattle.laws_network.specs.World.{Inner, Publication, Store, World, by_place, kept_by, within, world_comes}
use Rattle.laws_network.specs.WorldLaws.{IsWorldReached}
use Rattle.laws_network.specs.Controller.{Letter, Notice}
use Rattle.laws_network.specs.Fleet.{Fleet, Handoff, Server, after_commit, after_letter, after_notice, after_owner, after_request, after_seal, after_verdict, after_work, controller, handoff_by, has_lost, held_cells, load_used, order_read, request_routing, slot_for, notice_stamp, verdict_of, with_slot}
use Rattle.laws_network.specs.FleetLaws.{HasAskedUnder}
use Rattle.laws_network.proofs.AtServer.{IsAway, IsBySlot, IsCommit, IsHeard, Lower, Refuses, Same, Serves, commit_is, judged_is, turned}
use Rattle.laws_network.proofs.Lists.{all_map, all_push}
use Rattle.laws_network.proofs.Raised.{none_is_refused}
use Rattle.laws_network.proofs.Shade.{IsAmong, among_more, among_new, world_next}
use Rattle.laws_network.proofs.Shadow.{IsKnownServer, IsLetter, IsRestore, IsSeen, IsShadow, Shade, lower, ticket_of, world_by}
use Rattle.laws_network.proofs.Shown.{net_is_reached}
use Rattle.laws_network.proofs.Slots.{held_by, put_elim, restore_kept, slot_shadow}

-- the cell of a server that has its slots
known_cell : (f : Fleet) (s v : ℕ) → has_lost f v ≡ false → held_cells f s v ≡ ((f.servers v).slots s).cell
known_cell f s v h = ap (λ b. if b then f.had s v else ((f.servers v).slots s).cell) h

-- the shade of a fleet
abbrev pub shade_of : {setup : Setup} {low : ℕ → ℕ → ℕ} (f : Fleet) → IsShadow setup low f → World
shade_of f k = world_by (controller f) (held_cells f) f.shown k.shade

-- ---- an order that is answered again

again_world : (x : World) (j : ℕ) (o : Order) → slice_get x.net.sent j ≡ Some o → o.number ≡ x.net.last o.call.shard o.call.server →
    (world_comes x (Inner (Deliver j))).1 ≡ record x { net = record x.net { answers = x.net.answers ++ o ∷ [] } }
again_world x j o e same =
    ap (λ a. (within x (at_place x.net delivered a)).1) e ∙ ap (λ d. (within x (after_delivery x.net o d)).1) again
  where
    lower : nat_lt o.number (x.net.last o.call.shard o.call.server) ≡ false
    lower = elim (cases_Bool (nat_lt o.number (x.net.last o.call.shard o.call.server))) [ inl q ↦ absurd (let l = ltb-true _ _ q in omega arith) | inr q ↦ q ]

    again : real_delivery x.net o ≡ Delivery.Again
    again = rw (lower, eq-eqb o.number (x.net.last o.call.shard o.call.server) same) refl

-- the fleet with an answer more
abbrev with_answer : Fleet → Order → Fleet
with_answer f o = record f { answers = f.answers ++ o ∷ [] }

-- the shade with an answer more
abbrev shade_answered : Shade → Order → Shade
shade_answered q o = record q { answers = q.answers ++ o ∷ [] }

-- it is answered by the shade, too
answer_shadow : (setup : Setup) (low : ℕ → ℕ → ℕ) (f : Fleet) (k : IsShadow setup low f) (o : Order) → IsWorldReached setup (world_by (controller f) (held_cells f) f.shown (shade_answered k.shade o)) → IsShadow setup low (with_answer f o)
answer_shadow setup low f k o reached = record {
  shade = shade_answered k.shade o;
  reached = reached;
  above = k.above;
  sizes = k.sizes;
  start = k.start;
  fence = k.fence;
  owner = k.owner;
  sent = all_map (IsLetter (sizes_of setup) k.shade) (IsLetter (sizes_of setup) (shade_answered k.shade o)) f.sent (λ l h. record { among = h.among; sizes = h.sizes }) k.sent;
  answers = all_push (IsAmong (k.shade.answers ++ o ∷ [])) f.answers o (all_map (IsAmong k.shade.answers) (IsAmong (k.shade.answers ++ o ∷ [])) f.answers (λ a h. among_more k.shade.answers (o ∷ []) a h) k.answers) (among_new k.shade.answers o);
  published = k.published;
  stored = k.stored;
  passes = k.passes;
  letters = λ lost id l e. let h = k.letters lost id l e in record { among = h.among; sizes = h.sizes };
  notices = k.notices;
  servers = k.servers;
  asked = k.asked;
  restores = all_map (IsRestore (controller f) f k.shade.last) (IsRestore (controller f) (with_answer f o) k.shade.last) (controller f).restores (λ r h. record {
    journal = h.journal;
    fence = h.fence;
    number = h.number;
    loads = h.loads;
    server = h.server;
    asked = h.asked;
    behind = h.behind;
    cells = h.cells;
  }) k.restores;
}

-- an order that was heard, by its letter
heard_at : (f : Fleet) (l : Letter) → IsHeard (f.servers l.order.call.server).base (order_read l).stamp → has_lost f l.order.call.server ≡ false
heard_at f l h = h.known

-- what a server makes of an order keeps the fleet as its shade
pub letter_shadow : (setup : Setup) (low : ℕ → ℕ → ℕ) (f : Fleet) (k : IsShadow setup low f) (l : Letter) → IsLetter (sizes_of setup) k.shade l → IsShadow setup low (after_letter f l).1
letter_shadow setup low f k l letter = go (verdict_of f l) (judged_is (f.servers l.order.call.server).base (slot_for f l) (load_used f l.order.call.server) (order_read l))
  where
    answered : IsHeard (f.servers l.order.call.server).base (order_read l).stamp → l.order.number ≡ (slot_for f l).last → IsShadow setup low (with_answer f l.order)
    answered h same =
        let o = k.servers l.order.call.server h.known in
        let last : l.order.number ≡ k.shade.last l.order.call.shard l.order.call.server = elim (o.lasts l.order.call.shard) [
          | inl a ↦ same ∙ sym a.1
          | inr a ↦ absurd (let p = a.0 in let q = h.above in omega arith)
        ] in
        answer_shadow setup low f k l.order (subst (IsWorldReached setup) (again_world (shade_of f k) letter.among.0 l.order letter.among.1 last) (world_next setup (shade_of f k) (Inner (Deliver letter.among.0)) k.reached tt))

    of_slot : (x : Verdict) (used : ℕ) → IsHeard (f.servers l.order.call.server).base (order_read l).stamp → IsBySlot (slot_for f l) used (order_read l) x → IsShadow setup low (after_verdict f l x)
    of_slot x used h (Lower n e) = subst (λ y. IsShadow setup low (after_verdict f l y)) (sym e) k
    of_slot x used h (Same n e) = subst (λ y. IsShadow setup low (after_verdict f l y)) (sym e) (answered h n)
    of_slot x used h (Refuses n why q e) = subst (λ y. IsShadow setup low (after_verdict f l y)) (sym e) k
    of_slot x used h (Serves n next q (inl e)) = subst (λ y. IsShadow setup low (after_verdict f l y)) (sym e) (slot_shadow setup low f k l.order.call.shard l.order.call.server (begun_slot (slot_for f l) (order_read l)) refl refl refl)
    of_slot x used h (Serves n next q (inr e)) = subst (λ y. IsShadow setup low (after_verdict f l y)) (sym e.0) k

    away : (x : Verdict) → IsAway x → IsShadow setup low (after_verdict f l x)
    away x (inl e) = subst (λ y. IsShadow setup low (after_verdict f l y)) (sym e) k
    away x (inr (inl e)) = subst (λ y. IsShadow setup low (after_verdict f l y)) (sym e) k
    away x (inr (inr e)) = subst (λ y. IsShadow setup low (after_verdict f l y)) (sym e) k

    go : (x : Verdict) → IsAway x ⊎ (IsHeard (f.servers l.order.call.server).base (order_read l).stamp × IsBySlot (slot_for f l) (load_used f l.order.call.server) (order_read l) x) → IsShadow setup low (after_verdict f l x)
    go x (inl a) = away x a
    go x (inr b) = of_slot x (load_used f l.order.call.server) b.0 b.1

-- ---- an order that has its effect

served_world : (x : World) (j : ℕ) (o : Order) (next : Cell) → slice_get x.net.sent j ≡ Some o → real_delivery x.net o ≡ Delivery.Served next →
    (world_comes x (Inner (Deliver j))).1 ≡ record x { net = record x.net { cells = put2 x.net.cells o.call.shard o.call.server next; last = put2 x.net.last o.call.shard o.call.server o.number; answers = x.net.answers ++ o ∷ [] } }
served_world x j o next e served =
    ap (λ a. (within x (at_place x.net delivered a)).1) e ∙ ap (λ d. (within x (after_delivery x.net o d)).1) served

-- an order above the last one is served or refused by the table, and none is refused: so it leads where the table leads
pub is_served : (setup : Setup) (x : World) (j : ℕ) (o : Order) (next : Cell) → IsWorldReached setup x → slice_get x.net.sent j ≡ Some o → x.net.last o.call.shard o.call.server < o.number →
    led_to o.call.call (x.net.cells o.call.shard o.call.server) ≡ Some next → real_delivery x.net o ≡ Delivery.Served next
is_served setup x j o next r e above led = by_table ∙ go result refl
  where
    result : Result Cell Refusal
    result = served (x.net.cells o.call.shard o.call.server) (x.net.w.sizes.room o.call.server - load_of x.net.w.sizes x.net.cells o.call.server) (x.net.w.sizes.load o.call.shard) true o.call.call

    lower : nat_lt o.number (x.net.last o.call.shard o.call.server) ≡ false
    lower = elim (cases_Bool (nat_lt o.number (x.net.last o.call.shard o.call.server))) [ inl q ↦ absurd (let l = ltb-true _ _ q in omega arith) | inr q ↦ q ]

    other : (o.number == x.net.last o.call.shard o.call.server) ≡ false
    other = ne_eqb o.number (x.net.last o.call.shard o.call.server) (λ q. absurd (omega arith))

    by_table : real_delivery x.net o ≡ by_served (served (x.net.cells o.call.shard o.call.server) (x.net.w.sizes.room o.call.server - load_of x.net.w.sizes x.net.cells o.call.server) (x.net.w.sizes.load o.call.shard) true o.call.call)
    by_table = rw (lower, other) refl

    go : (a : Result Cell Refusal) → served (x.net.cells o.call.shard o.call.server) (x.net.w.sizes.room o.call.server - load_of x.net.w.sizes x.net.cells o.call.server) (x.net.w.sizes.load o.call.shard) true o.call.call ≡ a →
        by_served (served (x.net.cells o.call.shard o.call.server) (x.net.w.sizes.room o.call.server - load_of x.net.w.sizes x.net.cells o.call.server) (x.net.w.sizes.load o.call.shard) true o.call.call) ≡ Delivery.Served next
    go (Ok c) q =
        let l = (served_ok (x.net.cells o.call.shard o.call.server) _ (x.net.w.sizes.load o.call.shard) true o.call.call c q).1 in
        ap by_served q ∙ ap Delivery.Served (some_same c next (sym l ∙ led))
    go (Err why) q = absurd ((none_is_refused setup x.net (net_is_reached setup x r) (Deliver j) tt).0 why (
        ap (λ a. (at_place x.net delivered a).0) e ∙ ap (λ d. (after_delivery x.net o d).0) (by_table ∙ ap by_served q)))

-- what a server has once an order has had its effect
pub held_put : (f : Fleet) (s v : ℕ) (slot : Slot) → has_lost f v ≡ false → (r u : ℕ) → held_cells (with_slot f s v slot) r u ≡ put2 (held_cells f) s v slot.cell r u
held_put f s v slot h r u = put_elim (λ (server : Server). held_by server (f.had r u) r ≡ put2 (held_cells f) s v slot.cell r u) f.servers v (record (f.servers v) { slots = put (f.servers v).slots s slot }) u
    (λ e. here e) (λ e. sym (there e))
  where
    there : u ≢ v → put2 (held_cells f) s v slot.cell r u ≡ held_cells f r u
    there e = elim (put2_cases (held_cells f) s v slot.cell r u) [ inl a ↦ absurd (e a.1) | inr a ↦ a.1 ]

    in_row : (q : ℕ) → (put (f.servers v).slots s slot q).cell ≡ put2 (held_cells f) s v slot.cell q v
    in_row q = put_elim (λ (x : Slot). x.cell ≡ put2 (held_cells f) s v slot.cell q v) (f.servers v).slots s slot q
        (λ e. elim (put2_cases (held_cells f) s v slot.cell q v) [ inl a ↦ sym a.2 | inr a ↦ absurd (a.0 (e, refl)) ])
        (λ e. elim (put2_cases (held_cells f) s v slot.cell q v) [ inl a ↦ absurd (e a.0) | inr a ↦ sym (known_cell f q v h) ∙ sym a.1 ])

    here : u ≡ v → held_by (record (f.servers v) { slots = put (f.servers v).slots s slot }) (f.had r u) r ≡ put2 (held_cells f) s v slot.cell r u
    here e = ap (λ b. if b then f.had r u else (put (f.servers v).slots s slot r).cell) h ∙ in_row r ∙ ap (put2 (held_cells f) s v slot.cell r) (sym e)

-- the fleet, and its shade, once it has
abbrev with_effect : Fleet → Letter → Slot → Fleet
with_effect f l slot = record (with_slot f l.order.call.shard l.order.call.server slot) { answers = f.answers ++ l.order ∷ [] }

abbrev shade_served : Shade → Order → Shade
shade_served q o = record q { last = put2 q.last o.call.shard o.call.server o.number; answers = q.answers ++ o ∷ [] }

last_grows : (last : ℕ → ℕ → ℕ) (o : Order) → last o.call.shard o.call.server < o.number → (s v : ℕ) → last s v ≤ put2 last o.call.shard o.call.server o.number s v
last_grows last o above s v = elim (put2_cases last o.call.shard o.call.server o.number s v) [
  | inl a ↦ (let e : last s v ≡ last o.call.shard o.call.server = ap (λ r. last r v) a.0 ∙ ap (last o.call.shard) a.1 in let g = a.2 in omega arith)
  | inr a ↦ (let g = a.1 in omega arith)
]

letter_served : (z : Sizes) (q : Shade) (o : Order) → q.last o.call.shard o.call.server < o.number → (l : Letter) → IsLetter z q l → IsLetter z (shade_served q o) l
letter_served z q o above l h = record { among = h.among; sizes = elim h.sizes [ inl a ↦ inl a | inr a ↦ inr (let g = last_grows q.last o above l.order.call.shard l.order.call.server in omega arith) ] }

-- the cell of an order that has its effect has its number from then on
pub effect_shadow : (setup : Setup) (low : ℕ → ℕ → ℕ) (f : Fleet) (k : IsShadow setup low f) (l : Letter) (at : ℕ) (slot : Slot) → IsLetter (sizes_of setup) k.shade l → IsCommit (f.servers l.order.call.server).base (slot_for f l) (order_read l) at slot →
    k.shade.last l.order.call.shard l.order.call.server < l.order.number → IsShadow setup (put2 low l.order.call.shard l.order.call.server l.order.number) (with_effect f l slot)
effect_shadow setup low f k l at slot letter commit above = record {
  shade = shade_served k.shade l.order;
  reached = subst (λ cells. IsWorldReached setup (world_by (controller f) cells f.shown (shade_served k.shade l.order))) (sym (fun_ext (λ r. fun_ext (λ u. held_put f l.order.call.shard l.order.call.server slot known r u)))) reached;
  above = λ s v. elim (put2_cases low l.order.call.shard l.order.call.server l.order.number s v) [
    | inl a ↦ elim (put2_cases k.shade.last l.order.call.shard l.order.call.server l.order.number s v) [ inl b ↦ (let p = a.2 in let q = b.2 in omega arith) | inr b ↦ absurd (b.0 (a.0, a.1)) ]
    | inr a ↦ (let p = a.1 in let q = k.above s v in let g = last_grows k.shade.last l.order above s v in omega arith)
  ];
  sizes = k.sizes;
  start = k.start;
  fence = k.fence;
  owner = k.owner;
  sent = all_map (IsLetter (sizes_of setup) k.shade) (IsLetter (sizes_of setup) (shade_served k.shade l.order)) f.sent (letter_served (sizes_of setup) k.shade l.order above) k.sent;
  answers = all_push (IsAmong (k.shade.answers ++ l.order ∷ [])) f.answers l.order (all_map (IsAmong k.shade.answers) (IsAmong (k.shade.answers ++ l.order ∷ [])) f.answers (λ a h. among_more k.shade.answers (l.order ∷ []) a h) k.answers) (among_new k.shade.answers l.order);
  published = k.published;
  stored = k.stored;
  passes = k.passes;
  letters = λ lost id m e. letter_served (sizes_of setup) k.shade l.order above m (k.letters lost id m e);
  notices = k.notices;
  servers = λ u. put_elim (λ (server : Server). lacks_slots server.base ≡ false → IsKnownServer (controller f) u server (λ r. put2 k.shade.last l.order.call.shard l.order.call.server l.order.number r u)) f.servers l.order.call.server new u
      (λ e h. subst (λ w. IsKnownServer (controller f) w new (λ r. put2 k.shade.last l.order.call.shard l.order.call.server l.order.number r w)) (sym e) own)
      (λ e h. let o = k.servers u h in record {
        journal = o.journal;
        taken = o.taken;
        fence = o.fence;
        number = o.number;
        lasts = λ r. subst (λ m. IsSeen (f.servers u).base.number ((f.servers u).slots r).last m) (sym (elsewhere r u e)) (o.lasts r);
        loads = o.loads;
        behind = o.behind;
      });
  asked = λ u n. put_elim (λ (server : Server). server.base.nonce ≡ Some n → HasAskedUnder f.asks u n) f.servers l.order.call.server new u
      (λ e q. subst (λ w. HasAskedUnder f.asks w n) (sym e) (k.asked l.order.call.server n q)) (λ e q. k.asked u n q);
  restores = all_map (IsRestore (controller f) f k.shade.last) (IsRestore (controller f) (with_effect f l slot) (shade_served k.shade l.order).last) (controller f).restores
      (λ r h. restore_kept (controller f) f (with_effect f l slot) k.shade.last (shade_served k.shade l.order).last r h (λ u n a. a)
      (λ u a. put_elim (λ (server : Server). server.base.nonce ≡ Some r.restoration.nonce → ((f.servers u).base.nonce ≡ Some r.restoration.nonce) × ((s : ℕ) → (held_cells (with_effect f l slot) s u ≡ held_cells f s u) × ((shade_served k.shade l.order).last s u ≤ k.shade.last s u)))
      f.servers l.order.call.server new u
      (λ e q. absurd (asks_nothing (f.servers l.order.call.server).base.nonce r.restoration.nonce q known))
      (λ e q. (q, λ s. (held_put f l.order.call.shard l.order.call.server slot known s u ∙ other_cell s u e, (let g = elsewhere s u e in omega arith)))))) k.restores;
}
  where
    known : has_lost f l.order.call.server ≡ false
    known = commit.heard.known

    new : Server
    new = record (f.servers l.order.call.server) { slots = put (f.servers l.order.call.server).slots l.order.call.shard slot }

    asks_nothing : (o : Option ℕ) (n : ℕ) → o ≡ Some n → is_some o ≡ false → ⊥
    asks_nothing None n q h = absurd (cc)
    asks_nothing (Some m) n q h = absurd (cc)

    elsewhere : (r u : ℕ) → u ≢ l.order.call.server → put2 k.shade.last l.order.call.shard l.order.call.server l.order.number r u ≡ k.shade.last r u
    elsewhere r u e = elim (put2_cases k.shade.last l.order.call.shard l.order.call.server l.order.number r u) [ inl a ↦ absurd (e a.1) | inr a ↦ a.1 ]

    other_cell : (r u : ℕ) → u ≢ l.order.call.server → put2 (held_cells f) l.order.call.shard l.order.call.server slot.cell r u ≡ held_cells f r u
    other_cell r u e = elim (put2_cases (held_cells f) l.order.call.shard l.order.call.server slot.cell r u) [ inl a ↦ absurd (e a.1) | inr a ↦ a.1 ]

    led : led_to l.order.call.call (held_cells f l.order.call.shard l.order.call.server) ≡ Some slot.cell
    led = ap (led_to l.order.call.call) (known_cell f l.order.call.shard l.order.call.server known) ∙ commit.led

    reached : IsWorldReached setup (world_by (controller f) (put2 (held_cells f) l.order.call.shard l.order.call.server slot.cell) f.shown (shade_served k.shade l.order))
    reached = subst (IsWorldReached setup) (served_world (shade_of f k) letter.among.0 l.order slot.cell letter.among.1 (is_served setup (shade_of f k) letter.among.0 l.order slot.cell k.reached letter.among.1 above led))
        (world_next setup (shade_of f k) (Inner (Deliver letter.among.0)) k.reached tt)

    loaded : l.load ≡ (sizes_of setup).load l.order.call.shard
    loaded = elim letter.sizes [ inl a ↦ a.0 | inr a ↦ absurd (omega arith) ]

    own : IsKnownServer (controller f) l.order.call.server new (λ r. put2 k.shade.last l.order.call.shard l.order.call.server l.order.number r l.order.call.server)
    own = let o = k.servers l.order.call.server known in record {
      journal = o.journal;
      taken = o.taken;
      fence = o.fence;
      number = o.number;
      lasts = λ r. put_elim (λ (x : Slot). IsSeen (f.servers l.order.call.server).base.number x.last (put2 k.shade.last l.order.call.shard l.order.call.server l.order.number r l.order.call.server)) (f.servers l.order.call.server).slots l.order.call.shard slot r
          (λ e. elim (put2_cases k.shade.last l.order.call.shard l.order.call.server l.order.number r l.order.call.server) [
            | inl a ↦ inl ((let p = commit.heard.above in let q = commit.last in omega arith), a.2 ∙ sym commit.last)
            | inr a ↦ absurd (a.0 (e, refl))
          ])
          (λ e. elim (put2_cases k.shade.last l.order.call.shard l.order.call.server l.order.number r l.order.call.server) [
            | inl a ↦ absurd (e a.0)
            | inr a ↦ subst (λ m. IsSeen (f.servers l.order.call.server).base.number ((f.servers l.order.call.server).slots r).last m) (sym a.1) (o.lasts r)
          ]);
      loads = λ r. put_elim (λ (x : Slot). x.load ≡ cell_load x.cell ((controller f).w.sizes.load r)) (f.servers l.order.call.server).slots l.order.call.shard slot r
          (λ e. commit.load ∙ ap (cell_load slot.cell) (loaded ∙ (ap (λ (z : Sizes). z.load l.order.call.shard) (sym k.sizes) ∙ ap (controller f).w.sizes.load (sym e))))
          (λ e. o.loads r);
      behind = o.behind;
    }

-- an order that is committed is above the last one that had an effect
pub committed_above : (setup : Setup) (low : ℕ → ℕ → ℕ) (f : Fleet) (k : IsShadow setup low f) (l : Letter) (at : ℕ) (slot : Slot) → IsCommit (f.servers l.order.call.server).base (slot_for f l) (order_read l) at slot →
    k.shade.last l.order.call.shard l.order.call.server < l.order.number
committed_above setup low f k l at slot c =
    let o = k.servers l.order.call.server c.heard.known in
    let above = c.above in
    let base = c.heard.above in
    elim (o.lasts l.order.call.shard) [
      | inl a ↦ (let p = a.1 in omega arith)
      | inr a ↦ (let p = a.1 in omega arith)
    ]

-- work that is committed, or thrown away, keeps the fleet as its shade
pub commit_shadow : (setup : Setup) (low : ℕ → ℕ → ℕ) (f : Fleet) (k : IsShadow setup low f) (l : Letter) (at : ℕ) → IsLetter (sizes_of setup) k.shade l → IsShadow setup low (after_commit f at l).1
commit_shadow setup low f k l at letter = go (committed (f.servers l.order.call.server).base (slot_for f l) (order_read l) at) refl
  where
    go : (o : Option Slot) → committed (f.servers l.order.call.server).base (slot_for f l) (order_read l) at ≡ o → IsShadow setup low (after_work f l o).1
    go None e = k
    go (Some slot) e =
        let c = commit_is (f.servers l.order.call.server).base (slot_for f l) (order_read l) at slot e in
        let above = committed_above setup low f k l at slot c in
        lower setup low (put2 low l.order.call.shard l.order.call.server l.order.number) (with_effect f l slot) (effect_shadow setup low f k l at slot letter c above) (last_grows low l.order (let p = k.above l.order.call.shard l.order.call.server in omega arith))

-- ---- publications

store_world : (x : World) (j : ℕ) (p : Publication) → slice_get x.published j ≡ Some p → (world_comes x (Store j)).1 ≡ kept_by x p
store_world x j p e = ap (λ a. (by_place x (λ y p. (Quiet, kept_by y p)) a).1) e

-- the fleet with a publication's answer more
abbrev with_stored : Fleet → (ℕ → Entry) → Publication → Fleet
with_stored f shown p = record f { shown = shown; stored = f.stored ++ p ∷ [] }

abbrev shade_stored : Shade → Publication → Shade
shade_stored q p = record q { stored = q.stored ++ p ∷ [] }

-- the owner takes a publication, or answers it, and the shade does the same
owner_shadow : (setup : Setup) (low : ℕ → ℕ → ℕ) (f : Fleet) (k : IsShadow setup low f) (p : Publication) (shown : ℕ → Entry) → IsAmong k.shade.published p → put f.shown p.shard (newer (f.shown p.shard) p.entry) ≡ shown → IsShadow setup low (with_stored f shown p)
owner_shadow setup low f k p shown among same = record {
  shade = shade_stored k.shade p;
  reached = subst (λ m. IsWorldReached setup (world_by (controller f) (held_cells f) m (shade_stored k.shade p))) same
      (subst (IsWorldReached setup) (store_world (shade_of f k) among.0 p among.1) (world_next setup (shade_of f k) (Store among.0) k.reached tt));
  above = k.above;
  sizes = k.sizes;
  start = k.start;
  fence = k.fence;
  owner = k.owner;
  sent = all_map (IsLetter (sizes_of setup) k.shade) (IsLetter (sizes_of setup) (shade_stored k.shade p)) f.sent (λ l h. record { among = h.among; sizes = h.sizes }) k.sent;
  answers = k.answers;
  published = k.published;
  stored = all_push (IsAmong (k.shade.stored ++ p ∷ [])) f.stored p (all_map (IsAmong k.shade.stored) (IsAmong (k.shade.stored ++ p ∷ [])) f.stored (λ a h. among_more k.shade.stored (p ∷ []) a h) k.stored) (among_new k.shade.stored p);
  passes = k.passes;
  letters = λ lost id l e. let h = k.letters lost id l e in record { among = h.among; sizes = h.sizes };
  notices = k.notices;
  servers = k.servers;
  asked = k.asked;
  restores = all_map (IsRestore (controller f) f k.shade.last) (IsRestore (controller f) (with_stored f shown p) k.shade.last) (controller f).restores (λ r h. record {
    journal = h.journal;
    fence = h.fence;
    number = h.number;
    loads = h.loads;
    server = h.server;
    asked = h.asked;
    behind = h.behind;
    cells = h.cells;
  }) k.restores;
}

-- what the map's owner makes of a publication keeps the fleet as its shade
pub notice_shadow : (setup : Setup) (low : ℕ → ℕ → ℕ) (f : Fleet) (k : IsShadow setup low f) (n : Notice) → IsAmong k.shade.published n.publication → IsShadow setup low (after_notice f n).1
notice_shadow setup low f k n among = elim (turned f.owner (notice_stamp n)) [
  | inl t ↦ subst (λ o. IsShadow setup low (after_owner f n.publication (unwrap_or o rest))) (sym t.1) (away t.0 t.2)
  | inr t ↦ subst (λ o. IsShadow setup low (after_owner f n.publication (unwrap_or o rest))) (sym t.0) (by_version (nat_lt (f.shown n.publication.shard).version n.publication.entry.version) refl)
]
  where
    rest : Verdict
    rest = if nat_lt (f.shown n.publication.shard).version n.publication.entry.version then verdict.Begin else verdict.Again

    away : (v : Verdict) → IsAway v → IsShadow setup low (after_owner f n.publication v)
    away v (inl e) = subst (λ y. IsShadow setup low (after_owner f n.publication y)) (sym e) k
    away v (inr (inl e)) = subst (λ y. IsShadow setup low (after_owner f n.publication y)) (sym e) k
    away v (inr (inr e)) = subst (λ y. IsShadow setup low (after_owner f n.publication y)) (sym e) k

    by_version : (b : Bool) → nat_lt (f.shown n.publication.shard).version n.publication.entry.version ≡ b → IsShadow setup low (after_owner f n.publication (if b then verdict.Begin else verdict.Again))
    by_version true e = owner_shadow setup low f k n.publication (put f.shown n.publication.shard n.publication.entry) among
        (ap (λ b. put f.shown n.publication.shard (if b then n.publication.entry else f.shown n.publication.shard)) e)
    by_version false e = owner_shadow setup low f k n.publication f.shown among
        (ap (λ b. put f.shown n.publication.shard (if b then n.publication.entry else f.shown n.publication.shard)) e ∙ fun_ext (λ s. put_elim (λ x. x ≡ f.shown s) f.shown n.publication.shard (f.shown n.publication.shard) s (λ q. ap f.shown (sym q)) (λ q. refl)))

-- ---- requests

-- a server that passes a request on forwards
pub passes_on : (base : Base) (slot : Slot) (applied : ℕ) (request : Request) (to handover cut : ℕ) → routed base slot applied request ≡ routing.PassOn to handover cut →
    (lacks_slots base ≡ false) × (slot.cell ≡ cell.Forwarding to handover)
passes_on base slot applied request to handover cut e = go slot.cell request e
  where
    forwards : (o : Option ℕ) (a b : ℕ) → passed_on a b base.fenced o ≡ routing.PassOn to handover cut → (a ≡ to) × (b ≡ handover)
    forwards None a b q = absurd (cc)
    forwards (Some c) a b q = by_frozen base.fenced q
      where
        by_frozen : (t : Bool) → (if t then routing.NotYet else routing.PassOn a b c) ≡ routing.PassOn to handover cut → (a ≡ to) × (b ≡ handover)
        by_frozen true q = absurd (cc)
        by_frozen false q = ((let z : a ≡ to = cc in z), (let z : b ≡ handover = cc in z))

    no_primary : (t : Bool) → (if t then routing.NotYet else routing.Execute) ≡ routing.PassOn to handover cut → ⊥
    no_primary true q = absurd (cc)
    no_primary false q = absurd (cc)

    no_receiver : (from number : ℕ) (p : Relay) → received from number base.fenced applied p ≡ routing.PassOn to handover cut → ⊥
    no_receiver from number p q = by_tests (not (p.from == from && p.handover == number)) (base.fenced || nat_lt applied p.cut) q
      where
        by_tests : (a b : Bool) → (if a then routing.NotHere else if b then routing.NotYet else routing.Execute) ≡ routing.PassOn to handover cut → ⊥
        by_tests true b q = absurd (cc)
        by_tests false true q = absurd (cc)
        by_tests false false q = absurd (cc)

    known : (b : Bool) (x : Routing) → lacks_slots base ≡ b → (if b then routing.NotHere else x) ≡ routing.PassOn to handover cut → (lacks_slots base ≡ false) × (x ≡ routing.PassOn to handover cut)
    known true x h q = absurd (cc)
    known false x h q = (h, q)

    go : (c : Cell) (r : Request) → routed base (record slot { cell = c }) applied r ≡ routing.PassOn to handover cut → (lacks_slots base ≡ false) × (c ≡ cell.Forwarding to handover)
    go cell.Absent r q = absurd (let p = (known (lacks_slots base) routing.NotHere refl q).1 in cc)
    go cell.Secondary r q = absurd (let p = (known (lacks_slots base) routing.NotHere refl q).1 in cc)
    go cell.Primary r q = absurd (no_primary (is_some slot.at_work) (known (lacks_slots base) _ refl q).1)
    go (cell.Forwarding a n) r q =
        let p = known (lacks_slots base) (passed_on a n base.fenced slot.cut) refl q in
        let e = forwards slot.cut a n p.1 in
        (p.0, ap (λ m. cell.Forwarding m n) e.0 ∙ ap (cell.Forwarding to) e.1)
    go (cell.Prepared a n) Direct q = absurd (let p = (known (lacks_slots base) routing.NotHere refl q).1 in cc)
    go (cell.Prepared a n) (Passed x) q = absurd (no_receiver a n x (known (lacks_slots base) (received a n base.fenced applied x) refl q).1)

ask_world : (x : World) (s v to number : ℕ) → x.net.cells s v ≡ cell.Forwarding to number → (world_comes x (Inner (Ask s v))).1 ≡ record x { net = record x.net { passes = x.net.passes ++ record { place = 0; shard = s; sender = v; target = to; number = number } ∷ [] } }
ask_world x s v to number e = ap (λ c. let z : World = record x { net = record x.net { passes = x.net.passes ++ option_to_list (pass_by s v (answer_by c v None 0)) } } in z) e

-- the fleet with a pass more
abbrev with_pass : Fleet → Handoff → Fleet
with_pass f h = record f { passes = f.passes ++ h ∷ [] }

abbrev shade_passed : Shade → Ticket → Shade
shade_passed q t = record q { passes = q.passes ++ t ∷ [] }

pass_shadow : (setup : Setup) (low : ℕ → ℕ → ℕ) (f : Fleet) (k : IsShadow setup low f) (h : Handoff) → IsWorldReached setup (world_by (controller f) (held_cells f) f.shown (shade_passed k.shade (ticket_of h))) → IsShadow setup low (with_pass f h)
pass_shadow setup low f k h reached = record {
  shade = shade_passed k.shade (ticket_of h);
  reached = reached;
  above = k.above;
  sizes = k.sizes;
  start = k.start;
  fence = k.fence;
  owner = k.owner;
  sent = all_map (IsLetter (sizes_of setup) k.shade) (IsLetter (sizes_of setup) (shade_passed k.shade (ticket_of h))) f.sent (λ l a. record { among = a.among; sizes = a.sizes }) k.sent;
  answers = k.answers;
  published = k.published;
  stored = k.stored;
  passes = all_push (λ a. IsAmong (k.shade.passes ++ ticket_of h ∷ []) (ticket_of a)) f.passes h
      (all_map (λ a. IsAmong k.shade.passes (ticket_of a)) (λ a. IsAmong (k.shade.passes ++ ticket_of h ∷ []) (ticket_of a)) f.passes (λ a b. among_more k.shade.passes (ticket_of h ∷ []) (ticket_of a) b) k.passes) (among_new k.shade.passes (ticket_of h));
  letters = λ lost id l e. let a = k.letters lost id l e in record { among = a.among; sizes = a.sizes };
  notices = k.notices;
  servers = k.servers;
  asked = k.asked;
  restores = all_map (IsRestore (controller f) f k.shade.last) (IsRestore (controller f) (with_pass f h) k.shade.last) (controller f).restores (λ r a. record {
    journal = a.journal;
    fence = a.fence;
    number = a.number;
    loads = a.loads;
    server = a.server;
    asked = a.asked;
    behind = a.behind;
    cells = a.cells;
  }) k.restores;
}

-- the fleet with no pass more is the same in all that counts
no_pass : (setup : Setup) (low : ℕ → ℕ → ℕ) (f : Fleet) (k : IsShadow setup low f) → IsShadow setup low (record f { passes = f.passes ++ [] })
no_pass setup low f k = subst (λ l. IsShadow setup low (record f { passes = l })) (sym (nothing f.passes)) k
  where
    nothing : (l : List Handoff) → l ++ [] ≡ l
    nothing [] = refl
    nothing (x ∷ l) = ap (λ m. x ∷ m) (nothing l)

-- a request that comes to a server keeps the fleet as its shade
pub request_shadow : (setup : Setup) (low : ℕ → ℕ → ℕ) (f : Fleet) (k : IsShadow setup low f) (s v applied : ℕ) (request : Request) → IsShadow setup low (after_request f s v applied request).1
request_shadow setup low f k s v applied request = go (request_routing f s v applied request) refl
  where
    go : (r : Routing) → request_routing f s v applied request ≡ r → IsShadow setup low (record f { passes = f.passes ++ option_to_list (handoff_by s v r) })
    go (routing.PassOn to handover cut) e =
        let p = passes_on (f.servers v).base ((f.servers v).slots s) applied request to handover cut e in
        pass_shadow setup low f k (record { shard = s; target = to; pass = record { from = v; handover = handover; cut = cut } })
        (subst (IsWorldReached setup) (ask_world (shade_of f k) s v to handover (known_cell f s v p.0 ∙ p.1)) (world_next setup (shade_of f k) (Inner (Ask s v)) k.reached tt))
    go routing.Execute e = no_pass setup low f k
    go routing.NotHere e = no_pass setup low f k
    go routing.NotYet e = no_pass setup low f k

-- ---- slots

-- sealing changes the cut alone
record IsSealed (slot new : Slot) : Type 0 where
  pub cell : new.cell ≡ slot.cell
  pub last : new.last ≡ slot.last
  pub load : new.load ≡ slot.load

seals : (slot : Slot) (handover cut : ℕ) → IsSealed slot (sealed slot handover cut)
seals slot handover cut = go slot.cell
  where
    by_number : (b : Bool) (c : Cell) → IsSealed (record slot { cell = c }) (if b then record slot { cell = c; cut = Some cut } else record slot { cell = c })
    by_number true c = record { cell = refl; last = refl; load = refl }
    by_number false c = record { cell = refl; last = refl; load = refl }

    go : (c : Cell) → IsSealed (record slot { cell = c }) (sealed (record slot { cell = c }) handover cut)
    go (cell.Prepared a n) = by_number (n == handover) (cell.Prepared a n)
    go cell.Absent = record { cell = refl; last = refl; load = refl }
    go cell.Secondary = record { cell = refl; last = refl; load = refl }
    go cell.Primary = record { cell = refl; last = refl; load = refl }
    go (cell.Forwarding a n) = record { cell = refl; last = refl; load = refl }

-- a cut that the new owner hears keeps the fleet as its shade
pub seal_shadow : (setup : Setup) (low : ℕ → ℕ → ℕ) (f : Fleet) (k : IsShadow setup low f) (h : Handoff) → IsShadow setup low (after_seal f h).1
seal_shadow setup low f k h =
    let slot = (f.servers h.target).slots h.shard in
    let same = seals slot h.pass.handover h.pass.cut in
    slot_shadow setup low f k h.shard h.target (sealed slot h.pass.handover h.pass.cut) same.cell same.last same.load

-- work that is given up keeps it so
pub abandon_shadow : (setup : Setup) (low : ℕ → ℕ → ℕ) (f : Fleet) (k : IsShadow setup low f) (s v : ℕ) → IsShadow setup low (with_slot f s v (abandoned ((f.servers v).slots s)))
abandon_shadow setup low f k s v = slot_shadow setup low f k s v (abandoned ((f.servers v).slots s)) refl refl refl
