-- The servers that execute requests, what they have room for, and what the map shows, while a reopening is under way.
use Rattle.std.proofs.Common.{◌≢◌, ◌≡◌, ◌⊎◌, ℕ, refl, sym, ap, ◌∙◌, inl, inr, subst, Bool, true, false, Option, Some, None}
use Rattle.std.specs.Prelude.{◌==◌, ◌&&◌, option_map, if◌then◌else◌, slice_get}
use Rattle.std.proofs.lemmas.Bool.{cases_Bool, cases_lt}
use Rattle.sm_server.specs.declared.call.Cell.{Cell}
use Rattle.sm_server.specs.declared.call.Cell.TheVariants as cell
use Rattle.sm_placement.specs.Setup.{Setup, sizes_of}
use Rattle.sm_placement.specs.SafePlace.{IsServing}
use Rattle.sm_protocol.proofs.Courses.{some_same}
use Rattle.sm_protocol.specs.Happens.{answer_by}
use Rattle.sm_protocol.specs.declared.event.Played.{Played}
use Rattle.sm_protocol.specs.declared.event.Played.TheVariants as played
use Rattle.laws_network.specs.Net.{Answer, Ask, Control, Deliver, Delivery, Net, NetEvent, NetOutcome, Order, Pass, Quiet, Refusal, Refused, Replied, Send, Ticket, after_delivery, at_place, comes, delivered, passed, real, real_delivery, replied}
use Rattle.laws_network.specs.Laws.{shard_asked}
use Rattle.laws_network.specs.World.{Entry, Inner, Propose, Publication, Store, Stored, World, by_place, kept_by}
use Rattle.laws_network.specs.World.{within}
use Rattle.laws_network.specs.Reopening.{Arrives, Comes, Forgets, MapOwner, Records, Server, Settling, Slots, in_world, is_handing, takes, takes_number, takes_request}
use Rattle.laws_network.specs.ReopeningLaws.{EachSettling, Executes, ExecutesSafely, LoadsFit, ShownExecutes, ToldIsHad, IsWithinRoom, RefusesNone}
use Rattle.laws_network.proofs.Begun.{each_steady}
use Rattle.laws_network.proofs.Coming.{acts, knows, put_over, rests, same_delivery}
use Rattle.laws_network.proofs.Fair.{one_primary}
use Rattle.laws_network.proofs.Raised.{executes_where_serving, none_is_refused}
use Rattle.laws_network.proofs.Reopened.{IsHeld}
use Rattle.laws_network.proofs.Shown.{net_is_reached, shown_is_right}
use Rattle.laws_network.proofs.Standing.{Last}

-- who executes has the primary, or is prepared
executed_by : (c : Cell) (u v : ℕ) (sent : Option Ticket) → answer_by c u sent 0 ≡ played.Executed v → (u ≡ v) × ((c ≡ cell.Primary) ⊎ (is_handing c ≡ true))
executed_by cell.Primary u v sent e = ((cc), inl refl)
executed_by cell.Absent u v sent e = absurd (cc)
executed_by cell.Secondary u v sent e = absurd (cc)
executed_by (cell.Forwarding a n) u v sent e = absurd (cc)
executed_by (cell.Prepared a n) u v None e = absurd (cc)
executed_by (cell.Prepared a n) u v (Some t) e = go ((a == t.sender) && (n == t.number)) e
  where
    go : (b : Bool) → (if b then played.Executed u else played.NotOwner) ≡ played.Executed v → (u ≡ v) × ((cell.Prepared a n ≡ cell.Primary) ⊎ (is_handing (cell.Prepared a n) ≡ true))
    go true e = ((cc), inr refl)
    go false e = absurd (cc)

replied_same : (a b : Played) → Replied a ≡ Replied b → a ≡ b
replied_same a b e = cc

module _ (setup : Setup) (w : World) (first since : ℕ) (l : Option Last) (x0 : Settling) (C : ℕ → ℕ → Cell) (L : ℕ → ℕ → ℕ) (S : ℕ → Entry) (h : IsHeld setup w first since l (record x0 { world = put_over w C L S })) where
  abbrev x : Settling
  x = record x0 { world = put_over w C L S }

  abbrev Y : World
  Y = put_over w C L S

  -- a server that executes replies by its own slots, to a request that may come in the network's own world
  record IsExecuting (s v : ℕ) : Type 0 where
    pub event : NetEvent
    pub sent : Option Ticket
    pub asked : shard_asked w.net event ≡ Some s
    pub same : comes w.net event ≡ replied w.net s v sent
    pub taken : takes_request x s v ≡ true
    pub reply : answer_by (C s v) v sent 0 ≡ played.Executed v

  executing : (s v : ℕ) → Executes x s v → IsExecuting s v
  executing s v (Inner (Ask r u), a, e) = by_test (takes_request x r u) refl e
    where
      is : r ≡ s
      is = some_same r s a

      by_test : (b : Bool) → takes_request x r u ≡ b → (if b then in_world x (within Y (replied Y.net r u None)) else (Quiet, x)).0 ≡ Replied (played.Executed v) → IsExecuting s v
      by_test false q e = absurd (cc)
      by_test true q e =
          let z = replied_same _ _ e in
          let y = executed_by (C r u) u v None z in
          subst (λ k. IsExecuting k v) is (subst (IsExecuting r) y.0 (record { event = Ask r u; sent = None; asked = refl; same = refl; taken = q; reply = z ∙ ap played.Executed (sym y.0) }))
  executing s v (Inner (Pass k), a, e) = by_pass (slice_get w.net.passes k) refl a e
    where
      by_test : (t : Ticket) → slice_get w.net.passes k ≡ Some t → t.shard ≡ s → (b : Bool) → takes_request x t.shard t.target ≡ b →
          (if b then in_world x (within Y (replied Y.net t.shard t.target (Some t))) else (Quiet, x)).0 ≡ Replied (played.Executed v) → IsExecuting s v
      by_test t g is false q e = absurd (cc)
      by_test t g is true q e =
          let z = replied_same _ _ e in
          let y = executed_by (C t.shard t.target) t.target v (Some t) z in
          subst (λ k. IsExecuting k v) is (subst (IsExecuting t.shard) y.0 (record { event = Pass k; sent = Some t; asked = ap (option_map (λ (t : Ticket). t.shard)) g; same = ap (passed w.net) g; taken = q; reply = z ∙ ap played.Executed (sym y.0) }))

      by_pass : (q : Option Ticket) → slice_get w.net.passes k ≡ q → option_map (λ (t : Ticket). t.shard) q ≡ Some s →
          (if takes (λ (t : Ticket). takes_request x t.shard t.target) q then in_world x (within Y (passed Y.net q)) else (Quiet, x)).0 ≡ Replied (played.Executed v) → IsExecuting s v
      by_pass None g a e = absurd (cc)
      by_pass (Some t) g a e = by_test t g (some_same t.shard s a) (takes_request x t.shard t.target) refl e
  executing s v (Inner (Control d), a, e) = absurd (cc)
  executing s v (Inner (Send id), a, e) = absurd (cc)
  executing s v (Inner (Deliver k), a, e) = absurd (cc)
  executing s v (Inner (Answer k), a, e) = absurd (cc)
  executing s v (Propose id, a, e) = absurd (cc)
  executing s v (Store k, a, e) = absurd (cc)
  executing s v (Stored k, a, e) = absurd (cc)

  module _ (s v : ℕ) (e : IsExecuting s v) where
    its_slots : (x.bases (Server v)).nonce ≡ None
    its_slots = knows setup w first since l x0 C L S h s v e.taken

    -- if something was confirmed it is the primary that was settled
    is_primary : (k : Last) → l ≡ Some k → k.settlement.place.cells s v ≡ cell.Primary
    is_primary k q = elim (executed_by (C s v) v v e.sent e.reply).1 [
      | inl p ↦ ((h.servers v).partly k q its_slots).frozen s p
      | inr z ↦ absurd (let y = rests setup w first since l x0 C L S h s v e.taken k q in cc)
    ]

    -- and if nothing was it serves in the network's own world
    serves_there : l ≡ None → IsServing (real w.net) s v × ((u : ℕ) → IsServing (real w.net) s u → u ≡ v)
    serves_there q = executes_where_serving setup w.net (net_is_reached setup w h.reached) e.event s v e.asked
        (ap (λ (r : NetOutcome × Net). r.0) e.same ∙ ap Replied (ap (λ c. answer_by c v e.sent 0) (sym (((h.servers v).untouched unpromised its_slots).cells s)) ∙ e.reply))
      where
        unpromised : x.reopening.promised v ≡ false
        unpromised = elim (cases_Bool (x.reopening.promised v)) [ inl y ↦ absurd (((h.servers v).touched y).confirmed q) | inr n ↦ n ]

    frozen_primary : (x.bases (Server v)).fenced ≡ true → C s v ≡ cell.Primary
    frozen_primary q = elim (executed_by (C s v) v v e.sent e.reply).1 [
      | inl p ↦ p
      | inr z ↦ absurd (go (x.bases (Server v)).fenced q (acts setup w first since l x0 C L S h s v e.taken) z)
    ]
      where
        go : (b : Bool) → b ≡ true → (b && is_handing (C s v)) ≡ false → is_handing (C s v) ≡ true → ⊥
        go true q a z = absurd (cc)
        go false q a z = absurd (cc)

  one_executes : (s u v : ℕ) → Executes x s u → Executes x s v → u ≡ v
  one_executes s u v a b = by_last l refl
    where
      by_last : (q : Option Last) → l ≡ q → u ≡ v
      by_last None q = (serves_there s v (executing s v b) q).1 u (serves_there s u (executing s u a) q).0
      by_last (Some k) q = let o = h.controller.opening k q in
          one_primary k.settlement.setup k.settlement.place k.settlement.room o s u v (is_primary s u (executing s u a) k q) (is_primary s v (executing s v b) k q)

  safe : ExecutesSafely x
  safe = record {
    one = one_executes;
    slots = λ s v a. its_slots s v (executing s v a);
    frozen = λ s v a. frozen_primary s v (executing s v a);
  }

  -- loads are within rooms
  pub fits : LoadsFit x
  fits v q = by_promise (x.reopening.promised v) refl
    where
      by_promise : (p : Bool) → x.reopening.promised v ≡ p → IsWithinRoom (x.sizes v) C v
      by_promise true p = ((h.servers v).touched p).loads q
      by_promise false p = ((h.servers v).untouched p q).loads

  -- an order that comes is refused only if it is refused there
  refused_there : (o : Order) (d : Delivery) (why : Refusal) → (after_delivery Y.net o d).0 ≡ Refused why → (after_delivery w.net o d).0 ≡ Refused why
  refused_there o Delivery.Old why e = absurd (cc)
  refused_there o Delivery.Again why e = absurd (cc)
  refused_there o (Delivery.Served next) why e = absurd (cc)
  refused_there o (Delivery.Refused y) why e = e

  refuses_no_order : (k : ℕ) (q : Option Order) → slice_get w.net.sent k ≡ q → (why : Refusal) →
      (if takes (λ (o : Order). takes_number (x.bases (Server o.call.server)) o.number) q then in_world x (within Y (at_place Y.net delivered q)) else (Quiet, x)).0 ≢ Refused why
  refuses_no_order k None got why e = absurd (cc)
  refuses_no_order k (Some o) got why e = by_test (takes_number (x.bases (Server o.call.server)) o.number) refl e
    where
      by_test : (b : Bool) → takes_number (x.bases (Server o.call.server)) o.number ≡ b → (if b then in_world x (within Y (delivered Y.net o)) else (Quiet, x)).0 ≢ Refused why
      by_test false t e = absurd (cc)
      by_test true t e = (none_is_refused setup w.net (net_is_reached setup w h.reached) (Deliver k) tt).0 why
          (ap (λ q. (at_place w.net delivered q).0) got
          ∙ ap (λ d. (after_delivery w.net o d).0) (sym (same_delivery setup w first since l x0 C L S h k o got t))
          ∙ refused_there o (real_delivery Y.net o) why e)

  not_replied : (s v : ℕ) (sent : Option Ticket) (b : Bool) (why : Refusal) → (if b then in_world x (within Y (replied Y.net s v sent)) else (Quiet, x)).0 ≢ Refused why
  not_replied s v sent true why e = absurd (cc)
  not_replied s v sent false why e = absurd (cc)

  refuses : RefusesNone x
  refuses (Comes (Inner (Deliver k))) why e = refuses_no_order k (slice_get w.net.sent k) refl why e
  refuses (Comes (Inner (Ask s v))) why e = not_replied s v None (takes_request x s v) why e
  refuses (Comes (Inner (Pass k))) why e = by_pass (slice_get w.net.passes k) e
    where
      by_pass : (q : Option Ticket) → (if takes (λ (t : Ticket). takes_request x t.shard t.target) q then in_world x (within Y (passed Y.net q)) else (Quiet, x)).0 ≢ Refused why
      by_pass None e = absurd (cc)
      by_pass (Some t) e = not_replied t.shard t.target (Some t) (takes_request x t.shard t.target) why e
  refuses (Comes (Store k)) why e = by_publication (slice_get w.published k) e
    where
      by_test : (p : Publication) (b : Bool) → (if b then in_world x (Quiet, kept_by Y p) else (Quiet, x)).0 ≢ Refused why
      by_test p true e = absurd (cc)
      by_test p false e = absurd (cc)

      by_publication : (q : Option Publication) → (if takes (λ (p : Publication). takes_number (x.bases MapOwner) p.entry.version) q then in_world x (by_place Y (λ y p. (Quiet, kept_by y p)) q) else (Quiet, x)).0 ≢ Refused why
      by_publication None e = absurd (cc)
      by_publication (Some p) e = by_test p (takes_number (x.bases MapOwner) p.entry.version) e
  refuses (Comes (Inner (Control d))) why e = absurd (cc)
  refuses (Comes (Inner (Send id))) why e = absurd (cc)
  refuses (Comes (Inner (Answer k))) why e = absurd (cc)
  refuses (Comes (Propose id)) why e = absurd (cc)
  refuses (Comes (Stored k)) why e = absurd (cc)
  refuses (Arrives k reached) why e = absurd (cc)
  refuses (Forgets v) why e = absurd (cc)
  refuses (Records d) why e = absurd (cc)

  told : ToldIsHad x
  told v cells reached t u q s = (((h.servers v).told u (Slots cells reached) t).still q).2 s

  shown : ShownExecutes x
  shown s u v e unfenced known free b = by_last l refl
    where
      by_last : (q : Option Last) → l ≡ q → (u ≡ v) ⊎ ((number : ℕ) × (C s u ≡ cell.Forwarding v number))
      by_last (Some k) q =
          let o = h.controller.opening k q in
          let is : k.settlement.place.listed s ≡ Some u = ap (λ (z : Entry). z.server) (sym ((h.shown.last k q unfenced).0 s)) ∙ e in
          elim (cases_lt s (sizes_of k.settlement.setup).shards) [
            | inl below ↦ inl (one_primary k.settlement.setup k.settlement.place k.settlement.room o s u v (o.settled.listed s u below is) (is_primary s v (executing s v b) k q))
            | inr above ↦ absurd (let z = o.placement.no_entry s above in cc)
          ]
      by_last None q =
          let there = serves_there s v (executing s v b) q in
          let unpromised : x.reopening.promised u ≡ false = elim (cases_Bool (x.reopening.promised u)) [ inl y ↦ absurd (((h.servers u).touched y).confirmed q) | inr n ↦ n ] in
          elim (shown_is_right setup w h.reached s u (ap (λ (z : Entry). z.server) (sym (h.shown.first q s)) ∙ e)) [
            | inl y ↦ inl (there.1 u y)
            | inr y ↦ inr (y.1, ((h.servers u).untouched unpromised known).cells s ∙ subst (λ a. w.net.cells s u ≡ cell.Forwarding a y.1) (there.1 y.0 y.3) y.2)
          ]

-- ---- laws

-- what holds where a world is laid over the network's own, holds wherever events lead
pub by_worlds : (P : Settling → Type 0) →
    ((setup : Setup) (w : World) (first since : ℕ) (l : Option Last) (x0 : Settling) (C : ℕ → ℕ → Cell) (L : ℕ → ℕ → ℕ) (S : ℕ → Entry) → IsHeld setup w first since l (record x0 { world = put_over w C L S }) → P (record x0 { world = put_over w C L S })) → EachSettling P
by_worlds P all setup x r =
    let t = each_steady setup x r in
    subst (λ z. P (record x { world = z })) (sym t.held.over)
    (all setup t.world t.first t.since t.last x x.world.net.cells x.world.net.last x.world.shown (subst (λ z. IsHeld setup t.world t.first t.since t.last (record x { world = z })) t.held.over t.held))

-- one server executes, by its slots
pub executes_safely : EachSettling ExecutesSafely
executes_safely = by_worlds ExecutesSafely safe

-- loads are within rooms
pub loads_fit : EachSettling LoadsFit
loads_fit = by_worlds LoadsFit fits

-- what was told is there
pub told_is_had : EachSettling ToldIsHad
told_is_had = by_worlds ToldIsHad told

-- the map shows who executes
pub shown_executes : EachSettling ShownExecutes
shown_executes = by_worlds ShownExecutes shown

-- no order is refused
pub refuses_none : EachSettling RefusesNone
refuses_none = by_worlds RefusesNone refuses
