-- Which order has its effect by an event: at a fleet, and while a reopening is under way.
use Rattle.std.proofs.Common.{◌≡◌, ◌≢◌, ◌≤◌, ◌<◌, ◌⊎◌, ℕ, suc, refl, ap, ◌∙◌, inl, inr, arith, Bool, true, false, Option, Some, None, [], ◌∷◌}
use Rattle.std.specs.Prelude.{◌==◌, if◌then◌else◌, nat_lt, slice_get}
use Rattle.std.proofs.lemmas.Bool.{cases_eq, cases_lt, eq-eqb, lt-ltb, ne_eqb}
use Rattle.sm_placement.specs.Setup.{Setup, sizes_of}
use Rattle.sm_placement.specs.Sums.{put2}
use Rattle.sm_verifier.proofs.OnePlace.{put2_cases}
use Rattle.sm_agent.specs.declared.slot.Slot.{Slot}
use Rattle.sm_agent.specs.Order.{committed}
use Rattle.sm_server.specs.declared.call.Cell.{Cell}
use Rattle.sm_server.specs.declared.call.Call.{Call}
use Rattle.sm_server.specs.Call.{served}
use Rattle.laws_network.specs.Orders.{by_served}
use Rattle.laws_network.specs.declared.delivery.Delivery.{Delivery}
use Rattle.laws_network.specs.Net.{Answer, Ask, Control, Deliver, Order, Pass, Quiet, Send, Ticket, after_delivery, at_place, delivered, delivery_of, passed, real_delivery, replied}
use Rattle.laws_network.specs.Laws.{order_served}
use Rattle.laws_network.specs.World.{Inner, Propose, Publication, Store, Stored, WorldEvent, by_place, kept_by, within}
use Rattle.laws_network.specs.Controller.{Letter}
use Rattle.laws_network.specs.Fleet.{Abandon, Commit, End, Fleet, FleetEvent, FleetOutcome, Forget, HearAsk, HearOwner, HearServer, Judge, Make, Open, Publish, Receive, Recover, Seal, SendOrder, SendPublication, Serve, after_commit, after_work, by_message, controller, fleet_comes, order_read, slot_for}
use Rattle.laws_network.specs.FleetLaws.{order_committed}
use Rattle.laws_network.specs.Reopening.{Arrives, Comes, Fence, Fenced, Forgets, MapOwner, Message, NetOutcome, Party, Records, Restore, Server, Settle, Settled, Settling, SettlingEvent, after_fence, arrives, forgets, granted, in_world, inventory_by, is_fenced_at, is_settled_at, names_nonce, part_taken, put_party, settling_comes, takes, takes_number, takes_request, takes_settle, unknown_base, with_messages}
use Rattle.laws_network.specs.FleetReopening.{IsOneOf}
use Rattle.laws_network.proofs.AtServer.{IsCommit, commit_is}
use Rattle.laws_network.proofs.Deliveries.{committed_above, effect_shadow}
use Rattle.laws_network.proofs.Lists.{all_at}
use Rattle.laws_network.proofs.Overlay.{put2-at}
use Rattle.laws_network.proofs.Shadow.{IsLetter, IsShadow}

-- ---- at a fleet

-- an order has its effect: it is above what its cell has seen, and above the last reopening
pub record IsAct (setup : Setup) (low : ℕ → ℕ → ℕ) (f : Fleet) (o : Order) (new : Fleet) : Type 0 where
  pub above : low o.call.shard o.call.server < o.number
  pub fence : (controller f).fence < o.number
  pub next : IsShadow setup (put2 low o.call.shard o.call.server o.number) new

abbrev pub ActsOr : (setup : Setup) (low : ℕ → ℕ → ℕ) (f : Fleet) → FleetOutcome × Fleet → Type 0
ActsOr setup low f r = (order_committed r.0 ≡ []) ⊎ ((o : Order) × (order_committed r.0 ≡ o ∷ []) × IsAct setup low f o r.1)

quiet : {A : Type 0} (f : Fleet) (g : A → FleetOutcome × Fleet) (o : Option A) → ((x : A) → order_committed (g x).0 ≡ []) → order_committed (by_message f g o).0 ≡ []
quiet f g None h = refl
quiet f g (Some x) h = h x

module _ (setup : Setup) (low : ℕ → ℕ → ℕ) (f : Fleet) (k : IsShadow setup low f) where
  act : (l : Letter) (at : ℕ) (slot : Slot) → IsLetter (sizes_of setup) k.shade l → IsCommit (f.servers l.order.call.server).base (slot_for f l) (order_read l) at slot → IsAct setup low f l.order (after_work f l (Some slot)).1
  act l at slot i c =
      let above = committed_above setup low f k l at slot c in record {
        above = (let p = k.above l.order.call.shard l.order.call.server in omega arith);
        fence = (let p = (k.servers l.order.call.server c.heard.known).fence in let q = c.heard.above in omega arith);
        next = effect_shadow setup low f k l at slot i c above;
      }

  -- an event commits an order that is above, or none
  pub acts_or : (e : FleetEvent) → ActsOr setup low f (fleet_comes f e)
  acts_or (Commit place at) = go (slice_get f.sent place) refl
    where
      by_work : (l : Letter) → IsLetter (sizes_of setup) k.shade l → (o : Option Slot) → committed (f.servers l.order.call.server).base (slot_for f l) (order_read l) at ≡ o → ActsOr setup low f (after_work f l o)
      by_work l i None e = inl refl
      by_work l i (Some slot) e = inr (l.order, refl, act l at slot i (commit_is (f.servers l.order.call.server).base (slot_for f l) (order_read l) at slot e))

      go : (o : Option Letter) → slice_get f.sent place ≡ o → ActsOr setup low f (by_message f (after_commit f at) o)
      go None e = inl refl
      go (Some l) e = by_work l (all_at (IsLetter (sizes_of setup) k.shade) f.sent place l k.sent e) (committed (f.servers l.order.call.server).base (slot_for f l) (order_read l) at) refl
  acts_or (Make x) = inl refl
  acts_or (End v permit) = inl refl
  acts_or (Open room) = inl refl
  acts_or (HearServer place) = inl (quiet f _ (slice_get f.answers place) (λ x. refl))
  acts_or (HearOwner place) = inl (quiet f _ (slice_get f.stored place) (λ x. refl))
  acts_or (HearAsk place) = inl (quiet f _ (slice_get f.asks place) (λ x. refl))
  acts_or (SendOrder lost id) = inl refl
  acts_or (SendPublication lost id) = inl refl
  acts_or (Judge place) = inl (quiet f _ (slice_get f.sent place) (λ x. refl))
  acts_or (Abandon s v) = inl refl
  acts_or (Publish place) = inl (quiet f _ (slice_get f.published place) (λ x. refl))
  acts_or (Serve s v applied) = inl refl
  acts_or (Receive place applied) = inl (quiet f _ (slice_get f.passes place) (λ x. refl))
  acts_or (Seal place) = inl (quiet f _ (slice_get f.passes place) (λ x. refl))
  acts_or (Forget v) = inl refl
  acts_or (Recover place v) = inl (quiet f _ (slice_get (controller f).restores place) (λ x. refl))

-- ---- while a reopening is under way

-- an order that is served is above the last one of its cell
served_above : (c : Cell) (last number free load : ℕ) (call : Call) (next : Cell) → delivery_of c last number free load call ≡ Delivery.Served next → last < number
served_above c last number free load call next e = by_lower (nat_lt number last) refl e
  where
    by_same : (b : Bool) → (number == last) ≡ b → nat_lt number last ≡ false → (if b then Delivery.Again else by_served (served c free load true call)) ≡ Delivery.Served next → last < number
    by_same true q l z = absurd (cc)
    by_same false q l z = elim (cases_lt last number) [
      | inl a ↦ a
      | inr a ↦ elim (cases_eq number last) [
        | inl m ↦ absurd (let y = eq-eqb number last m in cc)
        | inr m ↦ absurd (let y = lt-ltb number last (omega arith) in cc)
      ]
    ]

    by_lower : (b : Bool) → nat_lt number last ≡ b → (if b then Delivery.Old else if number == last then Delivery.Again else by_served (served c free load true call)) ≡ Delivery.Served next → last < number
    by_lower true l z = absurd (cc)
    by_lower false l z = by_same (number == last) refl l z

-- an order has its effect at a server that takes it
pub record IsServedBy (x y : Settling) (o : Order) : Type 0 where
  pub sent : IsOneOf x.world.net.sent o
  pub taken : takes_number (x.bases (Server o.call.server)) o.number ≡ true
  pub above : x.world.net.last o.call.shard o.call.server < o.number
  pub last : y.world.net.last o.call.shard o.call.server ≡ o.number
  pub base : y.bases (Server o.call.server) ≡ x.bases (Server o.call.server)

-- The effect of an event on last numbers: none is lower afterwards, but of a server that has lost its slots; and one order has its effect, or none.
pub record IsTold (x : Settling) (r : NetOutcome × Settling) : Type 0 where
  pub lasts : (s v : ℕ) → (x.world.net.last s v ≤ r.1.world.net.last s v) ⊎ ((r.1.bases (Server v)).nonce ≢ None)
  pub served : (order_served r.0 ≡ []) ⊎ ((o : Order) × (order_served r.0 ≡ o ∷ []) × IsServedBy x r.1 o)

same_lasts : (x : Settling) (s v : ℕ) → x.world.net.last s v ≤ x.world.net.last s v
same_lasts x s v = omega arith

unmoved : (x : Settling) → IsTold x (Quiet, x)
unmoved x = record { lasts = λ s v. inl (same_lasts x s v); served = inl refl }

module _ (x : Settling) where
  order_told : (k : ℕ) (o : Order) → slice_get x.world.net.sent k ≡ Some o → takes_number (x.bases (Server o.call.server)) o.number ≡ true → (d : Delivery) → real_delivery x.world.net o ≡ d → IsTold x (in_world x (within x.world (after_delivery x.world.net o d)))
  order_told k o q t Delivery.Old e = record { lasts = λ s v. inl (same_lasts x s v); served = inl refl }
  order_told k o q t Delivery.Again e = record { lasts = λ s v. inl (same_lasts x s v); served = inl refl }
  order_told k o q t (Delivery.Refused why) e = record { lasts = λ s v. inl (same_lasts x s v); served = inl refl }
  order_told k o q t (Delivery.Served next) e = record {
    lasts = λ s v. inl (elim (put2_cases x.world.net.last o.call.shard o.call.server o.number s v) [
      | inl h ↦ (
          let a = served_above _ (x.world.net.last o.call.shard o.call.server) o.number _ _ o.call.call next e in
          let b : x.world.net.last s v ≡ x.world.net.last o.call.shard o.call.server = ap (λ z. x.world.net.last z v) h.0 ∙ ap (x.world.net.last o.call.shard) h.1 in
          let c = h.2 in
          omega arith
          )
      | inr h ↦ (let c = h.1 in omega arith)
    ]);
    served = inr (
      o,
      refl,
      record {
        sent = (k, q);
        taken = t;
        above = served_above _ (x.world.net.last o.call.shard o.call.server) o.number _ _ o.call.call next e;
        last = put2-at x.world.net.last o.call.shard o.call.server o.number o.call.shard o.call.server refl refl;
        base = refl;
      },
    );
  }

  comes_told : (e : WorldEvent) → IsTold x (settling_comes x (Comes e))
  comes_told (Inner (Deliver k)) = by_order (slice_get x.world.net.sent k) refl
    where
      by_test : (o : Order) → slice_get x.world.net.sent k ≡ Some o → (b : Bool) → takes_number (x.bases (Server o.call.server)) o.number ≡ b → IsTold x (if b then in_world x (within x.world (delivered x.world.net o)) else (Quiet, x))
      by_test o q false e = unmoved x
      by_test o q true e = order_told k o q e (real_delivery x.world.net o) refl

      by_order : (q : Option Order) → slice_get x.world.net.sent k ≡ q →
          IsTold x (if takes (λ (o : Order). takes_number (x.bases (Server o.call.server)) o.number) q then in_world x (within x.world (at_place x.world.net delivered q)) else (Quiet, x))
      by_order None q = unmoved x
      by_order (Some o) q = by_test o q (takes_number (x.bases (Server o.call.server)) o.number) refl
  comes_told (Inner (Ask s v)) = by_test (takes_request x s v)
    where
      by_test : (b : Bool) → IsTold x (if b then in_world x (within x.world (replied x.world.net s v None)) else (Quiet, x))
      by_test false = unmoved x
      by_test true = record { lasts = λ r u. inl (same_lasts x r u); served = inl refl }
  comes_told (Inner (Pass k)) = by_pass (slice_get x.world.net.passes k)
    where
      by_test : (t : Ticket) (b : Bool) → IsTold x (if b then in_world x (within x.world (replied x.world.net t.shard t.target (Some t))) else (Quiet, x))
      by_test t false = unmoved x
      by_test t true = record { lasts = λ r u. inl (same_lasts x r u); served = inl refl }

      by_pass : (q : Option Ticket) → IsTold x (if takes (λ (t : Ticket). takes_request x t.shard t.target) q then in_world x (within x.world (passed x.world.net q)) else (Quiet, x))
      by_pass None = unmoved x
      by_pass (Some t) = by_test t (takes_request x t.shard t.target)
  comes_told (Store k) = by_publication (slice_get x.world.published k)
    where
      by_test : (p : Publication) (b : Bool) → IsTold x (if b then in_world x (Quiet, kept_by x.world p) else (Quiet, x))
      by_test p false = unmoved x
      by_test p true = record { lasts = λ r u. inl (same_lasts x r u); served = inl refl }

      by_publication : (q : Option Publication) → IsTold x (if takes (λ (p : Publication). takes_number (x.bases MapOwner) p.entry.version) q then in_world x (by_place x.world (λ y p. (Quiet, kept_by y p)) q) else (Quiet, x))
      by_publication None = unmoved x
      by_publication (Some p) = by_test p (takes_number (x.bases MapOwner) p.entry.version)
  comes_told (Inner (Control e)) = unmoved x
  comes_told (Inner (Send id)) = unmoved x
  comes_told (Inner (Answer k)) = unmoved x
  comes_told (Propose id) = unmoved x
  comes_told (Stored k) = unmoved x

  -- a message changes no last number
  message_lasts : (reached : ℕ → Bool) (o : Option Message) → (arrives x reached o).world.net.last ≡ x.world.net.last
  message_lasts reached None = refl
  message_lasts reached (Some (Fence p number)) = go (is_fenced_at number (after_fence (x.bases p) number x.nonces))
    where
      go : (b : Bool) →
          (if b then with_messages (record x { bases = put_party x.bases p (after_fence (x.bases p) number x.nonces); nonces = suc x.nonces })
          (Fenced p number (inventory_by x p (after_fence (x.bases p) number x.nonces).nonce reached) ∷ [])
          else (record x { bases = put_party x.bases p (after_fence (x.bases p) number x.nonces); nonces = suc x.nonces })).world.net.last ≡ x.world.net.last
      go true = refl
      go false = refl
  message_lasts reached (Some (Settle p number asked s)) = go p (takes_settle number asked (x.bases p)) (is_settled_at number (x.bases p))
    where
      go : (p : Party) (a b : Bool) → (if a then with_messages (part_taken x p number s) (Settled p number ∷ []) else if b then with_messages x (Settled p number ∷ []) else x).world.net.last ≡ x.world.net.last
      go (Server v) true b = refl
      go MapOwner true b = refl
      go p false true = refl
      go p false false = refl
  message_lasts reached (Some (Restore v asked number sizes cells)) = go (names_nonce (x.bases (Server v)).nonce (Some asked))
    where
      go : (b : Bool) → (if b then granted x v number sizes cells else x).world.net.last ≡ x.world.net.last
      go true = refl
      go false = refl
  message_lasts reached (Some (Fenced p number i)) = refl
  message_lasts reached (Some (Settled p number)) = refl

  loss_told : (u : ℕ) → IsTold x (Quiet, forgets x u)
  loss_told u = record { lasts = lasts; served = inl refl }
    where
      lasts : (s v : ℕ) → (x.world.net.last s v ≤ (forgets x u).world.net.last s v) ⊎ (((forgets x u).bases (Server v)).nonce ≢ None)
      lasts s v = elim (cases_eq v u) [
        | inr n ↦ inl (let e : (forgets x u).world.net.last s v ≡ x.world.net.last s v = ap (λ b. if b then 0 else x.world.net.last s v) (ne_eqb v u n) in omega arith)
        | inl m ↦ inr (λ z. absurd (let e : ((forgets x u).bases (Server v)).nonce ≡ Some x.nonces = ap (λ b. (if b then unknown_base x.nonces else x.bases (Server v)).nonce) (eq-eqb v u m) in cc))
      ]

-- what each event does
pub told_of : (x : Settling) (e : SettlingEvent) → IsTold x (settling_comes x e)
told_of x (Comes e) = comes_told x e
told_of x (Arrives k reached) = record { lasts = λ s v. inl (let e = ap (λ (f : ℕ → ℕ → ℕ). f s v) (message_lasts x reached (slice_get x.messages k)) in omega arith); served = inl refl }
told_of x (Forgets u) = loss_told x u
told_of x (Records e) = record { lasts = λ s v. inl (same_lasts x s v); served = inl refl }
