-- The effect of an event on a server while a reopening is under way, and to what was sent before it.
use Rattle.std.proofs.Common.{◌≡◌, ◌≤◌, ◌<◌, ℕ, suc, refl, sym, ap, inl, inr, subst, arith, Bool, true, false, Option, Some, None, [], ◌∷◌}
use Rattle.std.specs.Prelude.{◌==◌, if◌then◌else◌, slice_get}
use Rattle.std.proofs.Math.Path.{fun_ext}
use Rattle.std.proofs.lemmas.Bool.{cases_eq, eq-eqb, ne_eqb}
use Rattle.sm_server.specs.declared.call.Cell.{Cell}
use Rattle.sm_server.specs.declared.call.Cell.TheVariants.{Absent}
use Rattle.sm_placement.specs.Setup.{Sizes}
use Rattle.laws_network.specs.declared.delivery.Delivery.{Delivery}
use Rattle.laws_network.specs.Net.{Answer, Ask, Control, Deliver, Order, Pass, Quiet, Send, Ticket, after_delivery, at_place, delivered, passed, real_delivery, replied}
use Rattle.laws_network.specs.World.{Inner, Propose, Publication, Store, Stored, WorldEvent, by_place, kept_by, within}
use Rattle.laws_network.specs.Reopening.{Arrives, Base, Comes, Fence, Fenced, Forgets, MapOwner, Message, Party, Records, Restore, Server, Settle, Settled, Settlement, Settling, SettlingEvent, after_fence, arrives, fence_comes, forgets, granted, in_world, inventory_by, is_fenced_at, is_settled_at, names_nonce, part_taken, put_party, settle_comes, settled_base, settling_comes, takes, takes_number, takes_request, takes_settle, unknown_base, with_messages}
use Rattle.laws_network.specs.FleetReopening.{IsOneOf}
use Rattle.laws_network.proofs.Overlay.{put2-other}

-- a server, by its base and its cells
pub record At : Type 0 where
  pub base : Base
  pub cells : ℕ → Cell

-- a server as it stands
abbrev pub at : Settling → ℕ → At
at x v = record { base = x.bases (Server v); cells = λ s. x.world.net.cells s v }

-- a server, by its base and its cells
abbrev pub with_base : At → Base → At
with_base a base = record a { base = base }

-- one that takes its part of a settlement
abbrev pub settled_at : ℕ → ℕ → Settlement → At
settled_at v number s = record { base = settled_base number; cells = λ k. s.place.cells k v }

-- The state of a server after an event: nothing; an order has its effect; it takes a fence, a settle or a restore, or looks at the fence and
-- leaves it; or it forgets.
pub data Becomes (x : Settling) (nonces v : ℕ) (b : At) : Type 0 where
  Stays : b ≡ at x v → Becomes x nonces v b
  Obeys : (o : Order) → IsOneOf x.world.net.sent o → takes_number (x.bases (Server v)) o.number ≡ true → b.base ≡ x.bases (Server v) → Becomes x nonces v b
  Heeds : (number : ℕ) → IsOneOf x.messages (Fence (Server v) number) → x.nonces < nonces → b ≡ with_base (at x v) (after_fence (x.bases (Server v)) number x.nonces) → Becomes x nonces v b
  Settles : (number : ℕ) (nonce : Option ℕ) (s : Settlement) → IsOneOf x.messages (Settle (Server v) number nonce s) → takes_settle number nonce (x.bases (Server v)) ≡ true → b ≡ settled_at v number s → Becomes x nonces v b
  Recovers : (nonce number : ℕ) (sizes : Sizes) (cells : ℕ → Cell) → IsOneOf x.messages (Restore v nonce number sizes cells) → names_nonce (x.bases (Server v)).nonce (Some nonce) ≡ true → b.base ≡ settled_base number → Becomes x nonces v b
  Loses : x.nonces < nonces → b.base ≡ unknown_base x.nonces → Becomes x nonces v b

-- what an event does
pub record IsEffect (x y : Settling) : Type 0 where
  pub sent : y.world.net.sent ≡ x.world.net.sent
  pub nonces : x.nonces ≤ y.nonces
  pub servers : (v : ℕ) → Becomes x y.nonces v (at y v)

-- nothing
still : (x : Settling) → IsEffect x x
still x = record { sent = refl; nonces = omega arith; servers = λ v. Stays refl }

-- ---- something of the epoch before comes

module _ (x : Settling) where
  -- an order comes to its server
  order_does : (k : ℕ) (o : Order) → slice_get x.world.net.sent k ≡ Some o → takes_number (x.bases (Server o.call.server)) o.number ≡ true → (d : Delivery) → IsEffect x (in_world x (within x.world (after_delivery x.world.net o d))).1
  order_does k o q t Delivery.Old = still x
  order_does k o q t Delivery.Again = record { sent = refl; nonces = omega arith; servers = λ v. Stays refl }
  order_does k o q t (Delivery.Refused why) = still x
  order_does k o q t (Delivery.Served next) = record {
    sent = refl;
    nonces = omega arith;
    servers = λ v. elim (cases_eq v o.call.server) [
      | inl e ↦ Obeys o (k, q) (subst (λ u. takes_number (x.bases (Server u)) o.number ≡ true) (sym e) t) refl
      | inr n ↦ Stays (ap (λ (c : ℕ → Cell). let a : At = record { base = x.bases (Server v); cells = c } in a)
          (fun_ext (λ s. put2-other x.world.net.cells o.call.shard o.call.server next s v (λ e. n e.1))))
    ];
  }

  comes_does : (e : WorldEvent) → IsEffect x (settling_comes x (Comes e)).1
  comes_does (Inner (Deliver k)) = by_order (slice_get x.world.net.sent k) refl
    where
      by_test : (o : Order) → slice_get x.world.net.sent k ≡ Some o → (b : Bool) → takes_number (x.bases (Server o.call.server)) o.number ≡ b → IsEffect x (if b then in_world x (within x.world (delivered x.world.net o)) else (Quiet, x)).1
      by_test o q false e = still x
      by_test o q true e = order_does k o q e (real_delivery x.world.net o)

      by_order : (q : Option Order) → slice_get x.world.net.sent k ≡ q →
          IsEffect x (if takes (λ (o : Order). takes_number (x.bases (Server o.call.server)) o.number) q then in_world x (within x.world (at_place x.world.net delivered q)) else (Quiet, x)).1
      by_order None q = still x
      by_order (Some o) q = by_test o q (takes_number (x.bases (Server o.call.server)) o.number) refl
  comes_does (Inner (Ask s v)) = by_test (takes_request x s v)
    where
      by_test : (b : Bool) → IsEffect x (if b then in_world x (within x.world (replied x.world.net s v None)) else (Quiet, x)).1
      by_test false = still x
      by_test true = record { sent = refl; nonces = omega arith; servers = λ u. Stays refl }
  comes_does (Inner (Pass k)) = by_pass (slice_get x.world.net.passes k)
    where
      by_test : (t : Ticket) (b : Bool) → IsEffect x (if b then in_world x (within x.world (replied x.world.net t.shard t.target (Some t))) else (Quiet, x)).1
      by_test t false = still x
      by_test t true = record { sent = refl; nonces = omega arith; servers = λ u. Stays refl }

      by_pass : (q : Option Ticket) → IsEffect x (if takes (λ (t : Ticket). takes_request x t.shard t.target) q then in_world x (within x.world (passed x.world.net q)) else (Quiet, x)).1
      by_pass None = still x
      by_pass (Some t) = by_test t (takes_request x t.shard t.target)
  comes_does (Store k) = by_publication (slice_get x.world.published k)
    where
      by_test : (p : Publication) (b : Bool) → IsEffect x (if b then in_world x (Quiet, kept_by x.world p) else (Quiet, x)).1
      by_test p false = still x
      by_test p true = record { sent = refl; nonces = omega arith; servers = λ u. Stays refl }

      by_publication : (q : Option Publication) → IsEffect x (if takes (λ (p : Publication). takes_number (x.bases MapOwner) p.entry.version) q then in_world x (by_place x.world (λ y p. (Quiet, kept_by y p)) q) else (Quiet, x)).1
      by_publication None = still x
      by_publication (Some p) = by_test p (takes_number (x.bases MapOwner) p.entry.version)
  comes_does (Inner (Control e)) = still x
  comes_does (Inner (Send id)) = still x
  comes_does (Inner (Answer k)) = still x
  comes_does (Propose id) = still x
  comes_does (Stored k) = still x

  -- ---- a message comes

  -- a server with this base, if it is the one
  abbrev picked_base : Base → ℕ → Bool → At
  picked_base base v b = record { base = if b then base else x.bases (Server v); cells = λ s. x.world.net.cells s v }

  -- a server with these slots, if it is the one
  abbrev picked_slots : Base → (ℕ → Cell) → ℕ → Bool → At
  picked_slots base cells v b = record { base = if b then base else x.bases (Server v); cells = λ s. if b then cells s else x.world.net.cells s v }

  -- a fence comes to a party
  pub fence_does : (p : Party) (number : ℕ) (reached : ℕ → Bool) → IsOneOf x.messages (Fence p number) → IsEffect x (fence_comes x p number reached)
  fence_does MapOwner number reached i = go (is_fenced_at number (after_fence (x.bases MapOwner) number x.nonces))
    where
      go : (b : Bool) →
          IsEffect x (if b then with_messages (record x { bases = put_party x.bases MapOwner (after_fence (x.bases MapOwner) number x.nonces); nonces = suc x.nonces })
          (Fenced MapOwner number (inventory_by x MapOwner (after_fence (x.bases MapOwner) number x.nonces).nonce reached) ∷ [])
          else (record x { bases = put_party x.bases MapOwner (after_fence (x.bases MapOwner) number x.nonces); nonces = suc x.nonces }))
      go true = record { sent = refl; nonces = omega arith; servers = λ v. Stays refl }
      go false = record { sent = refl; nonces = omega arith; servers = λ v. Stays refl }
  fence_does (Server u) number reached i = go (is_fenced_at number (after_fence (x.bases (Server u)) number x.nonces))
    where
      there : (v : ℕ) → Becomes x (suc x.nonces) v (picked_base (after_fence (x.bases (Server u)) number x.nonces) v (v == u))
      there v = elim (cases_eq v u) [
        | inl e ↦ subst (λ z. Becomes x (suc x.nonces) z (picked_base (after_fence (x.bases (Server u)) number x.nonces) z (z == u))) (sym e)
            (Heeds number i (omega arith) (ap (picked_base (after_fence (x.bases (Server u)) number x.nonces) u) (eq-eqb u u refl)))
        | inr n ↦ Stays (ap (picked_base (after_fence (x.bases (Server u)) number x.nonces) v) (ne_eqb v u n))
      ]

      go : (b : Bool) →
          IsEffect x (if b then with_messages (record x { bases = put_party x.bases (Server u) (after_fence (x.bases (Server u)) number x.nonces); nonces = suc x.nonces })
          (Fenced (Server u) number (inventory_by x (Server u) (after_fence (x.bases (Server u)) number x.nonces).nonce reached) ∷ [])
          else (record x { bases = put_party x.bases (Server u) (after_fence (x.bases (Server u)) number x.nonces); nonces = suc x.nonces }))
      go true = record { sent = refl; nonces = omega arith; servers = there }
      go false = record { sent = refl; nonces = omega arith; servers = there }

  -- a settle comes to a party
  pub settle_does : (p : Party) (number : ℕ) (nonce : Option ℕ) (s : Settlement) → IsOneOf x.messages (Settle p number nonce s) → IsEffect x (settle_comes x p number nonce s)
  settle_does MapOwner number asked s i = go (takes_settle number asked (x.bases MapOwner)) (is_settled_at number (x.bases MapOwner))
    where
      go : (a b : Bool) → IsEffect x (if a then with_messages (part_taken x MapOwner number s) (Settled MapOwner number ∷ []) else if b then with_messages x (Settled MapOwner number ∷ []) else x)
      go true b = record { sent = refl; nonces = omega arith; servers = λ v. Stays refl }
      go false true = record { sent = refl; nonces = omega arith; servers = λ v. Stays refl }
      go false false = still x
  settle_does (Server u) number asked s i = go (takes_settle number asked (x.bases (Server u))) refl (is_settled_at number (x.bases (Server u)))
    where
      there : takes_settle number asked (x.bases (Server u)) ≡ true → (v : ℕ) → Becomes x x.nonces v (picked_slots (settled_base number) (λ k. s.place.cells k u) v (v == u))
      there t v = elim (cases_eq v u) [
        | inl e ↦ subst (λ z. Becomes x x.nonces z (picked_slots (settled_base number) (λ k. s.place.cells k u) z (z == u))) (sym e)
            (Settles number asked s i t (ap (picked_slots (settled_base number) (λ k. s.place.cells k u) u) (eq-eqb u u refl)))
        | inr n ↦ Stays (ap (picked_slots (settled_base number) (λ k. s.place.cells k u) v) (ne_eqb v u n))
      ]

      go : (a : Bool) → takes_settle number asked (x.bases (Server u)) ≡ a → (b : Bool) →
          IsEffect x (if a then with_messages (part_taken x (Server u) number s) (Settled (Server u) number ∷ []) else if b then with_messages x (Settled (Server u) number ∷ []) else x)
      go true t b = record { sent = refl; nonces = omega arith; servers = there t }
      go false t true = record { sent = refl; nonces = omega arith; servers = λ v. Stays refl }
      go false t false = still x

  -- a restore comes to a server
  pub restore_does : (u nonce number : ℕ) (sizes : Sizes) (cells : ℕ → Cell) → IsOneOf x.messages (Restore u nonce number sizes cells) → (b : Bool) → names_nonce (x.bases (Server u)).nonce (Some nonce) ≡ b →
      IsEffect x (if b then granted x u number sizes cells else x)
  restore_does u asked number sizes cells i false t = still x
  restore_does u asked number sizes cells i true t = record {
    sent = refl;
    nonces = omega arith;
    servers = λ v. elim (cases_eq v u) [
      | inl e ↦ subst (λ z. Becomes x x.nonces z (picked_slots (settled_base number) cells z (z == u))) (sym e)
          (Recovers asked number sizes cells i t (ap (λ b. (picked_slots (settled_base number) cells u b).base) (eq-eqb u u refl)))
      | inr n ↦ Stays (ap (picked_slots (settled_base number) cells v) (ne_eqb v u n))
    ];
  }

  message_does : (reached : ℕ → Bool) (k : ℕ) (o : Option Message) → slice_get x.messages k ≡ o → IsEffect x (arrives x reached o)
  message_does reached k None q = still x
  message_does reached k (Some (Fence p number)) q = fence_does p number reached (k, q)
  message_does reached k (Some (Settle p number asked s)) q = settle_does p number asked s (k, q)
  message_does reached k (Some (Restore u asked number sizes cells)) q = restore_does u asked number sizes cells (k, q) (names_nonce (x.bases (Server u)).nonce (Some asked)) refl
  message_does reached k (Some (Fenced p number i)) q = record { sent = refl; nonces = omega arith; servers = λ v. Stays refl }
  message_does reached k (Some (Settled p number)) q = record { sent = refl; nonces = omega arith; servers = λ v. Stays refl }

  -- a server forgets
  pub loss_does : (u : ℕ) → IsEffect x (forgets x u)
  loss_does u = record {
    sent = refl;
    nonces = omega arith;
    servers = λ v. elim (cases_eq v u) [
      | inl e ↦ subst (λ z. Becomes x (suc x.nonces) z (picked_slots (unknown_base x.nonces) (λ s. Absent) z (z == u))) (sym e)
          (Loses (omega arith) (ap (λ b. (picked_slots (unknown_base x.nonces) (λ s. Absent) u b).base) (eq-eqb u u refl)))
      | inr n ↦ Stays (ap (picked_slots (unknown_base x.nonces) (λ s. Absent) v) (ne_eqb v u n))
    ];
  }

-- what each event does
pub effect_of : (x : Settling) (e : SettlingEvent) → IsEffect x (settling_comes x e).1
effect_of x (Comes e) = comes_does x e
effect_of x (Arrives k reached) = message_does x reached k (slice_get x.messages k) refl
effect_of x (Forgets u) = loss_does x u
effect_of x (Records e) = record { sent = refl; nonces = omega arith; servers = λ v. Stays refl }
