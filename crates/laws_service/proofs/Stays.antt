-- While a reopening is under way its controller alone changes it, and nothing that comes changes what was recorded.
use Rattle.std.proofs.Common.{◌≡◌, refl, ℕ, Bool, true, false, Option, Some, None}
use Rattle.std.specs.Prelude.{slice_get, if◌then◌else◌}
use Rattle.laws_network.specs.Net.{Ask, Deliver, Net, NetOutcome, Order, Pass, after_delivery, at_place, delivered, passed, real_delivery}
use Rattle.laws_network.specs.Words.{Ticket}
use Rattle.laws_network.specs.declared.delivery.Delivery.{Delivery}
use Rattle.laws_network.specs.declared.delivery.Delivery.TheVariants as delivery
use Rattle.laws_network.specs.World.{Inner, Publication, Store, World, WorldEvent, by_place, kept_by, world_comes}
use Rattle.laws_network.specs.Reopening.{Arrives, Comes, Fence, Fenced, Forgets, MapOwner, Message, Party, Records, Restore, Server, Settle, Settled, Settlement, Settling, SettlingEvent, after_fence, arrives, fence_comes, in_world, is_fenced_at, is_settled_at, is_taken, names_nonce, part_taken, settle_comes, settling_comes, takes_settle}
use Rattle.laws_service.specs.Controlled.{IsNoAnswer, WritesNone}

-- what is recorded, and the base under which it is
record IsSameRecord (n m : Net) : Type 0 where
  pub record_is : m.w ≡ n.w
  pub base : m.base ≡ n.base

-- the reopening stays, and so does the record
pub record Stays (y z : Settling) : Type 0 where
  pub reopening : z.reopening ≡ y.reopening
  pub record_is : z.world.net.w ≡ y.world.net.w
  pub base : z.world.net.base ≡ y.world.net.base

-- ---- orders, publications and requests

by_delivery : (n : Net) (o : Order) (d : Delivery) → IsSameRecord n (after_delivery n o d).1
by_delivery n o delivery.Old = record { record_is = refl; base = refl }
by_delivery n o delivery.Again = record { record_is = refl; base = refl }
by_delivery n o (delivery.Refused why) = record { record_is = refl; base = refl }
by_delivery n o (delivery.Served next) = record { record_is = refl; base = refl }

by_order : (n : Net) (o : Option Order) → IsSameRecord n (at_place n delivered o).1
by_order n None = record { record_is = refl; base = refl }
by_order n (Some o) = by_delivery n o (real_delivery n o)

by_pass : (n : Net) (t : Option Ticket) → IsSameRecord n (passed n t).1
by_pass n None = record { record_is = refl; base = refl }
by_pass n (Some t) = record { record_is = refl; base = refl }

by_store : (w : World) (p : Option Publication) → IsSameRecord w.net (by_place w (λ v q. (NetOutcome.Quiet, kept_by v q)) p).1.net
by_store w None = record { record_is = refl; base = refl }
by_store w (Some p) = record { record_is = refl; base = refl }

same : (y : Settling) (w : World) → IsSameRecord y.world.net w.net → Stays y (record y { world = w })
same y w s = record { reopening = refl; record_is = s.record_is; base = s.base }

if_taken : (y : Settling) (e : WorldEvent) → (is_taken y e ≡ true → Stays y (in_world y (world_comes y.world e)).1) → Stays y (settling_comes y (Comes e)).1
if_taken y e h = go (is_taken y e) h
  where
    go : (b : Bool) → (b ≡ true → Stays y (in_world y (world_comes y.world e)).1) → Stays y (if b then in_world y (world_comes y.world e) else (NetOutcome.Quiet, y)).1
    go true h = h refl
    go false h = record { reopening = refl; record_is = refl; base = refl }

by_world : (y : Settling) (e : WorldEvent) → Stays y (settling_comes y (Comes e)).1
by_world y (Inner (Deliver k)) = if_taken y (Inner (Deliver k)) (λ t. let s = by_order y.world.net (slice_get y.world.net.sent k) in record { reopening = refl; record_is = s.record_is; base = s.base })
by_world y (Inner (Ask s v)) = if_taken y (Inner (Ask s v)) (λ t. record { reopening = refl; record_is = refl; base = refl })
by_world y (Inner (Pass k)) = if_taken y (Inner (Pass k)) (λ t. let s = by_pass y.world.net (slice_get y.world.net.passes k) in record { reopening = refl; record_is = s.record_is; base = s.base })
by_world y (Store k) = if_taken y (Store k) (λ t. let s = by_store y.world (slice_get y.world.published k) in record { reopening = refl; record_is = s.record_is; base = s.base })
by_world y e = record { reopening = refl; record_is = refl; base = refl }

-- ---- messages

by_part : (y : Settling) (p : Party) (number : ℕ) (s : Settlement) → Stays y (part_taken y p number s)
by_part y (Server v) number s = record { reopening = refl; record_is = refl; base = refl }
by_part y MapOwner number s = record { reopening = refl; record_is = refl; base = refl }

if_stays : (y : Settling) (b : Bool) (z other : Settling) → Stays y z → Stays y other → Stays y (if b then z else other)
if_stays y true z other s t = s
if_stays y false z other s t = t

by_fence : (y : Settling) (p : Party) (number : ℕ) (reached : ℕ → Bool) → Stays y (fence_comes y p number reached)
by_fence y p number reached = if_stays y (is_fenced_at number (after_fence (y.bases p) number y.nonces)) _ _
    (record { reopening = refl; record_is = refl; base = refl }) (record { reopening = refl; record_is = refl; base = refl })

by_settle : (y : Settling) (p : Party) (number : ℕ) (nonce : Option ℕ) (s : Settlement) → Stays y (settle_comes y p number nonce s)
by_settle y p number nonce s =
    let part = by_part y p number s in
    if_stays y (takes_settle number nonce (y.bases p)) _ _
    (record { reopening = part.reopening; record_is = part.record_is; base = part.base })
    (if_stays y (is_settled_at number (y.bases p)) _ _ (record { reopening = refl; record_is = refl; base = refl }) (record { reopening = refl; record_is = refl; base = refl }))

by_message : (y : Settling) (reached : ℕ → Bool) (m : Option Message) → IsNoAnswer m → Stays y (arrives y reached m)
by_message y reached None h = record { reopening = refl; record_is = refl; base = refl }
by_message y reached (Some (Fence p number)) h = by_fence y p number reached
by_message y reached (Some (Settle p number nonce s)) h = by_settle y p number nonce s
by_message y reached (Some (Restore v nonce number sizes cells)) h = if_stays y (names_nonce (y.bases (Server v)).nonce (Some nonce)) _ _
    (record { reopening = refl; record_is = refl; base = refl }) (record { reopening = refl; record_is = refl; base = refl })
by_message y reached (Some (Fenced p number inventory)) h = absurd h
by_message y reached (Some (Settled p number)) h = absurd h

-- where the controller writes nothing, both stay
pub event_stays : (y : Settling) (e : SettlingEvent) → WritesNone y e → Stays y (settling_comes y e).1
event_stays y (Comes e) h = by_world y e
event_stays y (Arrives k reached) h = by_message y reached (slice_get y.messages k) h
event_stays y (Forgets v) h = record { reopening = refl; record_is = refl; base = refl }
event_stays y (Records e) h = absurd h
