-- Fences, settles and restores that come late: in an epoch after the reopening that they belong to, or that they were
-- sent before.
use Rattle.std.specs.Prelude.{◌≡◌, ◌≢◌, ◌≤◌, ◌<◌, ◌⊎◌, ℕ, true, false, Some, None}
use Rattle.sm_agent.specs.declared.base.Base.{Base}
use Rattle.sm_agent.specs.declared.base.Reopening.{Reopening}
use Rattle.sm_agent.specs.declared.base.Settlement.{Settlement}
use Rattle.sm_agent.specs.declared.base.Restoration.{Restoration}
use Rattle.sm_agent.specs.declared.base.Reception.TheVariants.{Taken, Ignored}
use Rattle.sm_agent.specs.declared.slot.Slot.{Slot}
use Rattle.sm_agent.specs.declared.order.Order.{Order}
use Rattle.sm_agent.specs.declared.request.Request.{Request}
use Rattle.sm_agent.specs.Base.{lacks_slots, forgotten, fenced, settled, restored, is_overtaken, heeded}
use Rattle.sm_agent.specs.Order.{judged, committed}
use Rattle.sm_agent.specs.Request.{routed}
use Rattle.sm_agent.specs.declared.request.Routing.TheVariants.{Execute}
use Rattle.laws_network.specs.Words.{IsServing, Setup}
use Rattle.laws_network.specs.Reopening.{is_handing}
use Rattle.laws_network.specs.Fleet.{Fleet, Server, has_lost, held_cells}
use Rattle.laws_network.specs.FleetLaws.{held_place}

-- A server that has its slots and is not fenced changes nothing by a fence at or below its number, by any settle or by
-- any restore.
abbrev pub LateChangesNothing : Type 0
LateChangesNothing = (base : Base) → lacks_slots base ≡ false → base.fenced ≡ false →
    ((late : Reopening) (nonce : ℕ) → late.number ≤ base.number → fenced base late nonce ≡ Ignored) ×
    ((late : Settlement) (next : Base) → settled base late ≢ Taken next) ×
    ((late : Restoration) → restored base late ≡ Ignored)

-- A late fence makes of a server that is Unknown what a loss of memory makes of it: it asks under a new nonce, does
-- nothing, and takes alike what is restored by a controller that knows of this reopening.
abbrev pub LateFenceForgets : Type 0
LateFenceForgets = (base next : Base) (late : Reopening) (nonce : ℕ) → lacks_slots base ≡ true
    → fenced base late nonce ≡ Taken next →
    (next.nonce ≡ Some nonce) ×
    ((restoration : Restoration) → late.number ≤ restoration.fence
    → restored next restoration ≡ restored (forgotten nonce) restoration) ×
    ((slot : Slot) (used : ℕ) (order : Order)
    → judged next slot used order ≡ judged (forgotten nonce) slot used order) ×
    ((slot : Slot) (applied : ℕ) (request : Request)
    → routed next slot applied request ≡ routed (forgotten nonce) slot applied request)

-- Whatever a server takes of what was sent before the last reopening was in force, it is overtaken by that one
-- afterwards.
abbrev pub LateIsOvertaken : Type 0
LateIsOvertaken = (base next : Base) (last : Reopening) →
    ((late : Reopening) (nonce : ℕ) → late.journal ≡ last.journal → late.number ≤ last.number
    → fenced base late nonce ≡ Taken next →
    is_overtaken next last ≡ true) ×
    ((late : Settlement) → late.reopening.journal ≡ last.journal → late.reopening.number < last.number
    → settled base late ≡ Taken next →
    is_overtaken next last ≡ true) ×
    ((late : Restoration) → late.journal ≡ last.journal → late.number < last.number → restored base late ≡ Taken next →
    is_overtaken next last ≡ true)

-- A server that the last reopening has overtaken commits no order that names it or a later one, and is Unknown once it
-- has heard of it.
abbrev pub OvertakenCommitsNothing : Type 0
OvertakenCommitsNothing = (base : Base) (last : Reopening) → is_overtaken base last ≡ true →
    ((slot : Slot) (order : Order) (at : ℕ) → order.stamp.journal ≡ last.journal → last.number ≤ order.stamp.fence
    → committed base slot order at ≡ None) ×
    ((nonce : ℕ) → lacks_slots (heeded base last nonce) ≡ true)

-- A server that was carried over, and has not heard of the reopening yet, still has slots: those that count as held
-- while the laws of the fleet take it as one that has lost them. By these it executes a request only as the one server
-- that serves the shard.
abbrev pub CarriedExecutesSafely : Setup → Fleet → Type 0
CarriedExecutesSafely setup f = (v : ℕ) (old : Server) → has_lost f v ≡ true →
    ((s : ℕ) → ((old.slots s).cell ≡ held_cells f s v) × (is_handing (held_cells f s v) ≡ false)) →
    (s applied : ℕ) (request : Request) → routed old.base (old.slots s) applied request ≡ Execute →
    IsServing (held_place f) s v × ((u : ℕ) → IsServing (held_place f) s u → u ≡ v)

-- A server that still has its slots once it has heard of its journal's last reopening stands above it, or was settled
-- at it.
abbrev pub HeardIsSettled : Type 0
HeardIsSettled = (base : Base) (last : Reopening) (nonce : ℕ) → lacks_slots (heeded base last nonce) ≡ false
    → base.journal ≡ last.journal →
    (last.number < base.number) ⊎ ((last.number ≡ base.number) × (base.fenced ≡ false))
