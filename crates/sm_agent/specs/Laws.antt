-- The laws that the definitions come to: orders have their effect once and in their order, and none at a server that is
-- Unknown or fenced.
use Rattle.std.specs.Prelude.{◌≡◌, ◌≢◌, ◌<◌, ◌≤◌, ◌⊎◌, ℕ, true, false, List, Some, None, Ok, IsSome, if◌then◌else◌}
use Rattle.sm_server.specs.declared.call.Cell.TheVariants.{Prepared, Primary, Forwarding}
use Rattle.sm_server.specs.declared.call.Role.TheVariants as role
use Rattle.sm_server.specs.declared.call.Call.TheVariants.{Add}
use Rattle.sm_server.specs.Call.{led_to}
use Rattle.sm_agent.specs.declared.base.Base.{Base}
use Rattle.sm_agent.specs.declared.base.Reopening.{Reopening}
use Rattle.sm_agent.specs.declared.base.Settlement.{Settlement}
use Rattle.sm_agent.specs.declared.base.Restoration.{Restoration}
use Rattle.sm_agent.specs.declared.base.Reception.TheVariants.{Taken, Again, Ignored}
use Rattle.sm_agent.specs.declared.slot.Slot.{Slot}
use Rattle.sm_agent.specs.declared.assignment.Assignment.{Assignment}
use Rattle.sm_agent.specs.declared.assignment.Part.{Part}
use Rattle.sm_agent.specs.declared.assignment.ShardSlot.{ShardSlot}
use Rattle.sm_agent.specs.declared.order.Stamp.{Stamp}
use Rattle.sm_agent.specs.declared.order.Order.{Order}
use Rattle.sm_agent.specs.declared.order.Verdict.TheVariants as verdict
use Rattle.sm_agent.specs.declared.request.Relay.{Relay}
use Rattle.sm_agent.specs.declared.request.Request.{Request}
use Rattle.sm_agent.specs.declared.request.Request.TheVariants.{Passed}
use Rattle.sm_agent.specs.declared.request.Routing.TheVariants.{Execute, PassOn, NotHere, NotYet}
use Rattle.sm_agent.specs.Assignment.{assigned, assigned_shard, count_brought}
use Rattle.sm_agent.specs.Base.{lacks_slots, fenced, settled, restored, heeded}
use Rattle.sm_agent.specs.Order.{vacant, cell_load, may_delete, judged, begun_slot, abandoned, is_done, committed}
use Rattle.sm_agent.specs.Order.{published}
use Rattle.sm_agent.specs.Request.{routed}

-- A commit makes the call of the table.
abbrev pub CommitsCall : Type 0
CommitsCall = (base : Base) (slot : Slot) (order : Order) (at : ℕ) (next : Slot) →
    committed base slot order at ≡ Some next → led_to order.call slot.cell ≡ Some next.cell

-- A commit raises the slot's last number to the order's, which is above the base's.
abbrev pub CommitsInOrder : Type 0
CommitsInOrder = (base : Base) (slot : Slot) (order : Order) (at : ℕ) (next : Slot) →
    committed base slot order at ≡ Some next →
    (slot.last < order.stamp.number) × (base.number < order.stamp.number) × (next.last ≡ order.stamp.number)

-- An order with a number at or below the slot's last one, or the base's, has no effect, whatever is at work.
abbrev pub OldHasNoEffect : Type 0
OldHasNoEffect = (base : Base) (slot : Slot) (order : Order) (at : ℕ) →
    ((order.stamp.number ≤ slot.last) ⊎ (order.stamp.number ≤ base.number)) → committed base slot order at ≡ None

-- A server answers a committed order again until it commits the next one. The order has no effect again.
abbrev pub CommitsOnce : Type 0
CommitsOnce = (base : Base) (slot : Slot) (order : Order) (at : ℕ) (next : Slot) →
    committed base slot order at ≡ Some next →
    ((used : ℕ) → judged base next used order ≡ verdict.Again) ×
    ((at : ℕ) → committed base (begun_slot next order) order at ≡ None)

-- Work that is begun goes on, until it is committed or given up; then it begins anew.
abbrev pub WorkGoesOn : Type 0
WorkGoesOn = (base : Base) (slot : Slot) (used : ℕ) (order : Order) →
    judged base slot used order ≡ verdict.Begin →
    (judged base (begun_slot slot order) used order ≡ verdict.Working) ×
    (judged base (abandoned (begun_slot slot order)) used order ≡ verdict.Begin) ×
    ((at : ℕ) → is_done order.call slot.cell slot.cut at ≡ true
    → IsSome (committed base (begun_slot slot order) order at))

-- An Unknown server takes no order, commits none and executes nothing.
abbrev pub UnknownDoesNothing : Type 0
UnknownDoesNothing = (base : Base) (slot : Slot) → lacks_slots base ≡ true →
    ((used : ℕ) (order : Order) → judged base slot used order ≡ verdict.NotReady) ×
    ((order : Order) (at : ℕ) → committed base slot order at ≡ None) ×
    ((applied : ℕ) (request : Request) → routed base slot applied request ≡ NotHere)

-- A fence raises the server's base above all earlier ones; until its settle nothing is committed.
abbrev pub FencedCommitsNothing : Type 0
FencedCommitsNothing = (base : Base) (reopening : Reopening) (nonce : ℕ) (next : Base) →
    fenced base reopening nonce ≡ Taken next →
    (base.number < next.number) × (next.number ≡ reopening.number) ×
    ((slot : Slot) (order : Order) (at : ℕ) → committed next slot order at ≡ None)

-- A settle is taken once, for the fence that the server stands at and the nonce that it answered with; then it is
-- answered again.
abbrev pub SettlesOnce : Type 0
SettlesOnce = (base : Base) (settlement : Settlement) (next : Base) →
    settled base settlement ≡ Taken next →
    (base.fenced ≡ true) × (settlement.nonce ≡ base.nonce) × (next.number ≡ base.number) × (lacks_slots next ≡ false) ×
    (settled next settlement ≡ Again) ×
    ((other : Settlement) (after : Base) → settled next other ≢ Taken after)

-- A restore is taken once, by an Unknown server, for the nonce under which it asks and no other.
abbrev pub RestoresOnce : Type 0
RestoresOnce = (base : Base) (restoration : Restoration) (next : Base) →
    restored base restoration ≡ Taken next →
    (base.nonce ≡ Some restoration.nonce) × (lacks_slots next ≡ false) ×
    ((other : Restoration) → restored next other ≡ Ignored)

-- A request is executed at a primary at which nothing is at work, or passed on to a new owner that has applied all
-- writes up to the cut and is not frozen.
abbrev pub ExecutesAtOwner : Type 0
ExecutesAtOwner = (base : Base) (slot : Slot) (applied : ℕ) (request : Request) →
    routed base slot applied request ≡ Execute →
    (lacks_slots base ≡ false) ×
    (((slot.cell ≡ Primary) × (slot.at_work ≡ None)) ⊎
    ((base.fenced ≡ false) × ((relay : Relay) × (request ≡ Passed relay) ×
    (slot.cell ≡ Prepared relay.from relay.handover) × (relay.cut ≤ applied))))

-- A new owner takes over only once its cut is known and reached.
abbrev pub TakesOverAtCut : Type 0
TakesOverAtCut = (base : Base) (slot next : Slot) (order : Order) (at from number : ℕ) →
    slot.cell ≡ Prepared from number → order.call ≡ Add role.Primary → committed base slot order at ≡ Some next →
    (cut : ℕ) × (slot.cut ≡ Some cut) × (cut ≤ at)

-- The map's entry of a shard is replaced only by one with a higher version.
abbrev pub MapGoesOn : Type 0
MapGoesOn = (base : Base) (shown : ℕ) (stamp : Stamp) →
    published base shown stamp ≡ verdict.Begin → (shown < stamp.number) × (base.number < stamp.number)

-- From Begin until it is committed or given up, an order at a primary makes the shard's requests wait.
abbrev pub RequestsWait : Type 0
RequestsWait = (base : Base) (slot : Slot) (used : ℕ) (order : Order) (applied : ℕ) (request : Request) →
    slot.cell ≡ Primary → judged base slot used order ≡ verdict.Begin →
    (routed base (begun_slot slot order) applied request ≡ NotYet) ×
    (routed base (abandoned (begun_slot slot order)) applied request ≡ Execute)

-- Requests are passed on by an old owner alone, with its cut, and by none that is fenced.
abbrev pub PassesOnAtCut : Type 0
PassesOnAtCut = (base : Base) (slot : Slot) (applied : ℕ) (request : Request) (to handover cut : ℕ) →
    routed base slot applied request ≡ PassOn to handover cut →
    (base.fenced ≡ false) × (slot.cell ≡ Forwarding to handover) × (slot.cut ≡ Some cut)

-- A server that still has its slots once it has heard of its journal's last reopening is as it was, and its base is not
-- below that reopening's.
abbrev pub HeedsReopenings : Type 0
HeedsReopenings = (base : Base) (last : Reopening) (nonce : ℕ) →
    lacks_slots (heeded base last nonce) ≡ false →
    (heeded base last nonce ≡ base) × (base.journal ≡ last.journal → last.number ≤ base.number)

-- A slot that may be deleted says of orders and requests what one that is not there says.
abbrev pub DeletedSaysTheSame : Type 0
DeletedSaysTheSame = (base : Base) (slot : Slot) → may_delete base slot ≡ true →
    ((used : ℕ) (order : Order) → judged base slot used order ≡ judged base vacant used order) ×
    ((applied : ℕ) (request : Request) → routed base slot applied request ≡ routed base vacant applied request)

-- Whoever takes an assignment was given a part for each slot that it brings; afterwards it has slots, and is not
-- fenced.
abbrev pub TakesWhole : Type 0
TakesWhole = (base next : Base) (assignment : Assignment) (brought : ℕ) (shards : List ShardSlot) →
    assigned base assignment brought (count_brought shards) ≡ Ok (Taken next) →
    (count_brought shards ≡ brought) × (lacks_slots next ≡ false) × (next.fenced ≡ false)

-- The slot of which an assignment brings a part has that cell and load, and nothing at work. Its last number stays, and
-- is 0 at a server that was Unknown.
abbrev pub HasItsPart : Type 0
HasItsPart = (base : Base) (shard : ShardSlot) (part : Part) → shard.brought ≡ Some part →
    ((assigned_shard base shard).slot.cell ≡ part.cell) ×
    ((assigned_shard base shard).slot.load ≡ cell_load part.cell part.load) ×
    ((assigned_shard base shard).slot.last ≡ (if lacks_slots base then 0 else shard.slot.last)) ×
    ((assigned_shard base shard).slot.at_work ≡ None) × ((assigned_shard base shard).slot.cut ≡ None)

-- A server that has taken an assignment executes and passes on nothing of a shard of which it was brought nothing,
-- however late a request comes.
abbrev pub LeavesTheRest : Type 0
LeavesTheRest = (base next : Base) (shard : ShardSlot) → shard.brought ≡ None →
    ((assigned_shard base shard).slot.load ≡ 0) ×
    ((applied : ℕ) (request : Request) → routed next (assigned_shard base shard).slot applied request ≡ NotHere)
