-- The entry that is written is the server's, and a server that isn't known has nothing.
use Rattle.std.proofs.Common.{◌≡◌, ◌≤◌, ◌-◌, ℕ, length, set, length-set, ap, ◌∙◌, arith}
use Rattle.sm_reservation.specs.Pool.{PoolModel, pool_hold}
use Rattle.sm_reservation.proofs.PoolLemmas.{room_put, room_read, no_room, stocked_within, stocked_now}
use Rattle.sm_reservation.proofs.pool.Pool.take_room.Goals as goal

pub returns-then-slot-server_count-clause-hold : goal.returns-then-slot-server_count-clause-hold
returns-then-slot-server_count-clause-hold c =
    let e = ap (λ (k : PoolModel). k.servers) c.self.view_is in
    let read : c.index.result.now ≡ (pool_hold c.args.self.now).room c.args.room.server = room_read c.args.room.server c.index.result.now c.self.invariant c.self.view_is (omega arith) (rw (← c.number-slot.ensures) c.index.ensures) in
    room_put (length (set c.self.inside.room.items c.number-slot.result c.saturating_sub.result)) c.args.room.server c.number-slot.result c.saturating_sub.result _ c.self.view_is (omega (arith, length-set c.self.inside.room.items c.number-slot.result c.saturating_sub.result)) c.number-slot.ensures (omega arith) (c.saturating_sub.ensures ∙ ap (λ (n : ℕ). n - c.args.room.amount) read)

pub returns-else-slot-server_count-clause-hold : goal.returns-else-slot-server_count-clause-hold
returns-else-slot-server_count-clause-hold c =
    let e = ap (λ (k : PoolModel). k.servers) c.self.view_is in
    let l : c.args.self.now.servers ≤ c.args.room.server = omega arith in
    no_room _ c.args.room.server c.args.room.amount ((stocked_within c.args.self.now (stocked_now c.self.invariant c.self.view_is)).room c.args.room.server l)
