-- The entry that is written is the server's.
use Rattle.std.proofs.Common.{◌≡◌, ◌+◌, ℕ, length, set, length-set, ap, arith}
use Rattle.sm_reservation.specs.Pool.{PoolModel, pool_hold}
use Rattle.sm_reservation.proofs.PoolLemmas.{room_put, room_read}
use Rattle.sm_reservation.proofs.pool.Pool.put_room.Goals as goal

pub overflow_add-index_mut : goal.overflow_add-index_mut
overflow_add-index_mut c =
    let e = ap (λ (k : PoolModel). k.servers) c.self.view_is in
    let read : c.index_mut.result.now ≡ (pool_hold c.args.self.now).room c.args.room.server = room_read c.args.room.server c.index_mut.result.now c.self.invariant c.self.view_is (omega arith) (rw (← c.number-slot.ensures) c.index_mut.ensures.value) in
    omega (arith, c.requires.fits)

pub returns-clause-hold : goal.returns-clause-hold
returns-clause-hold c =
    let e = ap (λ (k : PoolModel). k.servers) c.self.view_is in
    let read : c.index_mut.result.now ≡ (pool_hold c.args.self.now).room c.args.room.server = room_read c.args.room.server c.index_mut.result.now c.self.invariant c.self.view_is (omega arith) (rw (← c.number-slot.ensures) c.index_mut.ensures.value) in
    room_put (length (set c.self.inside.room.items c.number-slot.result (c.index_mut.result.now + c.args.room.amount))) c.args.room.server c.number-slot.result (c.index_mut.result.now + c.args.room.amount) _ c.self.view_is (omega (arith, length-set c.self.inside.room.items c.number-slot.result (c.index_mut.result.now + c.args.room.amount))) c.number-slot.ensures (omega arith) (ap (λ (n : ℕ). n + c.args.room.amount) read)
