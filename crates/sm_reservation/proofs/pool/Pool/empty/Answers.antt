-- Each list has the same entry everywhere.
use Rattle.std.proofs.Common.{◌≡◌, ◌*◌, rules, None, replicate}
use Rattle.sm_reservation.proofs.PoolLemmas.{hold-empty}
use Rattle.sm_reservation.proofs.pool.Pool.empty.Goals as goal

pub returns-clause-hold : goal.returns-clause-hold
returns-clause-hold c =
    let cells : c.in_ok-vec.field-0.items ≡ replicate (c.args.shards * c.args.servers) None = c.in_ok-vec.ensures.items_if_clones_equal (λ y h. search rules) in
    let crowns : c.in_ok-vec-2.field-0.items ≡ replicate c.args.shards None = c.in_ok-vec-2.ensures.items_if_clones_equal (λ y h. search rules) in
    let room : c.in_ok-vec-3.field-0.items ≡ replicate c.args.servers 0 = c.in_ok-vec-3.ensures.items_if_clones_equal (λ y h. h) in
    let spare : c.in_ok-vec-4.field-0.items ≡ replicate c.args.shards 0 = c.in_ok-vec-4.ensures.items_if_clones_equal (λ y h. h) in
    rw (cells, crowns, room, spare) (hold-empty _ _ c.args.shards c.args.servers (c.args.shards * c.args.servers))
