use Rattle.std.proofs.Common.{◌<◌, ◌∙◌, length, sym, ap, arith}
use Rattle.sm_placement.specs.Setup.{Setup, sizes_of}
use Rattle.sm_placement.specs.Layout.{place_of}
use Rattle.sm_reservation.specs.Pool.{pool_hold}
use Rattle.sm_task_controller.proofs.Spares.{found, passed}
use Rattle.sm_task_controller.proofs.decision.first_without_spare.Goals as goal

pub returns-then-is_without_spare : goal.returns-then-is_without_spare
returns-then-is_without_spare c =
    let l : c.loop-number.number < length c.args.placement.now.setup.shards = omega (arith, c.shard_count-number-end.ensures.count, ap (λ (k : Setup). length k.shards) c.config.ensures.setup) in
    found (sizes_of c.args.placement.now.setup) (place_of c.args.placement.now) (pool_hold c.args.pool.now) c.args.server c.loop-number.number c.new-shard.result
    c.loop-number.invariant l c.new-shard.ensures (sym c.is_without_spare.ensures ∙ c.if-is_without_spare.true)

pub loop-number-preserved : goal.loop-number-preserved
loop-number-preserved c =
    let l : c.loop-number.number < length c.args.placement.now.setup.shards = omega (arith, c.shard_count-number-end.ensures.count, ap (λ (k : Setup). length k.shards) c.config.ensures.setup) in
    passed (sizes_of c.args.placement.now.setup) (place_of c.args.placement.now) (pool_hold c.args.pool.now) c.args.server c.loop-number.number c.new-shard.result
    c.loop-number.invariant l c.new-shard.ensures (sym c.is_without_spare.ensures ∙ c.if-is_without_spare.false)
