use Rattle.std.proofs.Common.{◌+◌, ℕ, subst}
use Rattle.std.specs.Prelude.{slice_index}
use Rattle.sm_planner.specs.Basis.{basis_of}
use Rattle.sm_planner.specs.Drain.{has_place, IsBestOf}
use Rattle.sm_planner.proofs.draining.target.Goals as goal

pub loop-number-preserved : goal.loop-number-preserved
loop-number-preserved c =
    let b = basis_of c.args.placement.now c.args.pool.now in
    let room = slice_index c.args.room.now in
    subst (λ (n : ℕ). IsBestOf (has_place b c.args.from room c.args.shard) room (n + 1) c.target_with-best.result) c.new-to.ensures c.target_with-best.ensures
