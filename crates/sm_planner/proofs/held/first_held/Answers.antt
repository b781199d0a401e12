use Rattle.std.proofs.Common.{◌≡◌, ◌∙◌, ap, length}
use Rattle.std.specs.Prelude.{Some}
use Rattle.std.proofs.lemmas.List.{get_or_default}
use Rattle.sm_placement.specs.Layout.{place_of}
use Rattle.sm_reservation.specs.Pool.{pool_hold}
use Rattle.sm_plan_code.specs.declared.moves.Move.{Move}
use Rattle.sm_planner.specs.declared.refusal.NoPlan.TheVariants.{Held}
use Rattle.sm_planner.specs.Basis.{basis, no_move, move_at}
use Rattle.sm_planner.specs.Refusal.{is_closed}
use Rattle.sm_planner.proofs.Firsts.{found, passed, closed_by}
use Rattle.sm_planner.proofs.held.first_held.Goals as goal

pub returns-then-not-is_open : goal.returns-then-not-is_open
returns-then-not-is_open c =
    let moves = c.args.moves.now in
    let b = basis c.args.placement.now.setup (place_of c.args.placement.now) (pool_hold c.args.pool.now) in
    let is : c.index-moves-i.result ≡ move_at c.args.moves.now c.loop-i.i = c.index-moves-i.is ∙ get_or_default c.args.moves.now c.loop-i.i c.index-moves-i.result no_move c.loop-i-test.true in
    let closed = closed_by b c.args.moves.now c.loop-i.i c.index-moves-i.result c.is_open.result is c.is_open.ensures in
    let first = found (is_closed b moves) c.loop-i.i (length moves) c.loop-i.invariant c.loop-i-test.true (rw c.if-not-is_open.true at closed) in
    rw first (ap (λ (m : Move). Some (Held m.shard m.to)) is)

pub loop-i-preserved : goal.loop-i-preserved
loop-i-preserved c =
    let moves = c.args.moves.now in
    let b = basis c.args.placement.now.setup (place_of c.args.placement.now) (pool_hold c.args.pool.now) in
    let is : c.index-moves-i.result ≡ move_at c.args.moves.now c.loop-i.i = c.index-moves-i.is ∙ get_or_default c.args.moves.now c.loop-i.i c.index-moves-i.result no_move c.loop-i-test.true in
    let closed = closed_by b c.args.moves.now c.loop-i.i c.index-moves-i.result c.is_open.result is c.is_open.ensures in
    passed (is_closed b moves) c.loop-i.i (length moves) c.loop-i.invariant c.loop-i-test.true (rw c.if-not-is_open.false at closed)
