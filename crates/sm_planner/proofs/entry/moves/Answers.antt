use Rattle.std.proofs.Common.{subst}
use Rattle.std.specs.Prelude.{IfErr}
use Rattle.sm_placement.specs.Layout.{place_of}
use Rattle.sm_reservation.specs.Pool.{pool_hold}
use Rattle.sm_protocol.specs.State.{pool}
use Rattle.sm_machine.specs.State.{state_of}
use Rattle.sm_planner.specs.Basis.{Basis, basis_at}
use Rattle.sm_planner.specs.Refusal.{IsNoPlanFor}
use Rattle.sm_planner.proofs.Answering.{same_basis, memory_alone}
use Rattle.sm_planner.proofs.law.Usable.{scene_at}
use Rattle.sm_planner.proofs.entry.moves.Goals as goal

pub moves_at-requires-clause-scene : goal.moves_at-requires-clause-scene
moves_at-requires-clause-scene c =
    scene_at c.args.machine.now.placement.setup c.placement.result.now.setup (state_of c.args.machine.now) (place_of c.placement.result.now) (pool_hold c.pool.result.now)
    c.is_reached.ensures c.placement.ensures.sizes c.placement.ensures.place c.pool.ensures.hold

pub returns-clause-memory : goal.returns-clause-memory
returns-clause-memory c =
    let w = state_of c.args.machine.now in
    let here : Basis = basis_at c.args.machine.now.placement.setup w in
    let same = same_basis c.placement.result.now.setup c.args.machine.now.placement.setup (place_of c.placement.result.now) w.place (pool_hold c.pool.result.now) (pool w)
    c.placement.ensures.setup c.placement.ensures.place c.pool.ensures.hold in
    memory_alone here c.args.moves.now c.moves_at.result (subst (λ b. IfErr c.moves_at.result (IsNoPlanFor b c.args.moves.now)) same c.moves_at.ensures.refused)
