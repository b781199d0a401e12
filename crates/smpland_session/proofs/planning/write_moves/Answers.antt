use Rattle.smpland_session.proofs.Planned.{bad_moves_told, moves_told}
use Rattle.smpland_session.proofs.planning.write_moves.Goals as goal

-- The moves are those of the machine as it stands.
pub returns-in-Ok : goal.returns-in-Ok
returns-in-Ok c =
    moves_told c.write_answer.result c.args.opened.now.driver.machine c.machine-machine.result.now c.config-in-Ok.result.now c.moves-answer.result _ _
    c.machine-machine.ensures c.config-in-Ok.ensures.setup c.as_slice.result.now c.moves-answer.ensures.plan c.moves-answer.ensures.refused c.write_answer.ensures

pub returns-in-Err : goal.returns-in-Err
returns-in-Err c = bad_moves_told c.write_bad.result c.args.opened.now.driver.machine c.in-Err.bad _ _ c.write_bad.ensures
