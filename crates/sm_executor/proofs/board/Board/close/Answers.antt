-- A board is closed.
use Rattle.std.proofs.Common.{sym, subst, arith}
use Rattle.sm_machine.specs.Machine.{MachineModel}
use Rattle.sm_machine.specs.State.{state_of}
use Rattle.sm_executor.specs.Closed.{IsClosed}
use Rattle.sm_executor.specs.Views.{state_in}
use Rattle.sm_executor.proofs.board.Board.close.Goals as goal

pub returns-in-Ok-clause-closed : goal.returns-in-Ok-clause-closed
returns-in-Ok-clause-closed g c =
    let h = c.into_inner-held.result in
    let state = c.is_of_board.ensures.state in
    let done = c.in-Ok.ensures.done in
    let ends = c.ends_are_reached.ensures g.N.Naming.setup (state_in h) state.reached done in
    let back = c.in-Ok.ensures.counts in
    let given = c.close.ensures.given in
    let runners = given.runners in
    let callers = given.callers in
    subst (λ (m : MachineModel). IsClosed g.N.Naming.setup g.N.Naming.opened (state_of m) c.args.ended.items c.args.callers.items) (sym c.in-Ok.ensures.machine)
    (record {
      state = record { state = state; done = done; in_log = ends.0; at_ends = ends.1 };
      ends = omega (arith, back.0);
      most_callers = omega (arith, back.1);
      account = c.in-Ok.ensures.account;
    })

pub returns-in-Err-clause-why : goal.returns-in-Err-clause-why
returns-in-Err-clause-why g c = record { held = c.into_inner-held.result; state = c.is_of_board.ensures.state; given = c.close.ensures.given; why = c.in-Err.ensures.why }
