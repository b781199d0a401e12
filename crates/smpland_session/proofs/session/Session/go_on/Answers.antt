use Rattle.std.proofs.Common.{refl}
use Rattle.smpland_session.proofs.session.Session.go_on.Goals as goal

-- Each line has the outcome of its own command.
pub returns-in_ok-came-in-Reopen-clause-came : goal.returns-in_ok-came-in-Reopen-clause-came
returns-in_ok-came-in-Reopen-clause-came c = rw c.in-Reopen.is (refl, c.in_ok-came-in-Reopen.ensures)

pub returns-in-Ok-clause-came : goal.returns-in-Ok-clause-came
returns-in-Ok-clause-came c = rw c.in-Fenced.is (refl, c.in-Ok.ensures)

pub returns-in-Ok-confirm_cells-clause-came : goal.returns-in-Ok-confirm_cells-clause-came
returns-in-Ok-confirm_cells-clause-came c = rw c.in-Confirm.is (refl, c.in-Ok-confirm_cells.ensures)

pub returns-in-Ok-take_settle-clause-came : goal.returns-in-Ok-take_settle-clause-came
returns-in-Ok-take_settle-clause-came c = rw c.in-Settled.is c.in-Ok-take_settle.ensures
