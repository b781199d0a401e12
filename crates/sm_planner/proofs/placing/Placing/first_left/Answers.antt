use Rattle.std.proofs.Common.{◌≡◌, ap, length, get_or, true, false}
use Rattle.std.specs.Prelude.{not}
use Rattle.sm_planner.specs.Accounts.{is_left}
use Rattle.sm_planner.proofs.Firsts.{passed}
use Rattle.sm_planner.proofs.placing.Placing.first_left.Goals as goal

pub loop-i-preserved : goal.loop-i-preserved
loop-i-preserved c =
    let marks = c.args.self.now.marks.items in
    let e : get_or marks c.loop-i.i false ≡ true = cc in
    passed (is_left marks) c.loop-i.i (length c.args.moves.now) c.loop-i.invariant c.loop-i-test.true (ap not e)
