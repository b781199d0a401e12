use Rattle.smpland_lines.proofs.Written.{next}
use Rattle.smpland_session.proofs.session.Session.write_orders_in_force.Goals as goal

pub returns : goal.returns
returns c =
    let o = c.args.writer.now.tokens in
    let fences = next o _ _ c.in_ok-write_present_orders.ensures c.in_ok-write_no_list.ensures in
    next o _ _ (next o _ _ fences c.in_ok-write_no_list-2.ensures) c.in_ok-write_present_notices.ensures
