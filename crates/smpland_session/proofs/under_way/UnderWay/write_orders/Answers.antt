use Rattle.smpland_lines.proofs.Written.{next}
use Rattle.smpland_session.proofs.under_way.UnderWay.write_orders.Goals as goal

pub returns : goal.returns
returns c =
    let o = c.args.writer.now.tokens in
    let fences = next o _ _ c.in_ok-write_no_list.ensures c.in_ok-write_fences_left.ensures in
    next o _ _ (next o _ _ fences c.in_ok-write_settles.ensures) c.in_ok-write_no_list-2.ensures
