use Rattle.smpland_lines.proofs.Written.{next}
use Rattle.smpland_state.proofs.since.write_changes_since.Goals as goal

pub returns : goal.returns
returns c =
    let o = c.args.writer.now.tokens in
    next o _ _ (next o _ _ c.in_ok-write_orders_since.ensures c.in_ok-write_published_since.ensures) c.in_ok-write_ended_since.ensures
