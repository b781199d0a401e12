use Rattle.smpland_lines.proofs.Written.{next}
use Rattle.smpland_state.proofs.messages.Messages.write_plan.Goals as goal

pub returns : goal.returns
returns c = next c.args.writer.now.tokens _ _ c.in_ok-write_orders.ensures c.in_ok-write_ended.ensures
