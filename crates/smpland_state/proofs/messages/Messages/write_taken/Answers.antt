use Rattle.smpland_lines.proofs.Written.{next}
use Rattle.smpland_state.proofs.messages.Messages.write_taken.Goals as goal

pub returns : goal.returns
returns c = next c.args.writer.now.tokens _ _ c.in_ok-write_moved.ensures c.in_ok-write_plan.ensures
