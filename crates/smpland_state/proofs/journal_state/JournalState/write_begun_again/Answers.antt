use Rattle.smpland_lines.proofs.Written.{next}
use Rattle.smpland_state.proofs.journal_state.JournalState.write_begun_again.Goals as goal

pub returns : goal.returns
returns c =
    next c.args.writer.now.tokens _ _ c.in_ok-write_begun_plan.ensures
    (next c.write_begun_plan.new.writer.tokens _ _ c.in_ok-key.ensures.ok
    (next c.key.new.self.tokens _ _ c.in_ok-boolean.ensures.ok c.in_ok-write_plan_again.ensures))
