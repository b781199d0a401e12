use Rattle.smpland_state.proofs.Told.{again_kept, told_kept}
use Rattle.smpland_state.proofs.journal_state.JournalState.write_told.Goals as goal

-- The reply tells, behind the server's name, what the driver keeps for it.
pub returns-in-Some-clause-kept : goal.returns-in-Some-clause-kept
returns-in-Some-clause-kept c =
    told_kept c.write_restore.result c.args.self.now.driver c.args.server
    _ _ _ _ _ c.in-Some.ensures c.in_ok-key.ensures.ok c.write_restore.ensures

pub returns-in-Some-clause-again : goal.returns-in-Some-clause-again
returns-in-Some-clause-again c =
    again_kept c.write_restore.result c.args.self.now c.args.server c.args.nonce
    _ _ _ _ _ c.in-Some.ensures c.in_ok-key.ensures.ok c.write_restore.ensures
