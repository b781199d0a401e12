use Rattle.smpland_state.specs.Denied.{denied_reply}
use Rattle.smpland_state.proofs.journal_state.JournalState.write_denied.Goals as goal

pub returns-clause-refused : goal.returns-clause-refused
returns-clause-refused c = (denied_reply c.args.self.now c.args.server c.args.why.now, c.in_ok-write_why_denied.ensures)
