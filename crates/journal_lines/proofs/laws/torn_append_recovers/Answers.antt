use Rattle.journal_lines.proofs.TornEnds.{append_recovers}
use Rattle.journal_lines.proofs.laws.torn_append_recovers.Goals as goal

pub returns : goal.returns
returns c = append_recovers
