use Rattle.journal_lines.proofs.TornEnds.{cut_recovers}
use Rattle.journal_lines.proofs.laws.torn_cut_recovers.Goals as goal

pub returns : goal.returns
returns c = cut_recovers
