use Rattle.journal_lines.proofs.Chains.{recovers_once, damaged_recovers_not, foreign_recovers_not}
use Rattle.journal_lines.proofs.laws.one_recovery.Goals as goal

pub returns : goal.returns
returns c = record { once = recovers_once; damaged = damaged_recovers_not; foreign = foreign_recovers_not }
