-- The law is the lemma.
use Rattle.smpland_reopening_lines.proofs.Laws.{settles_bring_all}
use Rattle.smpland_reopening_lines.proofs.law.settles_bring_all.Goals as goal

pub returns : goal.returns
returns g = settles_bring_all
