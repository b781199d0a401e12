use Rattle.journal_serve.proofs.Turns.{lines_determine, lines_determine_all}
use Rattle.journal_serve.proofs.law.lines_determine_exchanges.Goals as goal

pub returns-clause-all : goal.returns-clause-all
returns-clause-all g c = lines_determine_all g.A.Applies.takes

pub returns-clause-first : goal.returns-clause-first
returns-clause-first g c = lines_determine g.A.Applies.takes
