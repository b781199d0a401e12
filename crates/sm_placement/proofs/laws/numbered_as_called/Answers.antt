use Rattle.sm_placement.proofs.Calls.{numbered_as_called, called_with_lasts}
use Rattle.sm_placement.proofs.laws.numbered_as_called.Goals as goal

pub returns-clause-numbered : goal.returns-clause-numbered
returns-clause-numbered c = numbered_as_called

pub returns-clause-called : goal.returns-clause-called
returns-clause-called c = called_with_lasts
