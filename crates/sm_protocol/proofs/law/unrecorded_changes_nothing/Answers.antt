-- The law is the lemma on every event.
use Rattle.sm_protocol.proofs.Turns.{unrecorded_changes_nothing}
use Rattle.sm_protocol.proofs.law.unrecorded_changes_nothing.Goals as goal

pub returns : goal.returns
returns g = unrecorded_changes_nothing
