-- The law is the protocol's, over what happens by the events.
use Rattle.sm_report.proofs.SafeScenes.{scenes_are_safe}
use Rattle.sm_report.proofs.reporting.scenes_are_safe.Goals as goal

pub returns : goal.returns
returns c = scenes_are_safe c.runs_are_safe.ensures
