-- The law is the lemma on what is shown along events.
use Rattle.laws_reopening.proofs.MapVersions.{versions_never_go_back}
use Rattle.laws_reopening.proofs.versions.versions_never_go_back.Goals as goal

pub returns : goal.returns
returns c = versions_never_go_back c.fleet_opens_as.ensures c.map_never_goes_back.ensures
