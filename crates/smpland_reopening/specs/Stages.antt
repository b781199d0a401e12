-- How far a reopening is.
use Rattle.std.specs.Prelude.{Bool, List, [], ◌∷◌, false, is_some, true}
use Rattle.sm_reopening.specs.Ongoing.{net_reopening}
use Rattle.sm_reopening.specs.declared.party.Party.{Party}
use Rattle.smpland_reopening.specs.Proposal.{parties_waited_for}
use Rattle.smpland_reopening.specs.Reopening.{ReopeningModel}
use Rattle.smpland_reopening.specs.declared.waiting.Stage.{Stage}
use Rattle.smpland_reopening.specs.declared.waiting.Stage.TheVariants as stage

-- before a settlement is confirmed: something may be confirmed once nobody has to answer
abbrev pub stage_waiting_for : List Party → Stage
stage_waiting_for [] = stage.Confirm
stage_waiting_for (p ∷ ps) = stage.Fence

-- once it is confirmed, settles are awaited
abbrev pub stage_by : Bool → List Party → Stage
stage_by true parties = stage.Settle
stage_by false parties = stage_waiting_for parties

-- the stage of a reopening
abbrev pub stage_of : ReopeningModel → Stage
stage_of r = stage_by (is_some (net_reopening r.ongoing).settlement) (parties_waited_for r)
