-- How far a reopening is, as a reply tells it.
use Rattle.std.specs.Prelude.{ℕ, List, [], ◌++◌, codes}
use Rattle.json.specs.Token.{Token}
use Rattle.sm_reopening.specs.Ongoing.{net_reopening}
use Rattle.sm_reopening.specs.declared.party.Party.{Party}
use Rattle.smpland_reopening.specs.Reopening.{ReopeningModel}
use Rattle.smpland_reopening.specs.Stages.{stage_of}
use Rattle.smpland_reopening.specs.Waiting.{unanswered_parties, unsettled_parties}
use Rattle.smpland_reopening.specs.declared.waiting.Stage.{Stage}
use Rattle.smpland_reopening.specs.declared.waiting.Stage.TheVariants as stage
use Rattle.smpland_lines.specs.Members.{number_member, object_member, text_member}
use Rattle.smpland_reopening_lines.specs.Parties.{waiting_member}
use Rattle.smpland_reopening_lines.specs.Proposals.{proposal_member}

-- the word for a stage
abbrev pub stage_text : Stage → List ℕ
stage_text stage.Fence = codes "fence"
stage_text stage.Confirm = codes "confirm"
stage_text stage.Settle = codes "settle"

-- the parties whose answers are missing: those to settles, or otherwise those to fences
abbrev pub parties_left : ReopeningModel → Stage → List Party
parties_left r stage.Settle = unsettled_parties (net_reopening r.ongoing)
parties_left r stage.Confirm = unanswered_parties (net_reopening r.ongoing)
parties_left r stage.Fence = unanswered_parties (net_reopening r.ongoing)

-- what may be confirmed, if something may be
abbrev pub proposal_at : ReopeningModel → Stage → List Token
proposal_at r stage.Confirm = proposal_member r
proposal_at r stage.Fence = []
proposal_at r stage.Settle = []

-- a reopening at this stage
abbrev pub progress_members : ReopeningModel → Stage → List Token
progress_members r at =
    number_member (codes "base") (net_reopening r.ongoing).base
    ++ text_member (codes "is") (stage_text at)
    ++ waiting_member r.numbering (parties_left r at)
    ++ proposal_at r at

-- how far a reopening is, as a member
abbrev pub progress_member : ReopeningModel → List Token
progress_member r = object_member (codes "reopening") (progress_members r (stage_of r))
