-- A settlement in the numbers of a reopening's document: the next driver opens on it as the laws of the service say.
use Rattle.std.specs.Prelude.{◌≡◌, ℕ, List}
use Rattle.sm_placement.specs.Layout.{PlacementModel, place_of}
use Rattle.sm_placement.specs.Setup.{Setup}
use Rattle.sm_protocol.specs.Laws.{IsOpening}
use Rattle.laws_network.specs.Reopening.{Settlement}
use Rattle.sm_reopening.specs.Ongoing.{left_out_of, net_reopening}
use Rattle.sm_reopening.specs.States.{is_left_out, says_lost}
use Rattle.sm_driver.specs.Driver.{DriverModel, base}
use Rattle.smpland_reopening.specs.Begun.{NumbersUnder, members_under}
use Rattle.smpland_reopening.specs.Confirmed.{KeepsChosen, SettlesChosen}
use Rattle.smpland_reopening.specs.InForce.{IsOpenedFrom}
use Rattle.smpland_reopening.specs.Reopening.{ReopeningModel}
use Rattle.smpland_reopening.specs.declared.choice.Choice.{Choice}
use Rattle.laws_driver.specs.DrivenLaws.{IsJustOpened}
use Rattle.laws_reopening.specs.Renumbering.{IsRenumberedAs, Renumbering}
use Rattle.laws_service.specs.Controlled.{permits_as}

-- the numbers that the document's servers and shards have in a reopening, in the document's order
abbrev pub documents_numbers : ReopeningModel → Renumbering
documents_numbers r = record { servers = r.servers; shards = r.shards }

-- what a driver opens with, as a settlement
abbrev pub settlement_kept : PlacementModel → ℕ → Settlement
settlement_kept p room = record { setup = p.setup; place = place_of p; room = room }

-- An operator's choices are confirmed. The reopening numbers what had numbers, and its document; these servers are
-- lost.
pub record IsConfirmedUnder (numbered : Setup) (lost : List (List ℕ)) (chosen : List Choice) (r new : ReopeningModel)
    (s : Settlement) : Type 0 where
  pub numbers : NumbersUnder numbered r
  pub lost_ones : (net_reopening r.ongoing).lost ≡ says_lost (members_under r.numbering r.document.config lost)
  pub left_out : left_out_of r.ongoing ≡ is_left_out (members_under r.numbering r.document.config lost)
  pub settles : SettlesChosen r chosen s
  pub keeps : KeepsChosen r new chosen

-- If a controller may open on the settlement, and one on what is kept for the next driver, both are the same: the
-- second is the first in the document's numbers.
abbrev pub KeptIsRenumbered : Type 0
KeptIsRenumbered = (numbered : Setup) (lost : List (List ℕ)) (chosen : List Choice) (r new : ReopeningModel) (s : Settlement)
    (c : IsConfirmedUnder numbered lost chosen r new s) → IsOpening s.setup s.place s.room →
    IsOpening c.keeps.placement.setup (place_of c.keeps.placement) r.document.log →
    IsRenumberedAs (documents_numbers r) s (settlement_kept c.keeps.placement r.document.log)

-- The next driver has just been opened on what is kept, with the permits of before in the document's numbers.
abbrev pub OpensOnKept : Type 0
OpensOnKept = (r : ReopeningModel) (d : DriverModel) (o : IsOpenedFrom r d) →
    IsJustOpened o.placement.setup (place_of o.placement) r.document.log (permits_as (documents_numbers r) r.permits) d
