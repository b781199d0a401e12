-- Drivers that take the same commands from the same opening: a replica, a replay and a test are such drivers.
use Rattle.std.specs.Prelude.{◌≡◌, ℕ, Option, List, [], ◌∷◌}
use Rattle.sm_placement.specs.Setup.{Setup}
use Rattle.sm_placement.specs.Place.{Place}
use Rattle.sm_driver.specs.Alike.{AreAlike}
use Rattle.laws_driver.specs.Control.{Command, DriverModel, IsWritten}
use Rattle.laws_driver.specs.DrivenLaws.{IsJustOpened}

-- The commands, one after the other, make one driver of another one.
abbrev pub LeadTo : List Command → DriverModel → DriverModel → Type 0
LeadTo [] old new = new ≡ old
LeadTo (c ∷ cs) old new = (between : DriverModel) × IsWritten c old between × LeadTo cs between new

-- The same commands make drivers of them that are alike.
abbrev pub StayAlike : DriverModel → DriverModel → Type 0
StayAlike d e = (commands : List Command) (new next : DriverModel) → LeadTo commands d new → LeadTo commands e next
    → AreAlike new next

-- Both drivers have just been opened, in the same epoch of the same journal, over the same placement, with the same
-- servers carried over.
pub record OpenedAlike (rows : Setup) (p : Place) (room : ℕ) (before : List (Option ℕ)) (d e : DriverModel) : Type 0 where
  pub one : IsJustOpened rows p room before d
  pub other : IsJustOpened rows p room before e
  pub journal : e.journal ≡ d.journal
  pub epoch : e.epoch ≡ d.epoch
  pub fence : e.fence ≡ d.fence
  pub carried : e.carried ≡ d.carried

-- Drivers that open alike are alike.
abbrev pub ReplicasOpenAlike : Type 0
ReplicasOpenAlike = (rows : Setup) (p : Place) (room : ℕ) (before : List (Option ℕ)) (d e : DriverModel)
    → OpenedAlike rows p room before d e → AreAlike d e
