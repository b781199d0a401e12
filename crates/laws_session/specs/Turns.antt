-- The changes of lines, as the commands of a driver.
use Rattle.std.specs.Prelude.{List}
use Rattle.smpland_session.specs.Changes.{Changes}
use Rattle.laws_driver.specs.Control.{IsWritten}
use Rattle.laws_driver.specs.Driven.{AllByRecursion, Command, Driven, DriverModel, TellsTruth, IsCallable}
use Rattle.laws_driver.specs.Driven.{IsDrivenReached, JournalEntry, Takes, Writes, after_turn}

-- A line makes of the driver of an open journal what a command of the driver does, given as it has to be.
abbrev pub ChangesAreCommands : Type 0
ChangesAreCommands = (old new : DriverModel) → Changes old new
    → (command : Command) × (es : List JournalEntry) × IsCallable old command × Writes command old new es

-- A line's change is such a command. Whatever entries it writes, if they tell the truth, the driver and its fleet have
-- come on by a turn.
abbrev pub ChangesAreTurns : Driven → Type 0
ChangesAreTurns x = (new : DriverModel) → Changes x.driver new
    → (command : Command) × IsCallable x.driver command × IsWritten command x.driver new
    × ((es : List JournalEntry) → Writes command x.driver new es → AllByRecursion (TellsTruth x.fleet) es
    → IsDrivenReached (after_turn x (Takes command new es)))
