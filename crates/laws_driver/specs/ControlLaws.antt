-- The laws of the driver as a controller, behind their premises.
use Rattle.std.specs.Prelude.{◌≡◌, ℕ, true, List}
use Rattle.laws_network.specs.Controller.{replayed}
use Rattle.laws_driver.specs.Control.{Command, Controller, DriverModel, HasTakenStep, IsCallable, IsControllerOf}
use Rattle.laws_driver.specs.Control.{IsWritten, JournalEntry, StreamId, TakeAnswer, Writes, is_due}

-- If a driver is a controller, what a command makes of the driver is what the command's entries make of the controller.
abbrev pub CommandsAreEntries : Type 0
CommandsAreEntries = (command : Command) (old new : DriverModel) (es : List JournalEntry) (c : Controller)
    → IsControllerOf old c → IsCallable old command → Writes command old new es →
    IsControllerOf new (replayed c es)

-- Each answer that the driver takes has an entry.
abbrev pub AnswersHaveEntries : Type 0
AnswersHaveEntries = (id : StreamId) (number : ℕ) (old new : DriverModel) → is_due old id number ≡ true
    → HasTakenStep id old new → IsWritten (TakeAnswer id number) old new
