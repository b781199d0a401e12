-- How the program ends, and its exit status. `served_end`, `unserved_end`, `unrecovered_end`, `unopened_end` and
-- `EndsUnasked` are internal: you need not read them for the public contracts.
use Rattle.std.specs.Prelude.{◌≡◌, ◌⊎◌, ℕ, Result, Ok, Err}
use Rattle.journal_serve.specs.declared.fault.RecoverFault.{RecoverFault}
use Rattle.journal_serve.specs.declared.fault.RecoverFault.TheVariants as recover
use Rattle.journal_serve.specs.declared.fault.ServeFault.{ServeFault}
use Rattle.journal_serve.specs.declared.fault.ServeFault.TheVariants as serve
use Rattle.journal_store.specs.declared.host.OpenFailure.{OpenFailure}
use Rattle.journal_store.specs.declared.host.OpenFailure.TheVariants as opening
use Rattle.smpland.specs.declared.command_line.LineFault.{LineFault}
use Rattle.smpland.specs.declared.command_line.LineFault.TheVariants as line
use Rattle.smpland.specs.declared.status.Status.{Status}
use Rattle.smpland.specs.declared.status.Status.TheVariants.{Done, BadWords, NoMemory, Failed, InUse, Damaged}

-- the exit status of a program that ends so
abbrev pub exit_status_of : Status → ℕ
exit_status_of Done = 0
exit_status_of BadWords = 2
exit_status_of NoMemory = 3
exit_status_of Failed = 4
exit_status_of InUse = 5
exit_status_of Damaged = 6

-- the end when a journal's file was not opened
abbrev pub unopened_end : OpenFailure → Status
unopened_end opening.InUse = InUse
unopened_end opening.Foreign = Damaged
unopened_end _ = Failed

-- the end when a journal was not recovered
abbrev pub unrecovered_end : RecoverFault → Status
unrecovered_end recover.NoMemory = NoMemory
unrecovered_end (recover.Failed _) = Failed
unrecovered_end _ = Damaged

-- the end when not all lines were served
abbrev pub unserved_end : ServeFault → Status
unserved_end serve.NoMemory = NoMemory
unserved_end _ = Failed

-- the end when lines were served
abbrev pub served_end : {A : Type 0} → Result A ServeFault → Status
served_end (Ok _) = Done
served_end (Err fault) = unserved_end fault

-- the end when words ask for nothing
abbrev pub EndsUnasked : LineFault → Status → Type 0
EndsUnasked line.NoMemory end = end ≡ NoMemory
EndsUnasked (line.Told _) end = (end ≡ Done) ⊎ (end ≡ Failed)
EndsUnasked (line.Bad _) end = end ≡ BadWords
