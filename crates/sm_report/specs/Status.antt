-- The exit statuses.
use Rattle.std.specs.Prelude.{ℕ}
use Rattle.sm_report.specs.declared.status.Status.{Status}
use Rattle.sm_report.specs.declared.status.Status.TheVariants.{Done, Refused, BadInput, NoMemory, NoThread, ReadFailed}
use Rattle.sm_report.specs.declared.status.Status.TheVariants.{WriteFailed}

-- the exit status of a program whose report ends so
abbrev pub code_of : Status → ℕ
code_of Done = 0
code_of Refused = 1
code_of BadInput = 2
code_of NoMemory = 3
code_of NoThread = 3
code_of ReadFailed = 4
code_of WriteFailed = 4
