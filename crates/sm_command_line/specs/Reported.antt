-- The texts that the program writes, by the word of its command line.
use Rattle.std.specs.Prelude.{ℕ, List, Option}
use Rattle.sm_report.specs.declared.limits.TheConstants.{MOST_BYTES}
use Rattle.sm_command_line.specs.declared.words.Word.{Word}
use Rattle.sm_command_line.specs.declared.words.Word.TheVariants.{Report, Run}
use Rattle.sm_report.specs.Report.{Output}
use Rattle.sm_report.specs.Output.{IsReportOf}
use Rattle.sm_report.specs.Running.{IsRunReportOf}

-- what is reported for a word, of the bytes that were left in a reader
abbrev pub IsReported : Word → Option (List ℕ) → Output → Type 0
IsReported (Report command) left = IsReportOf command MOST_BYTES left
IsReported Run left = IsRunReportOf MOST_BYTES left
