-- Runs that have not come to their end.
-- Public functions' contracts cite `not_finished_text`, `not_run` and `IsNotFinished` alone (`report_run`, and
-- `report_word` of `sm_command_line`). The others are internal: you need not read them for the public contracts.
use Rattle.std.specs.Prelude.{◌≡◌, List, ℕ, [], ◌∷◌, codes, Result, Ok, Err}
use Rattle.sm_report.specs.declared.status.Status.TheVariants as status
use Rattle.sm_report.specs.declared.run_stop.NotFinished.{NotFinished}
use Rattle.sm_report.specs.declared.run_stop.NotFinished.TheVariants.{NoThread, Halted, Spent, NoCaller, OtherAsk}
use Rattle.sm_report.specs.declared.run_stop.NotFinished.TheVariants.{NotClosed, OtherEvents}
use Rattle.sm_report.specs.declared.run_stop.RunStop.{RunStop}
use Rattle.sm_report.specs.declared.run_stop.RunStop.TheVariants as run_stop
use Rattle.sm_report.specs.Stop.{IfEnded, IfReadEnded}
use Rattle.sm_report_text.specs.Lines.{line}
use Rattle.sm_report.specs.Report.{Output}

-- The text that is written if a plan has begun and was not run to its end. None of the texts behind the first is
-- wanted: nothing halts the board of a report, or happens on it beside the run, and it is closed if all streams have
-- finished; but no contract rules them out.
abbrev pub not_finished_text : NotFinished → List ℕ
not_finished_text NoThread = line (codes "not run: 2 NoThread" ∷ [])
not_finished_text Halted = line (codes "not run: 3 Halted" ∷ [])
not_finished_text Spent = line (codes "not run: 4 Spent" ∷ [])
not_finished_text NoCaller = line (codes "not run: 5 NoCaller" ∷ [])
not_finished_text OtherAsk = line (codes "not run: 6 OtherAsk" ∷ [])
not_finished_text NotClosed = line (codes "not run: 7 NotClosed" ∷ [])
not_finished_text OtherEvents = line (codes "not run: 8 OtherEvents" ∷ [])

-- the report of a plan that has begun and was not run to its end
abbrev pub not_run : NotFinished → Output
not_run why = record { text = not_finished_text why; status = status.NoThread }

-- the report says why the plan was not run to its end
abbrev pub IsNotFinished : Output → Type 0
IsNotFinished output = (why : NotFinished) × (output ≡ not_run why)

-- the report with which a stage ended is one of these, if there is one
abbrev pub IfRunStop : RunStop → (Output → Type 0) → Type 0
IfRunStop (run_stop.Stop stop) Is = IfEnded stop Is
IfRunStop (run_stop.NotFinished why) Is = Is (not_run why)

-- no stage before the run has ended the report
abbrev pub IsOfRun : RunStop → Type 0
IsOfRun (run_stop.Stop stop) = IfEnded stop (λ made. ⊥)
IsOfRun (run_stop.NotFinished why) = Unit {0}

-- the report that was made is one of these, if there is one
abbrev pub IfRan : Result Output RunStop → (Output → Type 0) → Type 0
IfRan (Ok made) Is = Is made
IfRan (Err why) Is = IfRunStop why Is

-- the same of a stage that reads
abbrev pub IfReadRunStop : RunStop → (Output → Type 0) → Type 0
IfReadRunStop (run_stop.Stop stop) Is = IfReadEnded stop Is
IfReadRunStop (run_stop.NotFinished why) Is = Is (not_run why)

-- the same of all stages, with the one that reads: if a read failed, there is no report either
abbrev pub IfReadRan : Result Output RunStop → (Output → Type 0) → Type 0
IfReadRan (Ok made) Is = Is made
IfReadRan (Err why) Is = IfReadRunStop why Is
