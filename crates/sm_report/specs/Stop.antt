-- Reports that end before the command's own text.
-- Internal definitions: you need not read them for the public contracts.
use Rattle.std.specs.Prelude.{Result, Ok, Err}
use Rattle.sm_report.specs.declared.stop.Stop.{Stop}
use Rattle.sm_report.specs.declared.stop.Stop.TheVariants.{NoMemory, ReadFailed, Report}
use Rattle.sm_report.specs.Report.{Output}

-- The report with which a stage behind the reading ended is one of these; if memory was short, there is none. Such a
-- stage reads nothing.
abbrev pub IfEnded : Stop → (Output → Type 0) → Type 0
IfEnded NoMemory Is = Unit {0}
IfEnded ReadFailed Is = ⊥
IfEnded (Report made) Is = Is made

-- the report that was made of what was read, to its end or to the end of an earlier stage, is one of these
abbrev pub IfMade : Result Output Stop → (Output → Type 0) → Type 0
IfMade (Ok made) Is = Is made
IfMade (Err stop) Is = IfEnded stop Is

-- the same of a stage that reads: if a read failed, there is no report either
abbrev pub IfReadEnded : Stop → (Output → Type 0) → Type 0
IfReadEnded NoMemory Is = Unit {0}
IfReadEnded ReadFailed Is = Unit {0}
IfReadEnded (Report made) Is = Is made

-- the same of all stages, with the one that reads: if a read failed, there is no report either
abbrev pub IfReadMade : Result Output Stop → (Output → Type 0) → Type 0
IfReadMade (Ok made) Is = Is made
IfReadMade (Err stop) Is = IfReadEnded stop Is
