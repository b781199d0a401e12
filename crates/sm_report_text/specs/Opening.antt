-- The line of a placement that is not opened.
use Rattle.std.specs.Prelude.{ℕ, List}
use Rattle.sm_placement.specs.declared.opening.OpenFault.{OpenFault}
use Rattle.sm_placement.specs.Setup.{Setup}
use Rattle.sm_refusals.specs.Openings.{open_refusal}
use Rattle.sm_report_text.specs.Lines.{refusal_line}

-- The line that says why a placement is not opened. Those of the first three are in no report: if memory is short,
-- nothing is written, and a document that is read has no more cells than a placement and no unknown name.
abbrev pub open_fault_line : Setup → OpenFault → List ℕ
open_fault_line setup fault = refusal_line (open_refusal setup fault)
