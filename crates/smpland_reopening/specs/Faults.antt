-- Why a reopening does not begin, and why nothing is confirmed.
-- `cell_fault`, `fault_of_cells`, `document_fault` and `IsRefusedWithUnknown` are internal: you need not read them for
-- the public contracts.
use Rattle.std.specs.Prelude.{ℕ, List, Option, None, Some, option_and_then, option_map}
use Rattle.std.specs.Option.{option_or}
use Rattle.sm_placement.specs.Opening.{open_fault}
use Rattle.sm_placement.specs.Setup.{sizes_of}
use Rattle.sm_placement.specs.declared.opening.OpenFault.{OpenFault}
use Rattle.sm_placement.specs.declared.opening.OpenFault.TheVariants as opening
use Rattle.laws_network.specs.Reopening.{Settlement}
use Rattle.sm_plan_text.specs.declared.document.Document.{Document}
use Rattle.sm_plan_text.specs.Opened.{opening_of}
use Rattle.sm_plan_text.specs.Reading.{rows_of}
use Rattle.sm_reopening.specs.declared.ongoing.OngoingReopening.{OngoingReopening}
use Rattle.sm_reopening.specs.Faults.{IsFaultOf, MayConfirm}
use Rattle.smpland_reopening.specs.Members.{first_lost}
use Rattle.smpland_reopening.specs.declared.fault.ConfirmRefusal.{ConfirmRefusal}
use Rattle.smpland_reopening.specs.declared.fault.ConfirmRefusal.TheVariants.{NoMemory, Placement, Cells, UnknownShard}
use Rattle.smpland_reopening.specs.declared.fault.ReopenFault.{ReopenFault}
use Rattle.smpland_reopening.specs.declared.fault.ReopenFault.TheVariants as reopen

-- ---- why a reopening does not begin

-- A fault of a placement's cells keeps a reopening from beginning. A fault of listed servers, loads or floors does not.
abbrev pub cell_fault : OpenFault → Option ReopenFault
cell_fault opening.NoMemory = Some reopen.NoMemory
cell_fault (opening.DoubleCell s v) = Some (reopen.DoubleCell s v)
cell_fault (opening.BadLead s) = Some (reopen.BadLead s)
cell_fault _ = None

-- the fault of a document's cells, if they have one
abbrev pub fault_of_cells : Document → Option ReopenFault
fault_of_cells document = option_and_then cell_fault (open_fault (sizes_of document.config) (opening_of (rows_of document)))

-- A document with this fault begins no reopening, whatever is recorded: its cells have one, or otherwise the first of
-- its servers that is said to be lost.
abbrev pub document_fault : Document → List (List ℕ) → Option ReopenFault
document_fault document lost = option_or (fault_of_cells document) (option_map reopen.LostServer (first_lost document.config lost))

-- ---- why nothing is confirmed

-- the refusal of a placement that is not opened
abbrev pub refusal_by : OpenFault → ConfirmRefusal
refusal_by opening.NoMemory = NoMemory
refusal_by fault = Placement fault

-- As long as servers have shards that nobody knows a settlement is refused: for what stands against it otherwise, or
-- for those shards alone.
abbrev pub IsRefusedWithUnknown : OngoingReopening → Settlement → ConfirmRefusal → Type 0
IsRefusedWithUnknown o s (Cells fault) = IsFaultOf o s fault
IsRefusedWithUnknown o s UnknownShard = MayConfirm o s
IsRefusedWithUnknown o s _ = ⊥
