-- The names of the board.
use Rattle.sm_machine.specs.State.{state_of}
use Rattle.sm_executor.specs.declared.limits.TheConstants.{PARTS}
use Rattle.sm_report.proofs.boards.report_on_board.Given as goal

abbrev pub ghosts-report_on_ground-A-Ledger : goal.ghosts-report_on_ground-A-Ledger
ghosts-report_on_ground-A-Ledger g a = record { name = a.ground.steps; parts = PARTS }

abbrev pub ghosts-report_on_ground-B-Ledger : goal.ghosts-report_on_ground-B-Ledger
ghosts-report_on_ground-B-Ledger g a = record { name = a.ground.executed; parts = PARTS }

abbrev pub ghosts-report_on_ground-C-Ledger : goal.ghosts-report_on_ground-C-Ledger
ghosts-report_on_ground-C-Ledger g a = record { name = a.ground.refused; parts = PARTS }

abbrev pub ghosts-report_on_ground-N-Naming : goal.ghosts-report_on_ground-N-Naming
ghosts-report_on_ground-N-Naming g a = record { words = a.ground.words; setup = a.ground.setup; opened = state_of a.begun.machine }
