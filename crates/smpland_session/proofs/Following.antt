-- Lines on a reopening, whoever they name.
use Rattle.std.proofs.Common.{ℕ, Bor, List, Option, Some, None}
use Rattle.smpland_reopening.specs.Reopening.{ReopeningModel}
use Rattle.smpland_lines.specs.declared.command.InventoryText.{InventoryText}
use Rattle.smpland_state.specs.declared.journal_state.JournalState.{JournalState}
use Rattle.smpland_reopening_lines.specs.Taken.{TakesFenced, TakesSettled, TakesSettledBy, TakesTold}
use Rattle.smpland_session.specs.declared.under_way.UnderWay.{UnderWay}
use Rattle.smpland_session.specs.Changes.{BecomesLast, ComesInForce, ComesInForceBy, reopening_under_way}

-- an answer to a fence
pub told_by_line : (server : Option (Bor (List ℕ))) (base : ℕ) (told : InventoryText) (old new : ReopeningModel) → TakesFenced server base told old new → TakesTold old new
told_by_line server base told old new h = (h.0, base, h.2.0, h.2.2)

-- an answer to a settle
pub settled_by_line : (server : Option (Bor (List ℕ))) (base : ℕ) (old new : ReopeningModel) → TakesSettledBy server base old new → TakesSettled old new
settled_by_line server base old new h = (h.0, base, h.2)

-- the last one
pub comes_in_force : (server : Option (Bor (List ℕ))) (base : ℕ) (under after : Option UnderWay)
    (new : Option JournalState) →
    ComesInForceBy (TakesSettledBy server base) under after new → ComesInForce under after new
comes_in_force server base under after new h = (h.0, by_line (reopening_under_way under) h.0 h.1, h.2, h.3, h.4, h.5)
  where
    by_line : (o : Option ReopeningModel) (last : ReopeningModel) → BecomesLast (TakesSettledBy server base) o last → BecomesLast TakesSettled o last
    by_line (Some r) last h = settled_by_line server base r last h
    by_line None last h = h
