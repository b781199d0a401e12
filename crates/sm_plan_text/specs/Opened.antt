-- The parts with which the placement of a document is opened.
use Rattle.sm_placement.specs.Opening.{Opening}
use Rattle.sm_plan_text.specs.Documents.{DocumentModel}

-- the cells, the listed servers, the servers that are down and the limit on these, as a document says them
abbrev pub opening_of : DocumentModel → Opening
opening_of d = record { cells = d.cells; listed = d.listed; down = d.down; limit = d.limit }
