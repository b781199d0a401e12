-- Why nothing is done to a journal that is not open.
-- `closed_word` is internal: you need not read it for the public contracts.
use Rattle.std.specs.Prelude.{ℕ, Bool, true, false, List, codes}

-- its word: the journal opens with the reopening that is under way, or none was opened
abbrev pub closed_word : Bool → List ℕ
closed_word true = codes "Reopening"
closed_word false = codes "NotOpened"
