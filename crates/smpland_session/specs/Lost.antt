-- Servers that are said to be lost, as a reopening begins.
-- `unknown_server` is internal: you need not read it for the public contracts.
use Rattle.std.specs.Prelude.{ℕ, List, ◌++◌, Option, Some, None, codes, find, is_none}
use Rattle.sm_placement.specs.Setup.{Setup, server_named}
use Rattle.smpland_lines.specs.Members.{text_member}
use Rattle.smpland_lines.specs.Refusals.{RefusedLine}
use Rattle.smpland_state.specs.declared.journal_state.JournalState.{JournalState}
use Rattle.smpland_session.specs.declared.under_way.UnderWay.{UnderWay}

-- the servers and shards that have numbers: those of the reopening that is replaced, or those that are recorded; over
-- nothing, none has to
abbrev pub numbered : Option JournalState → Option UnderWay → Option Setup
numbered (Some o) (Some u) = Some u.reopening.numbering
numbered (Some o) None = Some o.driver.machine.placement.setup
numbered None under = None

-- the first of these names that no server has
abbrev pub first_unknown_server : Option Setup → List (List ℕ) → Option (List ℕ)
first_unknown_server (Some setup) names = find (λ name. is_none (server_named setup name)) names
first_unknown_server None names = None

-- nobody knows a server of this name
abbrev pub unknown_server : List ℕ → RefusedLine
unknown_server name = record {
  kind = codes "UnknownName";
  number = None;
  fields = text_member (codes "server") name;
  text = codes "refused: UnknownName server " ++ name;
}
