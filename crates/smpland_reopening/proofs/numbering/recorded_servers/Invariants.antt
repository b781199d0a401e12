use Rattle.std.proofs.Common.{◌≡◌, map, take}
use Rattle.sm_placement.specs.Config.{server_names, server_row}
use Rattle.sm_placement.specs.Setup.{names_of_servers}
use Rattle.smpland_reopening.specs.Numbers.{server_as_documented}
use Rattle.smpland_reopening.proofs.numbering.recorded_servers.Given as goal

-- the servers so far have their names, and are as the document has them
abbrev pub invariant-loop-number : goal.invariant-loop-number
invariant-loop-number l = record {
  names : server_names l.rows.items ≡ take l.number (names_of_servers l.recorded);
  rows : map server_row l.rows.items ≡ map (server_as_documented l.document) (take l.number l.recorded.servers);
}
