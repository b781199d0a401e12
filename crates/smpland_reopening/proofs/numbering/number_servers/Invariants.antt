use Rattle.std.proofs.Common.{◌≡◌, ◌++◌, map, take}
use Rattle.std.specs.List.{filter}
use Rattle.sm_placement.specs.Config.{server_names, server_row}
use Rattle.sm_placement.specs.Setup.{names_of_servers}
use Rattle.smpland_reopening.specs.Numbers.{AreNumberedBelow, KeepsNames, is_new_server, server_as_documented}
use Rattle.smpland_reopening.proofs.numbering.number_servers.Given as goal

-- what was recorded keeps its numbers, and the document's servers so far have theirs
abbrev pub invariant-loop-place : goal.invariant-loop-place
invariant-loop-place l = record {
  kept : KeepsNames (names_of_servers l.recorded) (server_names l.rows.items);
  numbered : AreNumberedBelow l.place (server_names l.rows.items) l.numbers.items (names_of_servers l.document);
  rows : map server_row l.rows.items ≡ map (server_as_documented l.document) l.recorded.servers ++ filter (is_new_server l.recorded) (take l.place l.document.servers);
}
