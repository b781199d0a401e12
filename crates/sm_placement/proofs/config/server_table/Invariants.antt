use Rattle.std.proofs.Common.{◌≡◌, false, map, string_bytes, take}
use Rattle.sm_placement.specs.Names.{has_double}
use Rattle.sm_placement.specs.Config.{server_names}
use Rattle.sm_placement.proofs.config.server_table.Given as goal

abbrev pub invariant-loop-server : goal.invariant-loop-server
invariant-loop-server l = record {
  names : map string_bytes l.names.table.keys ≡ server_names (take l.server-index l.servers);
  single : has_double (server_names (take l.server-index l.servers)) ≡ false;
}
