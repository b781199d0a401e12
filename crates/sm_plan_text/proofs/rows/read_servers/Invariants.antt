use Rattle.std.proofs.Common.{◌≡◌, take, drop, map, []}
use Rattle.json_tree.specs.View.{view}
use Rattle.sm_placement.specs.Config.{server_row}
use Rattle.sm_plan_text.specs.Faults.{noted}
use Rattle.sm_plan_text.specs.Values.{names_in}
use Rattle.sm_plan_text.specs.Tables.{walked}
use Rattle.sm_plan_text.specs.Servers.{server_faults, server_in, down_in}
use Rattle.sm_plan_text.proofs.rows.read_servers.Given as goal

abbrev pub invariant-loop-item : goal.invariant-loop-item
invariant-loop-item l = record {
  rows : map server_row l.servers.rows.items ≡ map server_in (take l.item-index (map view l.items));
  names : l.servers.names ≡ names_in (take l.item-index (map view l.items));
  down : l.servers.down.items ≡ down_in (take l.item-index (map view l.items));
  faults : noted l.faults.lowest (walked server_faults (take l.item-index (map view l.items)) (drop l.item-index (map view l.items))) ≡ noted l.fn.faults.lowest (walked server_faults [] (map view l.items));
}
