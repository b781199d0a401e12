use Rattle.std.proofs.Common.{◌≡◌, true, map, take}
use Rattle.std.specs.List.{list_all, range_with_len}
use Rattle.sm_placement.specs.Config.{shard_names, shard_row}
use Rattle.sm_placement.specs.Setup.{is_good_shard, names_of_shards}
use Rattle.smpland_reopening.specs.Eased.{AreEasedBelow}
use Rattle.smpland_reopening.specs.RoleGrids.{role_at}
use Rattle.smpland_reopening.specs.Roles.{is_down_in}
use Rattle.smpland_reopening.specs.Settled.{shard_met}
use Rattle.smpland_reopening.proofs.opening.floored_shards.Given as goal

-- the shards so far have their names, are good, and are the document's but for their floors
abbrev pub invariant-loop-number : goal.invariant-loop-number
invariant-loop-number l = record {
  names : shard_names l.rows.items ≡ take l.number (names_of_shards l.config);
  eased : AreEasedBelow l.number l.config.shards (map shard_row l.rows.items);
  met : map shard_row l.rows.items ≡ map (shard_met l.config (role_at l.roles) (is_down_in l.down)) (range_with_len 0 l.number);
  good : list_all is_good_shard (map shard_row l.rows.items) ≡ true;
}
