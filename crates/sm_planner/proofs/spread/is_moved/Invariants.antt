use Rattle.std.proofs.Common.{◌≡◌, ◌==◌, drop}
use Rattle.std.specs.List.{list_any}
use Rattle.sm_planner.proofs.spread.is_moved.Given as goal

-- those so far are of other shards
abbrev pub invariant-loop-wanted : goal.invariant-loop-wanted
invariant-loop-wanted l = list_any (λ m. m.shard == l.shard) (drop l.wanted-index l.moves) ≡ list_any (λ m. m.shard == l.shard) l.moves
