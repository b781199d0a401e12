use Rattle.std.proofs.Common.{◌≡◌, ◌<◌, ℕ, false, get_or}
use Rattle.sm_placement.specs.Layout.{place_of}
use Rattle.sm_planner.specs.Basis.{is_replica}
use Rattle.sm_planner.proofs.spread.mark_replicas.Given as goal

abbrev pub invariant-loop-number : goal.invariant-loop-number
invariant-loop-number l = (v : ℕ) → v < l.number → get_or l.has v false ≡ is_replica ((place_of l.placement).cells l.shard v)
