use Rattle.std.proofs.Common.{◌≡◌, ◌&&◌, ◌||◌, ◌==◌, ℕ, false, get_or, take}
use Rattle.std.specs.List.{list_any}
use Rattle.sm_planner.proofs.spread.mark_gained.Given as goal

abbrev pub invariant-loop-wanted : goal.invariant-loop-wanted
invariant-loop-wanted l = (v : ℕ) → get_or l.has v false ≡ (list_any (λ m. (m.shard == l.shard) && (m.to == v)) (take l.wanted-index l.moves) || get_or l.initial.has v false)
