use Rattle.std.proofs.Common.{◌≡◌, ◌&&◌, ◌==◌, ℕ, false, get_or, take}
use Rattle.std.specs.Prelude.{not}
use Rattle.std.specs.List.{list_any}
use Rattle.sm_planner.proofs.spread.unmark_left.Given as goal

abbrev pub invariant-loop-wanted : goal.invariant-loop-wanted
invariant-loop-wanted l = (v : ℕ) → get_or l.has v false ≡ (get_or l.initial.has v false && not (list_any (λ m. (m.shard == l.shard) && (m.from == v)) (take l.wanted-index l.moves)))
