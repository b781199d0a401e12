use Rattle.std.proofs.Common.{◌≡◌, map}
use Rattle.std.specs.List.{range_with_len}
use Rattle.sm_planner.specs.Basis.{basis_of}
use Rattle.sm_planner.specs.Plan.{room_by}
use Rattle.sm_planner.proofs.writing.rooms_of.Given as goal

abbrev pub invariant-loop-number : goal.invariant-loop-number
invariant-loop-number l = l.rooms.items ≡ map (room_by (basis_of l.placement l.pool) l.draft.moves.items l.numbers) (range_with_len 0 l.number)
