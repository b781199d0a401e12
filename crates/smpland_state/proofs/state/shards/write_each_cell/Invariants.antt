use Rattle.std.proofs.Common.{◌≡◌, ◌++◌}
use Rattle.std.specs.List.{flat_map, range_with_len}
use Rattle.smpland_state.specs.Audit.{recorded_cell}
use Rattle.smpland_state.specs.State.{cell_row}
use Rattle.smpland_state.proofs.state.shards.write_each_cell.Given as goal

-- the servers so far
abbrev pub invariant-loop-number : goal.invariant-loop-number
invariant-loop-number l =
    l.writer.tokens
    ≡ l.initial.writer.tokens
    ++ flat_map (λ v. cell_row l.opened.driver.machine.placement.setup v (recorded_cell l.opened.driver l.shard v)) (range_with_len 0 l.number)
