use Rattle.std.proofs.Common.{◌≡◌, ◌++◌}
use Rattle.std.specs.List.{flat_map, range_with_len}
use Rattle.smpland_state.specs.State.{server_state}
use Rattle.smpland_state.proofs.state.servers.write_each_server.Given as goal

-- the servers so far
abbrev pub invariant-loop-number : goal.invariant-loop-number
invariant-loop-number l =
    l.writer.tokens ≡ l.initial.writer.tokens ++ flat_map (server_state l.opened.driver l.is_reopening) (range_with_len 0 l.number)
