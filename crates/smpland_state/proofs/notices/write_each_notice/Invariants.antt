use Rattle.std.proofs.Common.{◌≡◌, ◌++◌}
use Rattle.std.specs.List.{flat_map, range_with_len}
use Rattle.smpland_state.specs.Notices.{carried_text}
use Rattle.smpland_state.proofs.notices.write_each_notice.Given as goal

-- the servers so far
abbrev pub invariant-loop-number : goal.invariant-loop-number
invariant-loop-number l =
    l.writer.tokens ≡ l.initial.writer.tokens ++ flat_map (carried_text l.opened.driver) (range_with_len 0 l.number)
