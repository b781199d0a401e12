use Rattle.std.proofs.Common.{◌≡◌, ◌++◌}
use Rattle.std.specs.List.{flat_map, range_with_len}
use Rattle.smpland_state.specs.History.{ended_at}
use Rattle.smpland_state.specs.Since.{number_if_later}
use Rattle.smpland_state.proofs.since.write_each_ended.Given as goal

-- the plans so far
abbrev pub invariant-loop-number : goal.invariant-loop-number
invariant-loop-number l = l.writer.tokens ≡ l.initial.writer.tokens ++ flat_map (λ k. number_if_later l.place k (ended_at l.history k)) (range_with_len 0 l.number)
