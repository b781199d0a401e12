use Rattle.std.proofs.Common.{◌≡◌, ◌++◌}
use Rattle.std.specs.List.{flat_map, range_with_len}
use Rattle.smpland_state.specs.Known.{unknown_text}
use Rattle.smpland_state.proofs.journal_state.JournalState.write_each_unknown.Given as goal

-- the servers so far
abbrev pub invariant-loop-number : goal.invariant-loop-number
invariant-loop-number l = l.writer.tokens ≡ l.initial.writer.tokens ++ flat_map (unknown_text l.self.driver) (range_with_len 0 l.number)
