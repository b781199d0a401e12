use Rattle.std.proofs.Common.{◌≡◌, ◌++◌, drop}
use Rattle.std.specs.List.{flat_map}
use Rattle.smpland_reopening_lines.specs.Settles.{settle_to}
use Rattle.smpland_reopening_lines.proofs.settles.write_each_settle.Given as goal

-- what is written, and what is left
abbrev pub invariant-loop-party : goal.invariant-loop-party
invariant-loop-party l =
    l.writer.tokens ++ flat_map (settle_to l.journal l.reopening) (drop l.party-index l.parties)
    ≡ l.fn.writer.tokens ++ flat_map (settle_to l.journal l.reopening) l.parties
