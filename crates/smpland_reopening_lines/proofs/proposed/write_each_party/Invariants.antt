use Rattle.std.proofs.Common.{◌≡◌, ◌++◌, drop}
use Rattle.std.specs.List.{flat_map}
use Rattle.smpland_reopening_lines.specs.Parties.{party_text}
use Rattle.smpland_reopening_lines.proofs.proposed.write_each_party.Given as goal

-- what is written, and what is left
abbrev pub invariant-loop-party : goal.invariant-loop-party
invariant-loop-party l =
    l.writer.tokens ++ flat_map (party_text l.reopening.numbering) (drop l.party-index l.parties)
    ≡ l.fn.writer.tokens ++ flat_map (party_text l.reopening.numbering) l.parties
