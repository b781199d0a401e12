use Rattle.std.proofs.Common.{◌≡◌, map}
use Rattle.std.specs.List.{filter, range_with_len}
use Rattle.sm_reopening.specs.declared.party.Party.TheVariants.{Server}
use Rattle.smpland_reopening.specs.Proposal.{has_silent_lead}
use Rattle.smpland_reopening.proofs.reopening.DocumentReopening.silent_leaders.Given as goal

-- the servers so far
abbrev pub invariant-loop-number : goal.invariant-loop-number
invariant-loop-number l = l.parties.items ≡ map Server (filter (has_silent_lead l.self) (range_with_len 0 l.number))
