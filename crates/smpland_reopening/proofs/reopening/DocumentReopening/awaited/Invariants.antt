use Rattle.std.proofs.Common.{◌≡◌}
use Rattle.std.specs.List.{filter}
use Rattle.sm_reopening.specs.Ongoing.{is_missing}
use Rattle.sm_reopening.specs.Settles.{net_party}
use Rattle.smpland_reopening.specs.Waiting.{parties_in_order}
use Rattle.smpland_reopening.proofs.reopening.DocumentReopening.awaited.Given as goal

-- the map's owner, and the servers so far
abbrev pub invariant-loop-number : goal.invariant-loop-number
invariant-loop-number l = l.parties.items ≡ filter (λ p. is_missing l.self.ongoing (net_party p)) (parties_in_order l.number)
