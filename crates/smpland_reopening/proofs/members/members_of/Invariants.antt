use Rattle.std.proofs.Common.{◌≡◌, map}
use Rattle.std.specs.List.{range_with_len}
use Rattle.smpland_reopening.specs.Members.{membership_at}
use Rattle.smpland_reopening.proofs.members.members_of.Given as goal

-- the servers so far
abbrev pub invariant-loop-number : goal.invariant-loop-number
invariant-loop-number l = l.members.items ≡ map (membership_at l.numbering l.document (map (λ n. n.now) l.lost)) (range_with_len 0 l.number)
