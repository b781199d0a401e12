use Rattle.std.proofs.Common.{◌≡◌, ◌-◌, length, map}
use Rattle.std.specs.List.{find, range_with_len}
use Rattle.smpland_reopening.specs.Members.{first_lost, is_said_lost}
use Rattle.smpland_reopening.proofs.members.first_lost.Given as goal

-- the first one is among those that are left
abbrev pub invariant-loop-number : goal.invariant-loop-number
invariant-loop-number l =
    find (is_said_lost l.document (map (λ n. n.now) l.lost)) (range_with_len l.number (length l.document.servers - l.number))
    ≡ first_lost l.document (map (λ n. n.now) l.lost)
