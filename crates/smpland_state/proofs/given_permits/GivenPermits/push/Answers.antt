use Rattle.std.proofs.Common.{rules}
use Rattle.smpland_state.proofs.given_permits.GivenPermits.push.Goals as goal

-- The permit that is given stands behind the others.
pub returns : goal.returns
returns c = record { last = c.in_ok-given.given; given = c.in_ok-given.ensures; others = search rules; place = search rules }
