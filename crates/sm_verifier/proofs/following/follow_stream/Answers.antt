use Rattle.sm_verifier.proofs.Growth.{small_amounts}
use Rattle.sm_verifier.proofs.following.follow_stream.Goals as goal

pub follow_code-requires-clause-amounts : goal.follow_code-requires-clause-amounts
follow_code-requires-clause-amounts c = let short = rw (← c.stream.view_is) at c.requires.short in rw c.in_ok-hold.ensures.rights (small_amounts _ short.holds)
