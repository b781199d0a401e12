-- The number of calls of a stream that have had their effect.
use Rattle.sm_protocol.proofs.Words.{EachReached, CountsEffects}
use Rattle.sm_protocol.proofs.Trials.{running}
use Rattle.sm_protocol.proofs.Keeping.{begun}
use Rattle.sm_protocol.proofs.Whole.{reached_keeps}

-- in each state that events lead to, these are the calls before the reach of the stream
pub effects_are_counted : EachReached CountsEffects
effects_are_counted setup w reached id e =
    let v = (reached_keeps setup w reached).0 in
    let b = begun w id e in
    ((running w v id b).streams id.stream b.stream).effects
