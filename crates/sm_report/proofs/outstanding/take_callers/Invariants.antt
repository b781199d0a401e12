use Rattle.std.proofs.Common.{◌≡◌, ◌≤◌, ◌+◌, ◌++◌, map, reverse}
use Rattle.std.specs.Prelude.{vec_len, vec_capacity}
use Rattle.sm_report.proofs.outstanding.take_callers.Given as goal

-- the callers so far, and those of the clients left, are those of all
abbrev pub invariant-loop-client : goal.invariant-loop-client
invariant-loop-client g l =
    (l.callers.items ++ map (λ client. client.caller) (reverse l.clients.items) ≡ map (λ client. client.caller) l.fn.clients.items)
    × (vec_len l.callers + vec_len l.clients ≤ vec_capacity l.callers)

abbrev pub decreases-loop-client : goal.decreases-loop-client
decreases-loop-client g l = vec_len l.clients
