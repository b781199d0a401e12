use Rattle.std.proofs.Common.{◌≢◌, None}
use Rattle.std.specs.List.{AllWithin}
use Rattle.sm_executor.specs.Clients.{ClientModel}
use Rattle.sm_executor.proofs.clients.ask_all.Given as goal

abbrev pub invariant-loop-client : goal.invariant-loop-client
invariant-loop-client g l = AllWithin (λ (client : ClientModel). client.asked ≢ None) l.clients 0 l.client-index
