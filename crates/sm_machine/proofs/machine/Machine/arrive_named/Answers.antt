-- A request comes to a server.
use Rattle.std.proofs.Common.{sym, subst, None}
use Rattle.sm_protocol.specs.declared.event.Event.TheVariants as event
use Rattle.sm_machine.specs.State.{state_of}
use Rattle.sm_machine.specs.Requested.{IsRequest}
use Rattle.sm_machine.proofs.Requested.{arrives}
use Rattle.sm_machine.proofs.Setups.{setup_kept}
use Rattle.sm_machine.proofs.machine.Machine.arrive_named.Goals as goal

pub ask-requires-clause-request : goal.ask-requires-clause-request
ask-requires-clause-request c =
    subst (λ m. IsRequest (state_of m) c.args.shard c.args.server None (event.Arrive c.args.shard c.args.server)) (sym c.self.view_is)
    (arrives (state_of c.args.self.now) c.args.shard c.args.server c.requires.shard c.requires.server)

pub returns-clause-setup : goal.returns-clause-setup
returns-clause-setup c = setup_kept c.self.inside.engine c.args.self.now c.ask.new.self c.self.view_is c.ask.ensures.setup
