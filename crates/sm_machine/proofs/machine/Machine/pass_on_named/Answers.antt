-- A request that was passed on comes to a server.
use Rattle.std.proofs.Common.{sym, ◌∙◌, subst, Some}
use Rattle.sm_protocol.specs.declared.event.Event.TheVariants as event
use Rattle.sm_machine.specs.State.{whole_of}
use Rattle.sm_machine.specs.Requested.{IsRequest}
use Rattle.sm_machine.proofs.Requested.{passes_on}
use Rattle.sm_machine.proofs.Setups.{setup_kept}
use Rattle.sm_machine.proofs.machine.Machine.pass_on_named.Goals as goal

pub ask-requires-clause-request : goal.ask-requires-clause-request
ask-requires-clause-request c =
    subst (λ t. IsRequest (whole_of c.self.inside.engine).state t.shard t.target (Some c.args.pass) (event.PassOn t.place)) (sym c.pass.view_is)
    (passes_on (whole_of c.self.inside.engine) c.self.invariant c.args.pass (sym c.is_open.ensures ∙ c.if-not-is_open.false))

pub returns-clause-setup : goal.returns-clause-setup
returns-clause-setup c = setup_kept c.self.inside.engine c.args.self.now c.ask.new.self c.self.view_is c.ask.ensures.setup
