-- The restart of a server is approved, or denied.
use Rattle.std.proofs.Common.{◌≡◌, ◌<◌, sym, ap, ◌∙◌, subst, None}
use Rattle.sm_task_controller.specs.Decision.{denial}
use Rattle.sm_protocol.specs.Happens.{engaged}
use Rattle.sm_machine.specs.State.{whole_of, state_of, Whole}
use Rattle.sm_machine.proofs.Restarted.{few_free, approved_so}
use Rattle.sm_machine.proofs.Setups.{setup_kept}
use Rattle.sm_machine.proofs.machine.Machine.approve.Goals as goal

pub engaged-engaged-requires : goal.engaged-engaged-requires
engaged-engaged-requires c = c.self.invariant

pub decide-requires-clause-free : goal.decide-requires-clause-free
decide-requires-clause-free c = few_free (whole_of c.self.inside.engine) c.self.invariant c.args.server

pub invariant_of-self : goal.invariant_of-self
invariant_of-self c =
    let x = whole_of c.self.inside.engine in
    let known : c.args.server < x.state.sizes.servers = subst (λ m. c.args.server < (state_of m).sizes.servers) (sym c.self.view_is) c.requires in
    let none : denial x.state.sizes x.state.place x.pool (engaged x.state c.args.server) x.free c.args.server ≡ None =
    ap (λ o. denial x.state.sizes x.state.place x.pool o x.free c.args.server) (sym c.engaged-engaged.ensures) ∙ c.in-Ok.ensures.approved in
    (approved_so x c.self.invariant c.args.server known none (whole_of c.start_restart.new.self) c.start_restart.ensures).1

pub returns-in-Ok-clause-setup : goal.returns-in-Ok-clause-setup
returns-in-Ok-clause-setup c = setup_kept c.self.inside.engine c.args.self.now c.start_restart.new.self c.self.view_is (ap (λ (x : Whole). x.setup) c.start_restart.ensures)
