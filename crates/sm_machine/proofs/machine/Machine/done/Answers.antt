-- A restart ends.
use Rattle.std.proofs.Common.{◌≡◌, ◌<◌, sym, ◌∙◌, subst, true, ap}
use Rattle.sm_machine.specs.State.{whole_of, Whole}
use Rattle.sm_machine.specs.Working.{IsWorking}
use Rattle.sm_machine.proofs.Restarted.{restarted_working}
use Rattle.sm_machine.proofs.Setups.{setup_kept}
use Rattle.sm_machine.proofs.machine.Machine.done.Goals as goal

pub invariant_of-self : goal.invariant_of-self
invariant_of-self c =
    let x = whole_of c.self.inside.engine in
    let same : c.server.result ≡ c.into_server-server.result = c.server.ensures ∙ sym c.into_server-server.ensures in
    let down : x.state.place.down c.server.result ≡ true = sym c.is_down.ensures.down ∙ c.if-not-is_down.false in
    subst IsWorking (sym c.end_restart.ensures)
    (restarted_working x c.self.invariant c.into_server-server.result
    (subst (λ v. v < x.state.sizes.servers) same (c.is_down.ensures.known c.if-not-is_down.false))
    (subst (λ v. x.state.place.down v ≡ true) same down))

pub returns-clause-setup : goal.returns-clause-setup
returns-clause-setup c = setup_kept c.self.inside.engine c.args.self.now c.end_restart.new.self c.self.view_is (ap (λ (x : Whole). x.setup) c.end_restart.ensures)
