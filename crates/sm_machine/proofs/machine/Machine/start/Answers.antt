-- A plan starts, or it does not.
use Rattle.sm_machine.proofs.SeenStart.{kept_by}
use Rattle.sm_machine.proofs.Setups.{setup_kept, setup_by}
use Rattle.sm_machine.proofs.machine.Machine.start.Goals as goal

pub invariant_of-self : goal.invariant_of-self
invariant_of-self c = kept_by c.self.inside.engine c.start_by.new.self c.args.ready (λ r. r.0) c.start_by.result c.self.invariant c.start_by.ensures.started c.start_by.ensures.unchanged

pub returns-clause-setup : goal.returns-clause-setup
returns-clause-setup c =
    setup_kept c.self.inside.engine c.args.self.now c.start_by.new.self c.self.view_is (setup_by c.self.inside.engine c.start_by.new.self c.args.ready (λ r. r.0) c.start_by.result c.start_by.ensures.started c.start_by.ensures.unchanged)
