use Rattle.sm_machine.specs.State.{whole_of}
use Rattle.sm_machine.proofs.TruePool.{pool_true}
use Rattle.sm_machine.proofs.engine.Engine.start_fault.Goals as goal

pub holding-requires-clause-true_pool : goal.holding-requires-clause-true_pool
holding-requires-clause-true_pool c = pool_true (whole_of c.args.self.now) c.requires.working
