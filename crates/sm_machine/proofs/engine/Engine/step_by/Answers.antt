-- A stream makes its step.
use Rattle.sm_machine.proofs.engine.Engine.step_by.Goals as goal

pub returns-in-None : goal.returns-in-None
returns-in-None c = c.make_end.ensures c.args.passage
