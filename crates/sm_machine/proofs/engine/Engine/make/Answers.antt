-- The next instruction is made.
use Rattle.sm_machine.proofs.engine.Engine.make.Goals as goal

pub returns-in-Publish : goal.returns-in-Publish
returns-in-Publish c = c.make_publish.ensures c.args.passage

pub returns-in-Unlist : goal.returns-in-Unlist
returns-in-Unlist c = c.make_unlist.ensures c.args.passage

pub returns-in-Signal : goal.returns-in-Signal
returns-in-Signal c = c.make_signal.ensures c.args.passage

pub returns-in-Wait : goal.returns-in-Wait
returns-in-Wait c = c.make_wait.ensures c.args.passage
