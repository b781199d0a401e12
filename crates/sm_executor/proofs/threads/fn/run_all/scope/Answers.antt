-- The names of a run's types may go to other threads, as its bounds say.
use denote.Param.Send.{sendable}
use Rattle.sm_executor.proofs.threads.fn.run_all.scope.Goals as goal

pub start_all-requires-send-A : goal.start_all-requires-send-A
start_all-requires-send-A g c = search sendable depth 20

pub start_all-requires-send-B : goal.start_all-requires-send-B
start_all-requires-send-B g c = search sendable depth 20

pub start_all-requires-send-C : goal.start_all-requires-send-C
start_all-requires-send-C g c = search sendable depth 20

pub start_all-requires-send-N : goal.start_all-requires-send-N
start_all-requires-send-N g c = search sendable depth 20

pub start_all-requires-send-L : goal.start_all-requires-send-L
start_all-requires-send-L g c = search sendable depth 20
