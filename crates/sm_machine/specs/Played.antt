-- The answer to a step, as the log and lists of events have it.
use Rattle.sm_protocol.specs.declared.event.Played.{Played}
use Rattle.sm_protocol.specs.declared.event.Played.TheVariants as played
use Rattle.sm_machine.specs.declared.step.Step.{Step}
use Rattle.sm_machine.specs.declared.step.Step.TheVariants.{Moved, Blocked, Done, Halted, Unknown, Lost, Spent}

-- the answer of a stream's step, as the log and lists of events have it
abbrev pub played_of : Step → Played
played_of Moved = played.Moved
played_of (Blocked signal) = played.Blocked signal
played_of Done = played.Done
played_of Halted = played.Halted
played_of Unknown = played.Unknown
played_of Lost = played.Lost
played_of Spent = played.Spent
