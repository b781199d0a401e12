-- Which streams of a plan engage a server.
-- Internal definitions: you need not read them for the public contracts.
use Rattle.std.specs.Prelude.{◌&&◌, ℕ, Bool, not, Option, Some, None, length, slice_index_or, if◌then◌else◌}
use Rattle.std.specs.List.{list_any}
use Rattle.sm_placement.specs.Sums.{first_from}
use Rattle.sm_reservation.specs.declared.stream_id.StreamId.{StreamId}
use Rattle.sm_verifier.specs.Stream.{no_stream}
use Rattle.sm_protocol.specs.State.{State, stream_count, stream_id}
use Rattle.sm_protocol.specs.Happens.{is_mentioned, engages}
use Rattle.sm_machine.specs.Begun.{BegunModel, course_at}

-- the stream is unfinished, and its code mentions the server
abbrev pub engages_in : BegunModel → ℕ → ℕ → Bool
engages_in n v i = not (course_at n i).progress.done && list_any (is_mentioned v) (slice_index_or n.plan.streams i no_stream).code

-- the stream, if it engages the server
abbrev pub engaging : BegunModel → ℕ → ℕ → ℕ → Option StreamId
engaging n k v i = if engages_in n v i then Some (stream_id k i) else None

-- the lowest stream of the plan that engages the server
abbrev pub engaged_in : BegunModel → ℕ → ℕ → Option StreamId
engaged_in n k v = first_from 0 (length n.plan.streams) (engaging n k v)

-- the lowest stream of the plan of this number that engages the server, in a state of the protocol
abbrev pub engaged_by : State → ℕ → ℕ → Option StreamId
engaged_by w v k = first_from 0 (stream_count w k) (λ i. if engages w v (stream_id k i) then Some (stream_id k i) else None)
