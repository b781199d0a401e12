-- Streams that have finished, and how many steps they made.
use Rattle.std.specs.Prelude.{ℕ, ◌+◌, Bool, ◌&&◌, false, List, count_by}
use Rattle.sm_reservation.specs.declared.stream_id.StreamId.{StreamId}
use Rattle.sm_protocol.specs.declared.event.Event.{Event}
use Rattle.sm_protocol.specs.declared.event.Event.TheVariants as event
use Rattle.sm_protocol.specs.declared.event.Logged.{Logged}
use Rattle.sm_protocol.specs.Hand.{is_token}
use Rattle.sm_protocol.specs.State.{State, stream_parts, progress_of, is_begun, is_no_call}

-- the stream was begun and has finished
abbrev pub has_ended : State → StreamId → Bool
has_ended w id = is_begun w id && (progress_of w id).done

-- how many recorded steps a stream has made that has finished: the tries of its calls, each instruction of its code
-- that is no call, and its end
abbrev pub steps_at_end : State → StreamId → ℕ
steps_at_end w id = (progress_of w id).tries + count_by is_no_call (stream_parts w id).code + 1

-- a recorded event is a step of the stream, or a lost try of it
abbrev pub is_made_by : StreamId → Event → Bool
is_made_by id (event.Step token) = is_token id token
is_made_by id (event.Lose token after) = is_token id token
is_made_by id _ = false

-- how many steps and lost tries of the stream a log has
abbrev pub made_in : StreamId → List Logged → ℕ
made_in id log = count_by (λ x. is_made_by id x.event) log
