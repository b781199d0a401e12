-- Steps of streams: what the next instruction of a stream does to a state, and what is answered.
use Rattle.std.specs.Prelude.{ℕ, suc, ◌+◌, ◌==◌, Bool, true, false, Option, Some, None, Result, Ok, Err, ◌∷◌}
use Rattle.std.specs.Prelude.{if◌then◌else◌}
pub use Rattle.sm_protocol.specs.Words.{CallEffect, Event, Instr, Passage, Played, Refusal, ServerCall, StreamId, bit}
pub use Rattle.sm_protocol.specs.Words.{call_again, called_numbered, leads_of, next_call, numbers_after, publish, put2}
pub use Rattle.sm_protocol.specs.Words.{shard_of, to_list}
use Rattle.sm_protocol.specs.State.{State, Progress, allowance, is_begun, progress_of, next_instruction, set_progress}
use Rattle.sm_protocol.specs.State.{logged}

-- An event is answered, or a call of it is refused by its server. That a call is refused is in this model alone.
pub data Outcome : Type 0 where
  Refused : Outcome
  Answered : (answer : Played) → Outcome

-- the answer to an event that changes nothing
abbrev pub unchanged : State → Played → Outcome × State
unchanged w answer = (Answered answer, w)

-- the number of a stream's next try: that of the call under way, or a new one
abbrev pub call_number : State → Progress → ℕ
call_number w progress = if progress.pending == 0 then w.next_number else progress.pending

-- the number of the next new call, once the try is made
abbrev pub number_after_try : State → Progress → ℕ
number_after_try w progress = if progress.pending == 0 then w.next_number + 1 else w.next_number

-- The call of a stream's next try. One that has had its effect is made again as it was. One that has not, new or tried
-- before, is that of its instruction at the highest handover numbers.
abbrev pub call_to_make : State → Progress → Instr → Option ServerCall
call_to_make w progress i = if progress.ahead then call_again w.numbers i (shard_of i) else next_call w.numbers i

-- one try more, and one effect more if the call has it now
abbrev pub tried_more : Progress → Bool → Progress
tried_more progress fresh = record progress { tries = progress.tries + 1; effects = progress.effects + bit fresh }

-- the call was answered: the stream stands behind it
abbrev pub behind_call : Progress → Bool → Progress
behind_call progress fresh = record (tried_more progress fresh) { at = progress.at + 1; ahead = false; pending = 0 }

-- the call has had its effect and is not answered: the stream stands before it, and has it under way
abbrev pub ahead_of_call : State → Progress → Bool → Progress
ahead_of_call w progress fresh = record (tried_more progress fresh) { ahead = true; pending = call_number w progress }

-- A try came to its server, which served it: the highest handover numbers rise if the call had its effect just now.
abbrev pub served_try : State → StreamId → Instr → CallEffect → Progress → Event → Played → State
served_try w id i effect progress event answer = record w {
  place = effect.place;
  numbers = if effect.fresh then numbers_after w.numbers i else w.numbers;
  next_number = number_after_try w (progress_of w id);
  progress = set_progress w id progress;
  log = logged w event answer;
}

-- A try was lost before it came to its server: the call is under way.
abbrev pub call_lost : State → StreamId → State
call_lost w id = record w {
  next_number = number_after_try w (progress_of w id);
  progress = set_progress w id (record (tried_more (progress_of w id) false) { pending = call_number w (progress_of w id) });
  log = logged w (Event.Lose id false) Played.Lost;
}

-- a try, by what becomes of it on its way, and by what its server answers: one that is lost before it comes there is
-- answered by none
abbrev pub tried : State → StreamId → Instr → Passage → Result CallEffect Refusal → Outcome × State
tried w id i Passage.LostBefore answer = (Answered Played.Lost, call_lost w id)
tried w id i Passage.Through (Ok effect) =
    (Answered Played.Moved, served_try w id i effect (behind_call (progress_of w id) effect.fresh) (Event.Step id) Played.Moved)
tried w id i Passage.LostAfter (Ok effect) =
    (Answered Played.Lost, served_try w id i effect (ahead_of_call w (progress_of w id) effect.fresh) (Event.Lose id true) Played.Lost)
tried w id i passage (Err why) = (Refused, w)

-- a call is tried under its number, unless the stream has spent its allowance; an instruction that is no call has none
abbrev pub call_tried : State → StreamId → Passage → Instr → Option ServerCall → Outcome × State
call_tried w id passage i None = unchanged w Played.Unknown
call_tried w id passage i (Some x) =
    if (progress_of w id).tries == allowance w id
    then unchanged w Played.Spent
    else tried w id i passage (called_numbered w.sizes w.place x.shard x.server x.call (call_number w (progress_of w id)))

-- the progress of all streams, if this one has made its next instruction, which is no call
abbrev pub behind : State → StreamId → ℕ → ℕ → Progress
behind w id = set_progress w id (record (progress_of w id) { at = (progress_of w id).at + 1 })

-- the state then, if nothing else changes
abbrev pub moved_on : State → StreamId → State
moved_on w id = record w { progress = behind w id; log = logged w (Event.Step id) Played.Moved }

-- the published map has another entry of the shard
abbrev pub entry_added : State → StreamId → ℕ → Option ℕ → Outcome × State
entry_added w id s server = (
  Answered Played.Moved,
  record (moved_on w id) {
    place = publish w.place s server;
    entries = (s, record { server = server; version = suc (w.place.version s) }) ∷ w.entries;
  },
)

-- the signal is posted, and its parcel is under way
abbrev pub posted : State → StreamId → ℕ → Outcome × State
posted w id q =
    (Answered Played.Moved, record (moved_on w id) { marks = put2 w.marks id.plan q (record (w.marks id.plan q) { posted = true }) })

-- the stream takes the parcel of a posted signal, and waits for one that isn't posted
abbrev pub awaited : State → StreamId → ℕ → Outcome × State
awaited w id q =
    if (w.marks id.plan q).posted
    then (Answered Played.Moved, record (moved_on w id) { marks = put2 w.marks id.plan q (record (w.marks id.plan q) { awaited = true }) })
    else unchanged w (Played.Blocked q)

-- the stream finishes: what it holds is free
abbrev pub ended : State → StreamId → Outcome × State
ended w id =
    let progress = set_progress w id (record (progress_of w id) { done = true }) in
    (Answered Played.Done, record w { progress = progress; log = logged w (Event.Step id) Played.Done })

-- the next instruction is made, and behind the last one the stream's end
abbrev pub made : State → StreamId → Passage → Option Instr → Outcome × State
made w id passage None = ended w id
made w id passage (Some (Instr.Publish s)) = entry_added w id s (to_list (leads_of w.sizes w.place s))
made w id passage (Some (Instr.Unlist s)) = entry_added w id s None
made w id passage (Some (Instr.Signal q)) = posted w id q
made w id passage (Some (Instr.Wait q)) = awaited w id q
made w id passage (Some i) = call_tried w id passage i (call_to_make w (progress_of w id) i)

-- a step of a stream: if it is a call, this becomes of it on its way
abbrev pub step : State → StreamId → Passage → Outcome × State
step w id passage =
    if w.halted then unchanged w Played.Halted
    else if is_begun w id then (if (progress_of w id).done then unchanged w Played.Done else made w id passage (next_instruction w id))
    else unchanged w Played.Unknown
