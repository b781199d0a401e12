-- The state of the protocol: all that calls, starts of plans, requests and restarts have made so far. A part that
-- changes with plans, streams and signals is a function of their numbers, with one value for all that are not begun.
use Rattle.std.specs.Prelude.{ℕ, ◌+◌, Bool, false, not, ◌&&◌, nat_lt, Option, List, [], ◌∷◌, ◌++◌, length, slice_get}
use Rattle.std.specs.Prelude.{slice_index_or, ◌-◌, ◌^◌, true, if◌then◌else◌, count_by, drop}
pub use Rattle.sm_protocol.specs.Words.{Entry, Event, Hold, Instr, Logged, OfRoom, OfSpare, Place, PlanModel, Played}
pub use Rattle.sm_protocol.specs.Words.{Right, Rights, Sizes, StreamId, StreamModel, any_below, count, down_count}
pub use Rattle.sm_protocol.specs.Words.{forget_numbers, free_cell, free_crown, hold_before, hold_of, is_no_call}
pub use Rattle.sm_protocol.specs.Words.{no_stream, parcels_of, places_of, put2, stream_at, sum_below, true_rights}

-- A plan that was begun, and the log's length at its start.
pub record Start : Type 0 where
  pub plan : PlanModel
  pub since : ℕ

-- How far a stream has come.
pub record Progress : Type 0 where
  -- how many of its instructions it has made
  pub at : ℕ
  -- the call at this position has had its effect, and was not answered
  pub ahead : Bool
  -- the number of the call under way, which was tried and not answered; 0 if none is
  pub pending : ℕ
  -- how many tries of calls it has made, and how many of its calls have had their effect
  pub tries : ℕ
  pub effects : ℕ
  -- how many tries were allowed beside those of its plan
  pub refills : ℕ
  -- it has finished
  pub done : Bool

-- a stream that has made nothing
abbrev pub fresh : Progress
fresh = record { at = 0; ahead = false; pending = 0; tries = 0; effects = 0; refills = 0; done = false }

-- The state of a signal: it was posted, and a stream has waited for it.
pub record Mark : Type 0 where
  pub posted : Bool
  pub awaited : Bool

-- a signal of which nothing has become
abbrev pub no_mark : Mark
no_mark = record { posted = false; awaited = false }

-- A state of the protocol: the placement as it stands, the plans that were begun with how far their streams and signals
-- have come, the numbers that calls are made under, the log, and the halt flag.
pub record State : Type 0 where
  -- the numbers of the configuration, and the placement at the opening: neither changes
  pub sizes : Sizes
  pub opening : Place
  pub place : Place
  -- the entries that publications have added to the published map, with their shards: the newest first, as the map's
  -- publisher has what it has stored. Plans and the log, below, have the oldest first.
  pub entries : List (ℕ × Entry)
  -- each shard's highest handover number, and the number of the next call
  pub numbers : ℕ → ℕ
  pub next_number : ℕ
  -- the plans that were begun, by their numbers
  pub plans : List Start
  -- by the plan's number, then by the stream's, or by the signal's
  pub progress : ℕ → ℕ → Progress
  pub marks : ℕ → ℕ → Mark
  -- the recorded events, the oldest first, and how many places the log has
  pub log : List Logged
  pub room : ℕ
  pub halted : Bool

-- above handover numbers, numbers of calls and counts of instructions and effects: nothing comes near it, so that no
-- sum wraps
abbrev pub numbers_end : ℕ
numbers_end = 2 ^ 47

-- before any event: no number has been used, and nothing is begun or recorded
abbrev pub opened : Sizes → Place → ℕ → State
opened c p room = record {
  sizes = c;
  opening = forget_numbers p;
  place = forget_numbers p;
  entries = [];
  numbers = λ s. 0;
  next_number = 1;
  plans = [];
  progress = λ k i. fresh;
  marks = λ k q. no_mark;
  log = [];
  room = room;
  halted = false;
}

-- the default if no plan was begun
abbrev pub no_start : Start
no_start = record { plan = record { budget = 0; streams = []; signals = [] }; since = 0 }

-- the plan at a number
abbrev pub plan_at : State → ℕ → PlanModel
plan_at w k = (slice_index_or w.plans k no_start).plan

-- how many streams the plan at a number has
abbrev pub stream_count : State → ℕ → ℕ
stream_count w k = length (plan_at w k).streams

-- how many signals the plan at a number has
abbrev pub signal_count : State → ℕ → ℕ
signal_count w k = length (plan_at w k).signals

-- a stream's name, by the numbers of its plan and of its place there
abbrev pub stream_id : ℕ → ℕ → StreamId
stream_id k i = record { plan = k; stream = i }

-- a stream as its plan has it
abbrev pub stream_parts : State → StreamId → StreamModel
stream_parts w id = slice_index_or (plan_at w id.plan).streams id.stream no_stream

-- how far a stream has come
abbrev pub progress_of : State → StreamId → Progress
progress_of w id = w.progress id.plan id.stream

-- the stream was begun
abbrev pub is_begun : State → StreamId → Bool
is_begun w id = nat_lt id.plan (length w.plans) && nat_lt id.stream (stream_count w id.plan)

-- the stream was begun and has not finished
abbrev pub is_running : State → StreamId → Bool
is_running w id = is_begun w id && not (progress_of w id).done

-- the instruction that it makes next, none at its end
abbrev pub next_instruction : State → StreamId → Option Instr
next_instruction w id = slice_get (stream_parts w id).code (progress_of w id).at

-- how many tries it may make: its budget, its retries and its refills
abbrev pub allowance : State → StreamId → ℕ
allowance w id = (stream_parts w id).budget + (stream_parts w id).retries + (progress_of w id).refills

-- some stream of the plan has not finished
abbrev pub is_unfinished : State → ℕ → Bool
is_unfinished w k = any_below (stream_count w k) (λ i. not (w.progress k i).done)

-- the progress of all streams, if one stands otherwise
abbrev pub set_progress : State → StreamId → Progress → ℕ → ℕ → Progress
set_progress w id progress = put2 w.progress id.plan id.stream progress

-- the log with one more event and its answer
abbrev pub logged : State → Event → Played → List Logged
logged w event answer = w.log ++ record { event = event; answer = answer } ∷ []

-- the state with one more event and its answer in the log, if nothing else changes
abbrev pub recorded : State → Event → Played → State
recorded w event answer = record w { log = logged w event answer }

-- the position to which the effects of a stream have come: a call that had its effect counts as made
abbrev pub reach : ℕ → Bool → ℕ
reach at true = at + 1
reach at false = at

-- what a stream that stands so holds
abbrev pub hold_at_progress : State → ℕ → ℕ → Progress → Hold
hold_at_progress w k i progress = hold_before (stream_at w.sizes (plan_at w k) i) (reach progress.at progress.ahead)

-- what a stream holds
abbrev pub hold_of_stream : State → ℕ → ℕ → Hold
hold_of_stream w k i = hold_at_progress w k i (w.progress k i)

-- what a signal of a plan carries
abbrev pub parcel_at : State → ℕ → ℕ → Rights
parcel_at w k q = parcels_of (plan_at w k).signals q

-- the signal's parcel is under way: posted, and not awaited yet
abbrev pub is_under_way : Mark → Bool
is_under_way mark = mark.posted && not mark.awaited

-- how much of a right the streams of a plan hold, each nothing once it has ended, and its parcels under way carry
abbrev pub held_by : State → Right → ℕ → ℕ
held_by w r k =
    sum_below (stream_count w k) (λ i. if (w.progress k i).done then 0 else count (hold_of_stream w k i) r)
    + sum_below (signal_count w k) (λ q. if is_under_way (w.marks k q) then count (hold_of (parcel_at w k q)) r else 0)

-- how much of a right is held or under way
abbrev pub held : State → Right → ℕ
held w r = sum_below (length w.plans) (held_by w r)

-- The pool: what is true of the placement and neither held nor under way, and the room and spare replicas that are
-- left.
abbrev pub pool : State → Hold
pool w = record {
  cells = λ s v. free_cell (held w) s v ((true_rights w.sizes w.place).cells s v);
  crowns = λ s. free_crown (held w) s ((true_rights w.sizes w.place).crowns s);
  room = λ v. (true_rights w.sizes w.place).room v - held w (OfRoom v);
  spare = λ s. (true_rights w.sizes w.place).spare s - held w (OfSpare s);
}

-- what a stream that stands so may take yet: a place for each try left, for each instruction left that is no call, and
-- for its end
abbrev pub places_left : StreamModel → Progress → ℕ
places_left stream progress =
    if progress.done then 0
    else stream.budget + stream.retries + progress.refills - progress.tries + count_by is_no_call (drop progress.at stream.code) + 1

-- the places that are set aside: what the streams begun may take yet, and one for the end of each restart
abbrev pub set_aside : State → ℕ
set_aside w =
    sum_below (length w.plans) (λ k. sum_below (stream_count w k) (λ i. places_left (stream_parts w (stream_id k i)) (w.progress k i)))
    + down_count w.sizes w.place

-- the places that are neither used nor set aside
abbrev pub free_places : State → ℕ
free_places w = w.room - (length w.log + set_aside w)
