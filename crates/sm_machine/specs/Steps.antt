-- The states that steps leave.
-- Internal definitions: you need not read them for the public contracts.
use Rattle.std.specs.Prelude.{ℕ, ◌-◌, ◌==◌, true, None, if◌then◌else◌}
use Rattle.sm_placement.specs.Sums.{put, put2}
use Rattle.sm_reservation.specs.Hold.{plus}
use Rattle.sm_reservation.specs.declared.stream_id.StreamId.{StreamId}
use Rattle.sm_protocol.specs.declared.event.Event.TheVariants.{Step}
use Rattle.sm_protocol.specs.declared.event.Played.TheVariants.{Moved}
use Rattle.sm_protocol.specs.State.{State, logged}
use Rattle.sm_protocol.specs.Steps.{behind, ended}
use Rattle.sm_machine.specs.Course.{rights_in}
use Rattle.sm_machine.specs.State.{Whole}

-- the stream stands behind an instruction that is no call
abbrev pub went_on : State → StreamId → State
went_on w id = record w { progress = behind w id; log = logged w (Step id) Moved }

-- the stream has taken the parcel of a signal
abbrev pub taken : State → StreamId → ℕ → State
taken w id q = record w {
  marks = put2 w.marks id.plan q (record (w.marks id.plan q) { awaited = true });
  progress = behind w id;
  log = logged w (Step id) Moved;
}

-- the stream has finished, what it held is in the pool, and this many places of the log are free
abbrev pub ended_whole : Whole → StreamId → ℕ → Whole
ended_whole x id free = record x {
  state = (ended x.state id).1;
  pool = plus x.pool (rights_in (x.grants id.plan id.stream));
  grants = put2 x.grants id.plan id.stream None;
  unfinished = put x.unfinished id.plan (x.unfinished id.plan - 1);
  running = if x.unfinished id.plan == 1 then x.running - 1 else x.running;
  free = free;
}
