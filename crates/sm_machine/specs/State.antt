-- The state of the protocol that a machine is in, with the rights that it keeps.
-- Public functions' contracts come to `state_of` alone, by way of `Whole`, `state_parts` and `whole_of`. The others are
-- internal: you need not read them for the public contracts.
use Rattle.std.specs.Prelude.{ℕ, Option, map, reverse, slice_index_or, None, ◌-◌}
use Rattle.sm_placement.specs.Sums.{put2}
use Rattle.sm_placement.specs.Setup.{Setup, sizes_of}
use Rattle.sm_placement.specs.Place.{Place, down_count}
use Rattle.sm_placement.specs.Layout.{place_of}
use Rattle.sm_reservation.specs.Hold.{Hold}
use Rattle.sm_reservation.specs.Capacity.{HoldModel}
use Rattle.sm_reservation.specs.Pool.{pool_hold, true_rights}
use Rattle.sm_reservation.specs.declared.stream_id.StreamId.{StreamId}
use Rattle.sm_protocol.specs.State.{State, Progress, Mark, set_progress, opened}
use Rattle.sm_machine.specs.Begun.{start_of, course_at, carried_at}
use Rattle.sm_machine.specs.Opening.{place_of_rows}
use Rattle.sm_machine.specs.Machine.{MachineModel, begun_at}

-- All of a machine: the state of the protocol, and the rights by who has them.
pub record Whole : Type 0 where
  pub state : State
  -- the configuration, with its names
  pub setup : Setup
  -- the rights that nobody has
  pub pool : Hold
  -- what each stream holds, by the plan's number and its own; none once it has finished
  pub grants : ℕ → ℕ → Option HoldModel
  -- what each signal carries; none once it was awaited
  pub parcels : ℕ → ℕ → Option HoldModel
  -- how many streams of each plan have not finished, and how many plans are unfinished
  pub unfinished : ℕ → ℕ
  pub running : ℕ
  -- how many places of the log are neither used nor set aside
  pub free : ℕ

-- the state of the protocol, from the machine's parts
abbrev pub state_parts : MachineModel → State
state_parts m = record {
  sizes = sizes_of m.placement.setup;
  opening = place_of_rows m.opening;
  place = place_of m.placement;
  entries = reverse m.entries;
  numbers = λ s. slice_index_or m.numbers s 0;
  next_number = m.next_number;
  plans = map start_of m.plans;
  progress = λ k i. (course_at (begun_at m.plans k) i).progress;
  marks = λ k q. (carried_at (begun_at m.plans k) q).mark;
  log = m.journal.log;
  room = m.journal.room;
  halted = m.halted;
}

-- the machine's state with its configuration, its counts, and its rights by who has them
unfoldable pub whole_of : MachineModel → Whole
whole_of m = record {
  state = state_parts m;
  setup = m.placement.setup;
  pool = pool_hold m.pool;
  grants = λ k i. (course_at (begun_at m.plans k) i).grant;
  parcels = λ k q. (carried_at (begun_at m.plans k) q).grant;
  unfinished = λ k. (begun_at m.plans k).unfinished;
  running = m.running;
  free = m.free;
}

-- the state of the protocol
abbrev pub state_of : MachineModel → State
state_of m = (whole_of m).state

-- what a stream holds
abbrev pub grant_of : MachineModel → StreamId → Option HoldModel
grant_of m id = (whole_of m).grants id.plan id.stream

-- ---- changes of parts

-- with another state of the protocol
abbrev pub with_state : Whole → State → Whole
with_state x w = record x { state = w }

-- a stream stands otherwise, and holds otherwise
abbrev pub with_stream : Whole → StreamId → Progress → Option HoldModel → Whole
with_stream x id progress grant = record x {
  state = record x.state { progress = set_progress x.state id progress };
  grants = put2 x.grants id.plan id.stream grant;
}

-- a signal stands otherwise, and carries otherwise
abbrev pub with_signal : Whole → ℕ → ℕ → Mark → Option HoldModel → Whole
with_signal x k q mark grant = record x {
  state = record x.state { marks = put2 x.state.marks k q mark };
  parcels = put2 x.parcels k q grant;
}

-- before any event: nobody has a right but the pool, and nothing is begun
abbrev pub opened_whole : Setup → Place → ℕ → Whole
opened_whole setup p room = record {
  state = opened (sizes_of setup) p room;
  setup = setup;
  pool = true_rights (sizes_of setup) p;
  grants = λ k i. None;
  parcels = λ k q. None;
  unfinished = λ k. 0;
  running = 0;
  free = room - down_count (sizes_of setup) p;
}
