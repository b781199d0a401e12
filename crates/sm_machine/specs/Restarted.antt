-- Restarts as a machine answers them.
-- Public functions' contracts cite `approval_of` and `restart_of` alone. The others are internal: you need not read
-- them for the public contracts.
use Rattle.std.specs.Prelude.{◌-◌, ℕ, None, true, false, Result, Ok, Err}
use Rattle.sm_placement.specs.Place.{set_down}
use Rattle.sm_task_controller.specs.declared.decision.Denied.{Denied}
use Rattle.sm_protocol.specs.declared.event.Event.TheVariants as event
use Rattle.sm_protocol.specs.declared.event.Played.{Played}
use Rattle.sm_protocol.specs.declared.event.Played.TheVariants as played
use Rattle.sm_protocol.specs.State.{logged}
use Rattle.sm_protocol.specs.Happens.{approved}
use Rattle.sm_machine.specs.State.{Whole}
use Rattle.sm_machine.specs.Tied.{pay_live, get_live}
use Rattle.sm_machine.specs.SpareReplicas.{live_there}

-- a server is down, and the spare replicas that were live at it are out of the pool
abbrev pub down_whole : Whole → ℕ → Whole
down_whole x u = record x {
  state = record x.state { place = set_down x.state.place u true };
  pool = pay_live x.pool (live_there x.state.place u) x.state.sizes.shards;
}

-- a server is up, and the spare replicas that are live at it are in the pool
abbrev pub up_whole : Whole → ℕ → Whole
up_whole x u = record x {
  state = record x.state { place = set_down x.state.place u false };
  pool = get_live x.pool (live_there (set_down x.state.place u false) u) x.state.sizes.shards;
}

-- the restart of a server was approved
abbrev pub approved_whole : Whole → ℕ → Whole
approved_whole x u = record x {
  state = (approved x.state u None).1;
  pool = pay_live x.pool (live_there x.state.place u) x.state.sizes.shards;
  free = x.free - 2;
}

-- the restart of a server has ended
abbrev pub restarted_whole : Whole → ℕ → Whole
restarted_whole x u = record x {
  state = record x.state { place = set_down x.state.place u false; log = logged x.state (event.Done u) played.Up };
  pool = get_live x.pool (live_there (set_down x.state.place u false) u) x.state.sizes.shards;
}

-- ---- answers, as the log and lists of events have them

-- of a restart that is asked for (SM 2021, the TaskController): it is approved, or why it is denied
abbrev pub approval_of : Result ℕ Denied → Played
approval_of (Ok permit) = played.Approved
approval_of (Err why) = played.Denied why

-- of a restart that is to end: the server is up, or its permit ends nothing, since the server was not down
abbrev pub restart_of : Result (Unit {0}) ℕ → Played
restart_of (Ok done) = played.Up
restart_of (Err permit) = played.Unknown
