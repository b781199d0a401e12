-- A restart ends.
use Rattle.std.proofs.Common.{sym, subst, false}
use Rattle.sm_placement.specs.Place.{set_down}
use Rattle.sm_machine.specs.State.{whole_of}
use Rattle.sm_machine.specs.SpareReplicas.{live_there, CanGetLive}
use Rattle.sm_machine.proofs.Restarted.{can_get_live, room_to_restart}
use Rattle.sm_machine.proofs.engine.Engine.end_restart.Goals as goal

pub record-requires-clause-room : goal.record-requires-clause-room
record-requires-clause-room c = room_to_restart (whole_of c.args.self.now) c.requires.working c.args.server c.requires.server c.requires.down

pub bring_up-requires-clause-fits : goal.bring_up-requires-clause-fits
bring_up-requires-clause-fits c =
    subst (λ z. CanGetLive z.pool (live_there (set_down z.state.place c.args.server false) c.args.server) z.state.sizes.shards) (sym c.record.ensures)
    (can_get_live (whole_of c.args.self.now) c.requires.working c.args.server c.requires.server c.requires.down)
