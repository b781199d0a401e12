-- A restart begins.
use Rattle.std.proofs.Common.{sym, subst}
use Rattle.sm_machine.specs.State.{whole_of}
use Rattle.sm_machine.specs.SpareReplicas.{live_there, CanPayLive}
use Rattle.sm_machine.proofs.Restarted.{can_pay_live, room_to_approve}
use Rattle.sm_machine.proofs.engine.Engine.start_restart.Goals as goal

pub record-requires-clause-room : goal.record-requires-clause-room
record-requires-clause-room c = room_to_approve (whole_of c.args.self.now) c.requires.working c.args.server c.requires.server c.requires.granted

pub take_down-requires-clause-spare : goal.take_down-requires-clause-spare
take_down-requires-clause-spare c =
    subst (λ z. CanPayLive z.pool (live_there z.state.place c.args.server) z.state.sizes.shards) (sym c.record.ensures)
    (can_pay_live (whole_of c.args.self.now) c.requires.working c.args.server c.requires.server c.requires.granted)
