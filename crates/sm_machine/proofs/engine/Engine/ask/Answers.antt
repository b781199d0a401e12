-- A request is answered, and recorded.
use Rattle.std.proofs.Common.{sym, ◌∙◌}
use Rattle.sm_machine.specs.State.{whole_of}
use Rattle.sm_machine.proofs.Requested.{asked_full, asked_by, log_has_place}
use Rattle.sm_machine.proofs.engine.Engine.ask.Goals as goal

pub record-requires-clause-room : goal.record-requires-clause-room
record-requires-clause-room c =
    log_has_place (whole_of c.args.self.now) c.requires.working c.args.shard c.args.server c.args.sent c.args.event
    (λ e. c.if-free-eq0.false (c.free-free.ensures ∙ e)) _ (whole_of c.set_free.new.self) c.set_free.ensures

pub returns-then-free-eq0 : goal.returns-then-free-eq0
returns-then-free-eq0 c = asked_full (whole_of c.args.self.now) c.requires.working c.args.shard c.args.server c.args.sent c.args.event (sym c.free-free.ensures ∙ c.if-free-eq0.true)

pub returns : goal.returns
returns c =
    asked_by (whole_of c.args.self.now) c.requires.working c.args.shard c.args.server c.args.sent c.args.event c.requires.request (λ e. c.if-free-eq0.false (c.free-free.ensures ∙ e))
    c.free-free.result c.free-free.ensures c.reply-answer.result c.reply-answer.ensures (whole_of c.set_free.new.self) (whole_of c.record.new.self) c.set_free.ensures c.record.ensures

pub record-requires-clause-other : goal.record-requires-clause-other
record-requires-clause-other c = c.requires.request.no_step
