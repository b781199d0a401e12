-- The runners are of the streams whose tokens they were given for.
use Rattle.std.proofs.Common.{subst, sym}
use Rattle.sm_machine.specs.Starts.{AreTokens}
use Rattle.sm_protocol.specs.State.{State, stream_count}
use Rattle.sm_executor.proofs.Starting.{runners_are}
use Rattle.sm_report.specs.declared.begun.Begun.{Begun}
use Rattle.sm_report.proofs.boards.report_on_ground.Goals as goal

pub report_given-requires-clause-runners : goal.report_given-requires-clause-runners
report_given-requires-clause-runners g c κs within =
    let opened = g.N.Naming.opened in
    let begun = c.in_ok-begun.begun in
    let tokens : AreTokens 0 (stream_count opened 0) c.args.begun.tokens.items =
    subst (λ (w : State). AreTokens 0 (stream_count w 0) c.args.begun.tokens.items) c.requires.names.2 c.requires.tokens in
    runners_are 0 (stream_count opened 0) begun.tokens.items c.in-Ok.runners.items
    (subst (λ (b : Begun). AreTokens 0 (stream_count opened 0) b.tokens.items) (sym c.in_ok-begun.ensures.begun) tokens) c.in-Ok.ensures.runners
