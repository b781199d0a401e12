-- The plan begins where none had.
use Rattle.std.proofs.Common.{◌≡◌, ◌≢◌, ◌∙◌, ap, subst, sym}
use Rattle.sm_protocol.specs.declared.event.BeginFault.TheVariants.{NoMemory}
use Rattle.sm_machine.specs.State.{state_of}
use Rattle.sm_report_text.specs.Checking.{accepted_line}
use Rattle.sm_report_text.specs.EventLines.{not_begun_line}
use Rattle.sm_report.specs.Report.{refused}
use Rattle.sm_executor.proofs.Starting.{begun_is}
use Rattle.sm_report.proofs.RunStages.{one_begun, first_begun, first_tokens, start_refused}
use Rattle.sm_report.proofs.boards.report_started.Goals as goal

pub report_on_board-requires-clause-one : goal.report_on_board-requires-clause-one
report_on_board-requires-clause-one g c κs within =
    let w = state_of c.args.machine in
    let e = c.in-Ok.ensures in
    one_begun w (state_of c.begin.new.self) c.args.checked.plan (e.state ∙ begun_is w c.args.checked.plan _ e.answer) c.requires.none

pub report_on_board-requires-clause-tokens : goal.report_on_board-requires-clause-tokens
report_on_board-requires-clause-tokens g c κs within =
    let w = state_of c.args.machine in
    let e = c.in-Ok.ensures in
    first_tokens w (state_of c.begin.new.self) c.args.checked.plan c.in-Ok.tokens.items (e.state ∙ begun_is w c.args.checked.plan _ e.answer) c.requires.none e.tokens

pub report_on_board-requires-clause-accepted : goal.report_on_board-requires-clause-accepted
report_on_board-requires-clause-accepted g c κs within =
    let w = state_of c.args.machine in
    let e = c.in-Ok.ensures in
    c.requires.accepted ∙ ap accepted_line (sym (first_begun w (state_of c.begin.new.self) c.args.checked.plan (e.state ∙ begun_is w c.args.checked.plan _ e.answer) c.requires.none))

pub returns-in_ok-made-in-Err : goal.returns-in_ok-made-in-Err
returns-in_ok-made-in-Err g c =
    let made = c.in_ok-made-in-Err.field-0 in
    start_refused c.args.machine.placement.setup (state_of c.args.machine) c.args.checked.plan c.in-Err.fault c.args.asks.now made c.in-Err.ensures.fault
    (subst (λ s. (c.in-Err.fault ≢ NoMemory) × (made ≡ refused (not_begun_line s c.in-Err.fault))) (c.config.ensures.setup ∙ c.begin.ensures.setup) c.in_ok-made-in-Err.ensures)
