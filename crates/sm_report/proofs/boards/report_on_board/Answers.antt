use Rattle.std.proofs.Common.{◌≡◌, ◌≤◌, ◌∙◌, length, ap, arith}
use Rattle.sm_placement.specs.Setup.{Sizes}
use Rattle.sm_protocol.specs.State.{stream_count}
use Rattle.sm_machine.specs.State.{state_of}
use Rattle.sm_machine.proofs.HandPlays.{sizes_are}
use Rattle.sm_executor.proofs.StillRunning.{few_streams}
use Rattle.sm_report.proofs.boards.report_on_board.Goals as goal

pub report_on_ground-requires-clause-known : goal.report_on_ground-requires-clause-known
report_on_ground-requires-clause-known g c κs within =
    let shards : length c.in-Ok.ground.words.opening ≡ length c.args.begun.machine.placement.setup.shards =
    c.in-Ok.ensures.map.shards ∙ ap (λ (s : Sizes). s.shards) (sizes_are c.args.begun.machine) in
    λ k d below. let known = c.requires.known k d below in omega (arith, shards, known)

pub report_on_ground-requires-clause-few : goal.report_on_ground-requires-clause-few
report_on_ground-requires-clause-few g c =
    let w = state_of c.args.begun.machine in
    let count = c.requires.tokens.count in
    let one = c.requires.one in
    let few : stream_count w 0 ≤ 64 = few_streams c.args.begun.machine.placement.setup w c.is_reached.ensures 0 (omega (arith, one)) in
    omega (arith, count, few)
