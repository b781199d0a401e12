use Rattle.std.proofs.Common.{◌∙◌, ap, arith, length, sym}
use Rattle.sm_placement.specs.Place.{Place}
use Rattle.sm_placement.specs.Setup.{Setup}
use Rattle.sm_machine.specs.Machine.{MachineModel}
use Rattle.sm_machine.specs.State.{state_of}
use Rattle.laws_network.specs.Net.{cell_above}
use Rattle.sm_driver.specs.Driver.{base}
use Rattle.smpland_state.proofs.audit.comparing.recorded_cell.Goals as goal

-- Beyond its shards a placement has nothing.
pub returns-then-number-shard_count : goal.returns-then-number-shard_count
returns-then-number-shard_count c =
    let place = c.placement.ensures.place ∙ ap (λ (m : MachineModel). (state_of m).place) c.machine.ensures in
    let count = c.shard_count.ensures.count ∙ ap (λ (x : Setup). length x.shards) c.config.ensures.setup in
    let beyond = c.config.ensures.placement.no_shard c.args.shard c.args.server (omega (arith, c.if-number-shard_count.true, c.number.ensures, count)) in
    sym (ap (cell_above (base c.args.driver.now)) (ap (λ (p : Place). p.cells c.args.shard c.args.server) (sym place) ∙ beyond))
