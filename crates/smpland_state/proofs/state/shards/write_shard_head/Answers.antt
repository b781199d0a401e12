use Rattle.std.proofs.Common.{◌∙◌, ap}
use Rattle.sm_machine.specs.Machine.{MachineModel}
use Rattle.smpland_lines.proofs.Written.{next}
use Rattle.smpland_state.proofs.state.shards.write_shard_head.Goals as goal

pub returns : goal.returns
returns c =
    let o = c.args.writer.now.tokens in
    let setup = c.config-config.ensures.setup ∙ ap (λ (m : MachineModel). m.placement.setup) c.machine.ensures in
    let name = rw (c.shard_name.ensures, setup) at c.in_ok-write_text.ensures in
    let load = rw (c.load.ensures.load, setup) at c.in_ok-write_number.ensures in
    let live = rw c.from.ensures at c.in_ok-write_number-2.ensures in
    let floor = rw (c.from-2.ensures, c.floor.ensures.floor, setup) at c.in_ok-write_number-3.ensures in
    let copies = rw (c.from-3.ensures, c.copies.ensures) at c.in_ok-write_number-4.ensures in
    let listed = rw setup at c.in_ok-write_listed.ensures in
    let numbers = next o _ _ (next o _ _ (next o _ _ (next o _ _ name load) live) floor) copies in
    next o _ _ (next o _ _ numbers listed) c.in_ok-write_number-5.ensures
