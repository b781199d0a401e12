-- The publication of a stream: its entry's version is small.
use Rattle.std.proofs.Common.{sym, ◌∙◌, arith}
use Rattle.sm_machine.specs.State.{state_of}
use Rattle.sm_driver.proofs.SmallCalls.{entry_is_small}
use Rattle.sm_driver.proofs.ordering.publication_of.Goals as goal

pub overflow_add-result : goal.overflow_add-result
overflow_add-result c =
    let small = entry_is_small _ (state_of c.args.machine.now) c.is_reached.ensures c.args.id (c.in_ok-shard.shard, c.in_ok-shard.entry) (sym c.next_entry.ensures ∙ c.in_ok-shard.was) in
    let base = c.requires in
    omega arith
