-- The order of a stream: its call's handover number is small.
use Rattle.std.proofs.Common.{sym, ◌∙◌}
use Rattle.sm_protocol.proofs.SmallNumbers.{numbers_stay_small}
use Rattle.sm_machine.specs.State.{state_of}
use Rattle.sm_driver.proofs.SmallCalls.{next_is_small}
use Rattle.sm_driver.proofs.ordering.order_of.Goals as goal

pub call_above-requires-clause-number : goal.call_above-requires-clause-number
call_above-requires-clause-number c =
    let w = state_of c.args.machine.now in
    next_is_small w c.args.id c.in_ok-next.next (numbers_stay_small _ w c.is_reached.ensures).numbers (sym c.next_call.ensures ∙ c.in_ok-next.was)
