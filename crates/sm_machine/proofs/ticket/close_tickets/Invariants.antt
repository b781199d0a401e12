use Rattle.std.specs.Prelude.{vec_len}
use Rattle.sm_machine.proofs.ticket.close_tickets.Given as goal

abbrev pub decreases-loop-ticket : goal.decreases-loop-ticket
decreases-loop-ticket l = vec_len l.tickets
