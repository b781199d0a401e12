use Rattle.std.proofs.Common.{◌≡◌, ℕ, ◌<◌, false, get_or}
use Rattle.std.specs.Prelude.{◌==◌}
use Rattle.sm_protocol.specs.Ticket.{Ticket}
use Rattle.sm_machine.proofs.searches.first_ticket.Given as goal

-- none before it is of the place
abbrev pub invariant-loop-at : goal.invariant-loop-at
invariant-loop-at l = (k : ℕ) (d : Ticket) → k < l.at → ((get_or l.tickets k d).place == l.place) ≡ false
