-- The first ticket of a place is spent, if there is one.
use Rattle.std.proofs.Common.{◌∙◌, Some, None, sym}
use Rattle.std.specs.Prelude.{◌==◌}
use Rattle.std.proofs.lemmas.Option.{none-some}
use Rattle.sm_protocol.specs.Ticket.{Ticket}
use Rattle.sm_machine.proofs.FirstPlaces.{first_in, find_none}
use Rattle.sm_machine.proofs.Hands.{ticket_spent}
use Rattle.sm_machine.proofs.hand.spend_ticket.Goals as goal

pub returns-in-Some-clause-items : goal.returns-in-Some-clause-items
returns-in-Some-clause-items c =
    ticket_spent c.args.tickets.now.items c.remove-ticket.new.self.items c.add_ticket.new.tickets.items c.args.place c.in-Some.at c.remove-ticket.result c.args.answer c.shard.result c.target.result
    (first_in (λ (t : Ticket). t.place == c.args.place) _ _ _ (Some c.in-Some.at) c.as_slice.ensures.value c.in-Some.is c.first_ticket.ensures)
    c.remove-ticket.ensures.value c.remove-ticket.ensures.items c.add_ticket.ensures.items c.shard.ensures c.target.ensures

pub returns-in_default-clause-items : goal.returns-in_default-clause-items
returns-in_default-clause-items c t found =
    let is_of = λ (t : Ticket). t.place == c.args.place in
    absurd (none-some t (sym (find_none is_of _ (first_in is_of _ _ _ None c.as_slice.ensures.value c.in_default.is c.first_ticket.ensures)) ∙ found))
