-- The hand lacks what an event has spent, and has what the event gave.
use Rattle.std.proofs.Common.{◌∙◌, ◌++◌, ◌∷◌, [], ap, sym, refl, arith}
use Rattle.sm_machine.proofs.Hands.{stream_settled, arrival_settled, approval_settled, restart_settled, pass_settled, ticket_left}
use Rattle.sm_machine.proofs.hand.Hand.settle.Goals as goal

pub returns-in-Arrive : goal.returns-in-Arrive
returns-in-Arrive c =
    arrival_settled c.args.self.now _ c.args.event.now c.in-Arrive.shard c.in-Arrive.server c.args.answer c.in-Arrive.is
    (record { tokens = refl; plans = refl; permits = omega arith; tickets = omega arith; permit_room = omega arith; ticket_room = omega arith }) refl c.add_ticket.ensures.items

pub returns-then-spends_ticket : goal.returns-then-spends_ticket
returns-then-spends_ticket c =
    pass_settled c.args.self.now c.args.event.now c.in-PassOn.place c.args.answer c.in-PassOn.is _
    (record { tokens = refl; plans = refl; permits = omega arith; tickets = omega arith; permit_room = omega arith; ticket_room = omega arith }) refl
    (sym c.spends_ticket.ensures ∙ c.if-spends_ticket.true) c.spend_ticket.ensures.items

pub returns-else-spends_ticket : goal.returns-else-spends_ticket
returns-else-spends_ticket c = ticket_left c.args.self.now c.args.event.now c.in-PassOn.place c.args.answer c.in-PassOn.is (sym c.spends_ticket.ensures ∙ c.if-spends_ticket.false)

pub returns-in-Approved : goal.returns-in-Approved
returns-in-Approved c =
    approval_settled c.args.self.now _ c.args.event.now c.in-Approve.server c.args.answer c.in-Approve.is c.in-Approved.is
    (record { tokens = refl; plans = refl; permits = omega arith; tickets = omega arith; permit_room = omega arith; ticket_room = omega arith }) refl (c.push_reserved.ensures.items ∙ ap (λ v. c.args.self.now.permits.items ++ v ∷ []) c.new.ensures)

pub returns-in-Up : goal.returns-in-Up
returns-in-Up c =
    restart_settled c.args.self.now _ c.args.event.now c.in-Done.server c.args.answer c.in-Done.is c.in-Up.is
    (record { tokens = refl; plans = refl; permits = omega arith; tickets = omega arith; permit_room = omega arith; ticket_room = omega arith }) refl c.spend_permit.ensures.items

pub returns-in_default : goal.returns-in_default
returns-in_default c = stream_settled c.args.self.now c.args.event.now c.args.answer c.requires.start c.in_default.not-Arrive c.in_default.not-PassOn c.in_default.not-Approve c.in_default.not-Done
