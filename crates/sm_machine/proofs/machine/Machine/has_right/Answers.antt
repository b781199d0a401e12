-- Whether a hand has the right that an event names.
use Rattle.std.proofs.Common.{◌∙◌, Some, None, ℕ, false, ap, sym, subst, refl}
use Rattle.std.specs.Prelude.{◌==◌}
use Rattle.std.specs.List.{list_any}
use Rattle.sm_protocol.specs.Ticket.{Ticket}
use Rattle.sm_protocol.specs.Hand.{is_token}
use Rattle.sm_machine.specs.Hand.{TellsRight}
use Rattle.sm_machine.proofs.FirstPlaces.{first_in}
use Rattle.sm_machine.proofs.Hands.{IsOfStream, token_right, free_right, permit_right, no_ticket, ticket_right}
use Rattle.sm_machine.proofs.machine.Machine.has_right.Goals as goal
use Rattle.sm_machine.proofs.machine.Machine.has_right.Goals.{in-Step, in-Step-2, in-Step-3}

pub returns-in-Step : goal.returns-in-Step
returns-in-Step c =
    token_right c.args.self.now c.args.hand.now c.in-Step-1.stream c.args.event.now c.has_token.result
    (elim c.in-Step-1.branch [
      | in-Step w ↦ subst (IsOfStream c.args.event.now) (sym w.stream-is) w.in-Step.is
      | in-Step-2 w ↦ subst (IsOfStream c.args.event.now) (sym w.stream-is) w.in-Step.is
      | in-Step-3 w ↦ subst (IsOfStream c.args.event.now) (sym w.stream-is) w.in-Step.is
    ])
    (c.has_token.ensures ∙ ap (list_any (is_token c.in-Step-1.stream)) c.as_slice-in-Step.ensures.value)

pub returns-in-Arrive : goal.returns-in-Arrive
returns-in-Arrive c = free_right c.args.self.now c.args.hand.now c.args.event.now c.in-Arrive.is

pub returns-in-None : goal.returns-in-None
returns-in-None c =
    subst (TellsRight false c.args.self.now c.args.hand.now) (sym c.in-PassOn.is)
    (no_ticket c.args.self.now c.args.hand.now c.in-PassOn.place
    (first_in (λ (t : Ticket). t.place == c.in-PassOn.place) _ _ _ None c.as_slice.ensures.value c.in-None.is c.first_ticket.ensures))

pub returns-in-Some : goal.returns-in-Some
returns-in-Some c =
    subst (TellsRight c.is_open.result c.args.self.now c.args.hand.now) (sym c.in-PassOn.is)
    (ticket_right c.args.self.now c.args.hand.now c.in-PassOn.place c.in-Some.at c.index.result.now
    (first_in (λ (t : Ticket). t.place == c.in-PassOn.place) _ _ _ (Some c.in-Some.at) c.as_slice.ensures.value c.in-Some.is c.first_ticket.ensures)
    c.index.ensures c.is_open.result c.is_open.ensures)

pub returns-in-Done : goal.returns-in-Done
returns-in-Done c =
    subst (λ b. TellsRight b c.args.self.now c.args.hand.now c.args.event.now) (sym c.is_some.ensures)
    (subst (TellsRight _ c.args.self.now c.args.hand.now) (sym c.in-Done.is)
    (permit_right c.args.self.now c.args.hand.now c.in-Done.server c.first_permit.result
    (first_in (λ (permit : ℕ). permit == c.in-Done.server) _ _ _ c.first_permit.result c.as_slice-in-Done.ensures.value refl c.first_permit.ensures)))
