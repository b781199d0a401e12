-- A call is tried.
use Rattle.std.proofs.Common.{subst, sym}
use Rattle.sm_machine.specs.State.{whole_of}
use Rattle.sm_protocol.specs.declared.event.Played.TheVariants as played
use Rattle.sm_machine.specs.Working.{IsStepped}
use Rattle.sm_machine.proofs.Turns.{call_asks, through_leaves, unanswered_leaves, lost_leaves}
use Rattle.sm_machine.proofs.engine.Engine.make_try.Goals as goal

pub call_through-fresh-requires : goal.call_through-fresh-requires
call_through-fresh-requires c = call_asks (whole_of c.args.self.now) c.args.id c.args.instr.now c.requires.at c.held_in_order.ensures.order c.held_in_order.ensures.there c.args.call.now c.requires.call c.requires.makes c.requires.unspent c.requires.few

pub call_unanswered-fresh-requires : goal.call_unanswered-fresh-requires
call_unanswered-fresh-requires c = call_asks (whole_of c.args.self.now) c.args.id c.args.instr.now c.requires.at c.held_in_order.ensures.order c.held_in_order.ensures.there c.args.call.now c.requires.call c.requires.makes c.requires.unspent c.requires.few

pub call_lost-requires-clause-go : goal.call_lost-requires-clause-go
call_lost-requires-clause-go c = let a = call_asks (whole_of c.args.self.now) c.args.id c.args.instr.now c.requires.at c.held_in_order.ensures.order c.held_in_order.ensures.there c.args.call.now c.requires.call c.requires.makes c.requires.unspent c.requires.few in a.go

pub call_lost-requires-clause-next : goal.call_lost-requires-clause-next
call_lost-requires-clause-next c = let a = call_asks (whole_of c.args.self.now) c.args.id c.args.instr.now c.requires.at c.held_in_order.ensures.order c.held_in_order.ensures.there c.args.call.now c.requires.call c.requires.makes c.requires.unspent c.requires.few in a.next

pub call_lost-requires-clause-effects : goal.call_lost-requires-clause-effects
call_lost-requires-clause-effects c = let a = call_asks (whole_of c.args.self.now) c.args.id c.args.instr.now c.requires.at c.held_in_order.ensures.order c.held_in_order.ensures.there c.args.call.now c.requires.call c.requires.makes c.requires.unspent c.requires.few in a.effects

pub returns-in-Through : goal.returns-in-Through
returns-in-Through c =
    subst (λ p. IsStepped (whole_of c.args.self.now) c.args.id p played.Moved (whole_of c.call_through-fresh.new.self)) (sym c.in-Through.is)
    (through_leaves (whole_of c.args.self.now) c.args.id c.args.instr.now c.requires.at c.held_in_order.ensures.order c.held_in_order.ensures.there c.args.call.now c.requires.call c.requires.makes c.requires.unspent c.requires.few
    (whole_of c.call_through-fresh.new.self) c.call_through-fresh.result c.call_through-fresh.ensures.effect c.call_through-fresh.ensures.whole c.call_through-fresh.ensures.traded)

pub returns-in-LostAfter : goal.returns-in-LostAfter
returns-in-LostAfter c =
    subst (λ p. IsStepped (whole_of c.args.self.now) c.args.id p played.Lost (whole_of c.call_unanswered-fresh.new.self)) (sym c.in-LostAfter.is)
    (unanswered_leaves (whole_of c.args.self.now) c.args.id c.args.instr.now c.requires.at c.held_in_order.ensures.order c.held_in_order.ensures.there c.args.call.now c.requires.call c.requires.makes c.requires.unspent c.requires.few
    (whole_of c.call_unanswered-fresh.new.self) c.call_unanswered-fresh.result c.call_unanswered-fresh.ensures.effect c.call_unanswered-fresh.ensures.whole c.call_unanswered-fresh.ensures.traded)

pub returns-in-LostBefore : goal.returns-in-LostBefore
returns-in-LostBefore c =
    subst (λ p. IsStepped (whole_of c.args.self.now) c.args.id p played.Lost (whole_of c.call_lost.new.self)) (sym c.in-LostBefore.is)
    (lost_leaves (whole_of c.args.self.now) c.args.id c.args.instr.now c.requires.at c.held_in_order.ensures.order c.held_in_order.ensures.there c.args.call.now c.requires.call c.requires.makes c.requires.unspent c.requires.few (whole_of c.call_lost.new.self) c.call_lost.ensures)
