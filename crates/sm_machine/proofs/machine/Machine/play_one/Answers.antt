-- An event is played by its name, if the hand has its right.
use Rattle.std.proofs.Common.{subst, true, false}
use Rattle.sm_machine.specs.Hand.{TellsRight}
use Rattle.sm_machine.specs.State.{state_of}
use Rattle.sm_machine.proofs.Hands.{no_plan, can_direct, played_so}
use Rattle.sm_machine.proofs.machine.Machine.play_one.Goals as goal

pub has_right-requires : goal.has_right-requires
has_right-requires c = no_plan c.args.event c.in_default.not-Begin

pub play_named-answer-requires : goal.play_named-answer-requires
play_named-answer-requires c = can_direct (state_of c.args.self.now).sizes c.args.event c.requires.names

pub settle-requires-clause-start : goal.settle-requires-clause-start
settle-requires-clause-start c = no_plan c.args.event c.in_default.not-Begin

pub returns-then-not-has_right : goal.returns-then-not-has_right
returns-then-not-has_right c = subst (λ b. TellsRight b c.args.self.now c.args.hand.now c.args.event) c.if-not-has_right.true c.has_right.ensures

pub returns : goal.returns
returns c =
    played_so c.args.self.now c.play_named-answer.new.self c.args.hand.now c.settle.new.self c.args.event c.play_named-answer.result
    (subst (λ b. TellsRight b c.args.self.now c.args.hand.now c.args.event) c.if-not-has_right.false c.has_right.ensures) c.play_named-answer.ensures c.settle.ensures
