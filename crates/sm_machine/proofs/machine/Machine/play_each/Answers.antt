-- One event more.
use Rattle.std.proofs.Common.{◌≤◌, ◌+◌, ◌<◌, ◌∙◌, ◌∷◌, [], ap, arith, length, subst, sym}
use Rattle.std.proofs.lemmas.List.{length-append}
use Rattle.sm_machine.specs.Hand.{game_of}
use Rattle.sm_machine.proofs.HandPlays.{names_at, plans_for, left_after, played_more, told_more, room_left}
use Rattle.sm_machine.proofs.machine.Machine.play_each.Goals as goal

pub play_one-answer-requires-clause-names : goal.play_one-answer-requires-clause-names
play_one-answer-requires-clause-names c =
    names_at c.args.self.now c.loop-event.self c.args.events.now c.loop-event.event-index c.event-item.result c.requires.names (omega arith) c.event-item.is c.loop-event.invariant.setup

pub play_one-answer-requires-clause-plans : goal.play_one-answer-requires-clause-plans
play_one-answer-requires-clause-plans c =
    plans_for c.args.self.now c.loop-event.self c.args.hand.now c.loop-event.hand c.requires.plans c.loop-event.invariant.setup c.loop-event.invariant.left

pub loop-event-preserved : goal.loop-event-preserved
loop-event-preserved c =
    let l : c.loop-event.event-index < length c.args.events.now = omega arith in
    let t = c.play_one-answer.ensures in
    record {
      count = ap length c.add.ensures.told ∙ length-append c.loop-event.answers.told (c.play_one-answer.result ∷ []) ∙ ap (λ n. n + 1) c.loop-event.invariant.count;
      places = subst (λ n. length c.args.events.now ≤ n) (sym c.add.ensures.room) c.loop-event.invariant.places;
      room = room_left c.loop-event.hand c.play_one-answer.new.hand (length c.args.events.now) c.loop-event.event-index l c.loop-event.invariant.room t.room;
      answers =
          told_more c.loop-event.self c.play_one-answer.new.self c.loop-event.hand c.play_one-answer.new.hand c.event-item.result c.play_one-answer.result t c.args.events.now c.loop-event.event-index l c.event-item.is
          c.loop-event.answers.told c.add.new.self.told (game_of c.args.self.now c.args.hand.now) c.add.ensures.told c.loop-event.invariant.answers;
      game =
          played_more c.loop-event.self c.play_one-answer.new.self c.loop-event.hand c.play_one-answer.new.hand c.event-item.result c.play_one-answer.result t c.args.events.now c.loop-event.event-index l c.event-item.is
          (game_of c.args.self.now c.args.hand.now) c.loop-event.invariant.game;
      setup = t.setup ∙ c.loop-event.invariant.setup;
      left = left_after c.args.hand.now c.loop-event.hand c.play_one-answer.new.hand c.loop-event.invariant.left t.left;
    }
