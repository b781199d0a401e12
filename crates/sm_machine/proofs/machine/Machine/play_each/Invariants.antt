use Rattle.std.proofs.Common.{◌≡◌, ◌≤◌, ◌++◌, ◌-◌, length, drop, map}
use Rattle.sm_protocol.specs.Steps.{Answered}
use Rattle.sm_protocol.specs.Hand.{play, plays}
use Rattle.sm_machine.specs.Hand.{AreLeft, HasHandRoom, game_of}
use Rattle.sm_machine.proofs.machine.Machine.play_each.Given as goal

-- what was played and what is left are the whole list, and there is room for what is left
abbrev pub invariant-loop-event : goal.invariant-loop-event
invariant-loop-event l = record {
  count : length l.answers.told ≡ l.event-index;
  places : length l.events ≤ l.answers.room;
  room : HasHandRoom l.hand (length l.events - l.event-index);
  answers : map Answered l.answers.told ++ plays (drop l.event-index l.events) (game_of l.self l.hand) ≡ plays l.events (game_of l.fn.self l.fn.hand);
  game : play (drop l.event-index l.events) (game_of l.self l.hand) ≡ play l.events (game_of l.fn.self l.fn.hand);
  setup : l.self.placement.setup ≡ l.fn.self.placement.setup;
  left : AreLeft l.fn.hand.plans.items l.hand.plans.items;
}
