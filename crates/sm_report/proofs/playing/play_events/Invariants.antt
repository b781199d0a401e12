use Rattle.std.proofs.Common.{◌≡◌, ◌++◌, string_bytes, drop}
use Rattle.sm_report.specs.Playing.{scene_after}
use Rattle.sm_report.specs.PlayLines.{event_lines}
use Rattle.sm_report.specs.Player.{scene_of, IsSetUp}
use Rattle.sm_report.proofs.playing.play_events.Given as goal

abbrev pub invariant-loop-i : goal.invariant-loop-i
invariant-loop-i l = record {
  setup : l.player.director.placement.setup ≡ l.fn.player.director.placement.setup;
  ready : IsSetUp l.player;
  lines : string_bytes l.out ++ event_lines l.config l.many (scene_of l.player) l.i (drop l.i l.events)
      ≡ string_bytes l.fn.out ++ event_lines l.config l.many (scene_of l.fn.player) 0 l.events;
  after : scene_after (drop l.i l.events) (scene_of l.player) ≡ scene_after l.events (scene_of l.fn.player);
}
