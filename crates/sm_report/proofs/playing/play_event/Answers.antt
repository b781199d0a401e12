use Rattle.sm_report.proofs.EventTurns.{line_of, event_known}
use Rattle.sm_report.proofs.playing.play_event.Goals as goal

pub returns-in-Ok-clause-line : goal.returns-in-Ok-clause-line
returns-in-Ok-clause-line c =
    line_of c.args.config.now c.args.many c.args.i c.args.player.now c.play.new.self c.args.event c.in-Ok.answer c.in-Ok.ensures c.push_answer.result _ _ _ c.in_ok-push_event_front.ensures c.push_answer.ensures

pub play-requires-clause-known : goal.play-requires-clause-known
play-requires-clause-known c = event_known c.args.player.now.director c.args.config.now c.args.event c.requires.setup c.requires.known
