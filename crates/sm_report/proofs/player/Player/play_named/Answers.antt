-- An event that is no start is played by its name.
use Rattle.std.proofs.Common.{sym, ◌∙◌}
use Rattle.sm_machine.specs.State.{state_of}
use Rattle.sm_report.specs.Player.{scene_of}
use Rattle.sm_report.proofs.EventTurns.{can_direct, named_known, named_so, unnamed_so}
use Rattle.sm_report.proofs.player.Player.play_named.Goals as goal

pub play-requires : goal.play-requires
play-requires c =
    let sizes = (state_of c.args.self.now.director).sizes in
    can_direct sizes c.in-Some.event (named_known (scene_of c.args.self.now) sizes c.args.event c.in-Some.event c.requires.known (sym c.event_named.ensures ∙ c.in-Some.is))

pub returns-in-Some : goal.returns-in-Some
returns-in-Some c =
    named_so c.args.self.now c.play.new.self c.args.event c.in-Some.event c.play.result c.requires.ready c.requires.other (sym c.event_named.ensures ∙ c.in-Some.is) c.play.ensures

pub returns-in-None : goal.returns-in-None
returns-in-None c = unnamed_so c.args.self.now c.args.event c.requires.ready c.requires.other (sym c.event_named.ensures ∙ c.in-None.is)
