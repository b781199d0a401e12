use Rattle.std.proofs.Common.{refl}
use Rattle.json_tree.specs.View.{view}
use Rattle.smpland_lines.specs.Commands.{IsKnownCommand}
use Rattle.smpland_lines.specs.Lines.{Says}
use Rattle.smpland_session.specs.Exchanges.{TakesBad}
use Rattle.smpland_session.proofs.Found.{read_is}
use Rattle.smpland_session.proofs.Taken.{taken}
use Rattle.smpland_session.proofs.session.Session.take.Goals as goal

pub returns-in-Ok : goal.returns-in-Ok
returns-in-Ok c =
    let value = view c.args.line.now in
    taken c.take_command.result value c.in-Ok.command c.args.self.now c.take_command.new.self
    (read_is (Says value) _ c.in-Ok.command c.in-Ok.is c.in_ok-command.ensures.told)
    (c.config.result, c.config.ensures, read_is (IsKnownCommand c.config.result) _ c.in-Ok.command c.in-Ok.is c.in_ok-command.ensures.known)
    c.take_command.ensures

pub returns-in-Err : goal.returns-in-Err
returns-in-Err c = TakesBad c.in-Err.bad refl refl
