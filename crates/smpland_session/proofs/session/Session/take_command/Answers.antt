use Rattle.smpland_session.proofs.Taken.{counted}
use Rattle.smpland_session.proofs.session.Session.take_command.Goals as goal

pub returns-in-Ok : goal.returns-in-Ok
returns-in-Ok c =
    counted c.args.command c.args.self.now c.carry_out.new.self c.count.new.self c.in-Ok.came
    c.in-Ok.ensures.came c.carry_out.ensures.place c.count.ensures.opened c.count.ensures.under_way c.count.ensures.place
