use Rattle.std.proofs.Common.{◌≡◌}
use Rattle.smpland_session.proofs.Found.{nothing}
use Rattle.smpland_session.proofs.Openings.{opens_by}
use Rattle.smpland_session.proofs.opening.open.Goals as goal

-- None was open, and no reopening was under way.
pub returns-in_ok-take-in-Ok : goal.returns-in_ok-take-in-Ok
returns-in_ok-take-in-Ok c =
    opens_by c.args.line c.args.at.is_reopening c.args.opened.now c.take.new.opened c.in-Ok.first.driver c.if-at.false
    (nothing c.args.opened.now c.is_some.result c.is_some.ensures c.if-is_some.false)
    c.in_ok-take-in-Ok.ensures c.in-Ok.ensures.settled c.in-Ok.ensures.asked
