use Rattle.std.proofs.Common.{◌≡◌, Bool, Option, refl, subst}
use Rattle.smpland_session.specs.Openings.{DoesOpen}
use Rattle.smpland_session.proofs.session.Session.carry_out.Goals as goal

pub drive-requires : goal.drive-requires
drive-requires c = c.context-at.ensures
