use Rattle.std.proofs.Common.{◌∙◌, ap, refl}
use Rattle.sm_driver.specs.Driver.{DriverModel, record_of}
use Rattle.smpland_state.specs.Replies.{gone_on}
use Rattle.smpland_session.proofs.answering.moved.Goals as goal

-- The streams have gone on by the driver that is open.
pub returns-clause-outcome : goal.returns-clause-outcome
returns-clause-outcome c =
    (refl, c.in_ok-gone_on.ensures ∙ ap (λ (d : DriverModel). gone_on (record_of d) c.args.id.plan c.args.sinces.now) c.messages.ensures)
