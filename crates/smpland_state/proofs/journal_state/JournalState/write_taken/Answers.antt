use Rattle.std.proofs.Common.{◌++◌, ◌∙◌, ap}
use Rattle.sm_driver.specs.Driver.{DriverModel}
use Rattle.smpland_state.specs.Replies.{moved_members}
use Rattle.smpland_state.proofs.journal_state.JournalState.write_taken.Goals as goal

-- The reply from the driver that is open.
pub returns : goal.returns
returns c =
    c.in_ok-write_taken.ensures
    ∙ ap (λ (d : DriverModel). c.args.writer.now.tokens ++ moved_members d c.args.id c.args.gone_on.now) c.messages.ensures
