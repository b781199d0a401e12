use Rattle.std.proofs.Common.{◌≡◌, ◌∙◌, ◌++◌, [], List, OnOk, ap, subst}
use Rattle.sm_reservation.specs.declared.stream_id.StreamId.{StreamId}
use Rattle.sm_driver.specs.Driver.{DriverModel, record_of}
use Rattle.smpland_state.specs.Replies.{gone_on, plan_told}
use Rattle.smpland_state.proofs.journal_state.JournalState.write_plan_now.Goals as goal

-- The reply about the plan, and about all of its streams, from the driver that is open.
pub returns : goal.returns
returns c =
    let o = c.args.writer.now.tokens in
    let ts = c.write_plan.new.writer.tokens in
    let all = c.as_slice.ensures.value ∙ c.in_ok-streams.ensures ∙ ap (λ (d : DriverModel). gone_on (record_of d) c.args.number []) c.messages-messages.ensures in
    subst (λ (d : DriverModel). OnOk c.write_plan.result (ts ≡ o ++ plan_told d c.args.number (gone_on (record_of c.args.self.now.driver) c.args.number []))) c.messages-messages.ensures
    (subst (λ (ids : List StreamId). OnOk c.write_plan.result (ts ≡ o ++ plan_told c.messages-messages.result.driver.now c.args.number ids)) all c.write_plan.ensures)
