use Rattle.smpland_lines.specs.Slots.{TellSlots}
use Rattle.smpland_session.proofs.Audits.{tells_compared, tells_malformed}
use Rattle.smpland_session.proofs.Found.{read_is}
use Rattle.smpland_session.proofs.telling.audit.write_audit_of.Goals as goal

-- The slots are those that the rows tell.
pub returns-in-Ok : goal.returns-in-Ok
returns-in-Ok c =
    let told = read_is (λ slots. TellSlots c.args.line.slots.now slots.items) _ c.in-Ok.slots c.in-Ok.is c.in_ok-slots.ensures.told in
    tells_compared c.write_audit.result c.args.opened.now c.args.line.server.now c.args.line.place c.args.line.slots.now c.in-Ok.slots.items c.as_slice.result.now _ _ told
    c.as_slice.ensures.value c.write_audit.ensures

pub returns-in-Err : goal.returns-in-Err
returns-in-Err c = tells_malformed c.write_bad.result c.args.opened.now c.args.line.server.now c.args.line.place c.args.line.slots.now c.in-Err.bad _ _ c.write_bad.ensures
