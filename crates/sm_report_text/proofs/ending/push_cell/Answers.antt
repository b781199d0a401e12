use Rattle.sm_report_text.proofs.ending.push_cell.Goals as goal

pub returns-in-Prepared : goal.returns-in-Prepared
returns-in-Prepared c = rw (c.in-Prepared.is, ← c.server_name-name.ensures, ← c.server_name.ensures) c.push_handover.ensures

pub returns-in-Forwarding : goal.returns-in-Forwarding
returns-in-Forwarding c = rw (c.in-Forwarding.is, ← c.server_name-name.ensures, ← c.server_name-in-Forwarding.ensures) c.push_handover-in-Forwarding.ensures
