use Rattle.std.proofs.Common.{length, ap, arith}
use Rattle.sm_report.proofs.RunStages.{has_run}
use Rattle.sm_report.proofs.boards.run_begun.Goals as goal

pub returns-in-Ok-clause-ran : goal.returns-in-Ok-clause-ran
returns-in-Ok-clause-ran g c =
    let lent = ap length c.as_mut_slice-clients.ensures.value in
    let kept = c.in-Ok.ensures.clients in
    let ok = c.make_clients.new.clients.ok in
    has_run _ _ c.args.runners.items c.in-Ok.ended.items c.keep_ends.new.kept.items c.run_beside.new.clients _ c.requires.runners c.in-Ok.ensures.ended c.keep_ends.ensures
    (omega (arith, lent, kept, ok)) c.in-Ok.ensures.asked
