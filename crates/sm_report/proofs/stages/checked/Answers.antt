use Rattle.std.proofs.Common.{subst}
use Rattle.sm_placement.specs.Setup.{sizes_of}
use Rattle.sm_verifier.specs.Plan.{IsFault}
use Rattle.sm_report.proofs.stages.checked.Goals as goal

pub returns-clause-ends : goal.returns-clause-ends
returns-clause-ends c =
    let fault = c.in-Err.fault in
    let is : IsFault (sizes_of c.args.placement.now.setup) c.args.plan fault =
    subst (λ s. IsFault (sizes_of s) c.args.plan fault) c.config.ensures.setup c.in-Err.ensures.fault in
    let told = c.in_ok-fault_report-in-Err.ensures in
    (fault, is, told.0, told.1)
