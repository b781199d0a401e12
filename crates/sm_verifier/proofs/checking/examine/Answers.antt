use Rattle.std.proofs.lemmas.Result.{err_from_is_err_and}
use Rattle.sm_placement.specs.Setup.{sizes_of}
use Rattle.sm_verifier.proofs.checking.examine.Goals as goal

pub returns-in_err-check_budget-clause-fault : goal.returns-in_err-check_budget-clause-fault
returns-in_err-check_budget-clause-fault c =
    let p = err_from_is_err_and c.from_residual.result c.from_residual.ensures.1 in
    rw (p.1, p.2) (c.in_err-check_budget.ensures.fault (sizes_of c.args.config.now))

pub returns-in_err-check_signals-clause-fault : goal.returns-in_err-check_signals-clause-fault
returns-in_err-check_signals-clause-fault c =
    let p = err_from_is_err_and c.from_residual-in_err-check_signals.result c.from_residual-in_err-check_signals.ensures.1 in
    rw (p.1, p.2) (c.in_err-check_signals.ensures.fault (sizes_of c.args.config.now))
