use Rattle.sm_placement.specs.Setup.{sizes_of}
use Rattle.sm_verifier.proofs.VerdictCases.{sound_without_fault}
use Rattle.sm_verifier.proofs.checking.check.Goals as goal

pub returns-in-Err-clause-unsound : goal.returns-in-Err-clause-unsound
returns-in-Err-clause-unsound c = λ some sound. some (sound_without_fault (sizes_of c.args.config.now) c.args.plan c.in-Err.fault sound c.in-Err.ensures.fault)
