use Rattle.sm_verifier.proofs.VerdictCases.{same_fault, sound_without_fault}
use Rattle.sm_verifier.proofs.verdict.one_fault.Goals as goal

pub returns : goal.returns
returns c = record { same = same_fault; sound = sound_without_fault }
