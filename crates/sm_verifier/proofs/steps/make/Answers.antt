use Rattle.sm_plan_code.specs.Plan.{IsSmallParcel}
use Rattle.sm_verifier.proofs.Growth.{all_at}
use Rattle.sm_verifier.proofs.steps.make.Goals as goal

pub wait-requires-clause-small : goal.wait-requires-clause-small
wait-requires-clause-small c = all_at IsSmallParcel c.args.signals.now c.in-Wait.number c.index-signals-number-in-Wait.result c.requires.small (rw c.in-Wait.is at c.requires.signal) c.index-signals-number-in-Wait.is
