use Rattle.sm_verifier.proofs.Growth.{small_amounts}
use Rattle.sm_verifier.proofs.declared.spare_of.Goals as goal

pub returns-clause-bound : goal.returns-clause-bound
returns-clause-bound c = rw c.spare_of.ensures ((small_amounts c.args.parcel.now c.requires).spare c.args.shard)
