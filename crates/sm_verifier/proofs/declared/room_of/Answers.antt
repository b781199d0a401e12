use Rattle.sm_verifier.proofs.Growth.{small_amounts}
use Rattle.sm_verifier.proofs.declared.room_of.Goals as goal

pub returns-clause-bound : goal.returns-clause-bound
returns-clause-bound c = rw c.room_of.ensures ((small_amounts c.args.parcel.now c.requires).room c.args.server)
