use Rattle.smpland_lines.proofs.Written.{next}
use Rattle.smpland_state.proofs.holders.write_holders.Goals as goal

pub returns : goal.returns
returns c =
    let owner = rw c.owner_of-owner.ensures at (rw c.config.ensures.setup at c.in_ok-write_listed.ensures) in
    next c.args.writer.now.tokens _ _ owner c.in_ok-write_replicas.ensures
