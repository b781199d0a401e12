-- Unknown shards make no difference to what is known.
use Rattle.smpland_reopening.proofs.Frames.{still_unknown_shard}
use Rattle.smpland_reopening.proofs.reopening.DocumentReopening.note_unknown_shards.Goals as goal

pub invariant_of-self : goal.invariant_of-self
invariant_of-self c = still_unknown_shard _ _ c.self.invariant
