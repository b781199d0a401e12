-- The law is the lemma on every reopening.
use Rattle.laws_data.proofs.Naming.{unnamed-is-whole}
use Rattle.laws_data.proofs.law.unnamed_shards_are_whole.Goals as goal

pub returns : goal.returns
returns g = unnamed-is-whole
