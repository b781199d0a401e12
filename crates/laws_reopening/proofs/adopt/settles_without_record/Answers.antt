-- The law is the lemma on who is carried over.
use Rattle.laws_reopening.proofs.Unrecorded.{settles_without_record}
use Rattle.laws_reopening.proofs.adopt.settles_without_record.Goals as goal

pub returns : goal.returns
returns c = settles_without_record
