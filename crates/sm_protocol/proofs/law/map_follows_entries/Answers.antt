-- The law is the lemma on every state that events lead to.
use Rattle.sm_protocol.proofs.Entries.{map_follows_entries}
use Rattle.sm_protocol.proofs.law.map_follows_entries.Goals as goal

pub returns : goal.returns
returns g = map_follows_entries
