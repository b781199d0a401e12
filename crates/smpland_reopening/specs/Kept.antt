-- The copies by which a reopening counts: how many members of a shard surely have each acknowledged write.
use Rattle.std.specs.Prelude.{ℕ, List, [], if◌then◌else◌, is_some, slice_index_or}
use Rattle.sm_reopening.specs.Ongoing.{net_reopening}
use Rattle.smpland_reopening.specs.Reopening.{ReopeningModel}

-- those of a shard: the primary's own, if no more are kept
abbrev pub kept_of : ReopeningModel → ℕ → ℕ
kept_of r s = slice_index_or r.kept s 1

-- Those by which a reopening counts that replaces this one: the same; once a settlement was confirmed, a new primary
-- may have acknowledged alone.
abbrev pub kept_on : ReopeningModel → List ℕ
kept_on r = if is_some (net_reopening r.ongoing).settlement then [] else r.kept
