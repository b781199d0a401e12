-- Shards that servers have and nobody knows.
use Rattle.std.specs.Prelude.{◌≡◌, ◌<◌, ◌≤◌, List, [], ◌∷◌, ◌++◌, Option, Some, None, All}
use Rattle.smpland_reopening.specs.declared.unknown_shard.UnknownShard.{UnknownShard}

-- The shard is the first one of the lowest server: those before it are of higher servers, and those behind it of no
-- lower ones.
pub record IsOfLowest (shards : List UnknownShard) (first : UnknownShard) : Type 0 where
  pub before : List UnknownShard
  pub after : List UnknownShard
  pub stands : shards ≡ before ++ first ∷ after
  pub above : All (λ (other : UnknownShard). first.server < other.server) before
  pub not_below : All (λ (other : UnknownShard). first.server ≤ other.server) after

-- the first shard of the lowest server, and none only if there are none
abbrev pub IsFirstUnknown : List UnknownShard → Option UnknownShard → Type 0
IsFirstUnknown shards (Some first) = IsOfLowest shards first
IsFirstUnknown shards None = shards ≡ []
