-- A caller's knowledge of a board's map. No contract has a name for the state behind the lock at a moment, so the
-- knowledge of a new caller is told by some state of the board.
use Rattle.std.specs.Prelude.{◌≡◌, ◌<◌, ℕ, List, [], ◌∷◌, Some, IfSome, slice_get, slice_set}
use Rattle.sm_placement.specs.Place.{entry_at}
use Rattle.sm_placement.specs.Setup.{Setup}
use Rattle.sm_placement.specs.declared.entry.Entry.{Entry}
use Rattle.sm_map.specs.History.{IsSameOrOlder}
use Rattle.sm_protocol.specs.State.{State}
use Rattle.sm_executor.specs.Closed.{IsBoardState}
use Rattle.sm_executor.specs.Views.{CallerModel}

-- the entries of a map that was opened with these, after what was stored since, the last first
abbrev pub known_of : List Entry → List (ℕ × Entry) → List Entry
known_of opening [] = opening
known_of opening (x ∷ since) = slice_set (known_of opening since) x.0 x.1

-- what the caller knows of the shard is this entry, or an older one
abbrev pub KnowsSameOrOlder : CallerModel → ℕ → Entry → Type 0
KnowsSameOrOlder caller shard this = IfSome (slice_get caller.known shard) (IsSameOrOlder this)

-- what the caller knows of each shard is the machine's entry
abbrev pub KnowsMap : State → CallerModel → Type 0
KnowsMap now caller = (s : ℕ) → s < now.sizes.shards → slice_get caller.known s ≡ Some (entry_at now.place s)

-- At a state of the board, what the caller knows of each shard is the machine's entry.
pub record HasKnownMap (setup : Setup) (opened : State) (caller : CallerModel) : Type 0 where
  pub now : State
  pub state : IsBoardState setup opened now
  pub known : KnowsMap now caller
