-- The parties of a list of slots, in blocks of as many slots each.
-- Internal definitions: you need not read them for the public contracts.
use Rattle.std.specs.Prelude.{◌≡◌, ◌≤◌, ◌<◌, ℕ, ◌+◌, ◌*◌, ◌/◌, ◌%◌, List, length, Option, Some, None, is_some}
use Rattle.sm_placement.specs.declared.parties.Party.{Party}
use Rattle.sm_placement.specs.declared.parties.TheConstants.{BLOCK}
use Rattle.sm_placement.specs.Sums.{count_below}
use Rattle.sm_placement.specs.Layout.{entries_of}

-- the parties of places as contracts see them: where each block begins in the list, and the list of the blocks that
-- were written
pub record PartiesModel : Type 0 where
  -- where each block starts in the list of parties, if it was written
  pub starts : List (Option ℕ)
  pub parties : List Party

-- the default if no party was set
abbrev pub no_party : Party
no_party = record { server = 0; number = 0 }

-- the party at a slot of a block
abbrev pub party_in : Option ℕ → List Party → ℕ → Party
party_in None parties k = no_party
party_in (Some start) parties k = entries_of no_party parties (start + k)

-- the party of a slot
abbrev pub party_at : List (Option ℕ) → List Party → ℕ → Party
party_at starts parties k = party_in (entries_of None starts (k / BLOCK)) parties (k % BLOCK)

-- each block that was written stands in the list, beside no other
pub record IsBlocks (starts : List (Option ℕ)) (parties : List Party) : Type 0 where
  pub written : length parties ≡ count_below (length starts) (λ b. is_some (entries_of None starts b)) * BLOCK
  pub within : (b x : ℕ) → entries_of None starts b ≡ Some x → x + BLOCK ≤ length parties
  pub apart : (b d x y i j : ℕ) → entries_of None starts b ≡ Some x → entries_of None starts d ≡ Some y → i < BLOCK
      → j < BLOCK → x + i ≡ y + j → b ≡ d
