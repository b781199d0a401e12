-- How far copies have a shard's writes, as replicas have told the primary.
use Rattle.std.specs.Prelude.{◌<◌, ◌≤◌, ◌==◌, ◌&&◌, nat_le, ℕ, suc, Bool, List, count_by}
use Rattle.sm_copies.specs.declared.order.ToldCopy.{ToldCopy}

-- whether a copy counts for the writes up to a position: it is of this view, and has them
abbrev pub counts : ℕ → ℕ → ToldCopy → Bool
counts view position copy = copy.view == view && nat_le position copy.position

-- So many copies have the writes up to a position: the primary's own, and those that count of what it was told.
abbrev pub HaveEnough : ℕ → ToldCopy → List ToldCopy → ℕ → Type 0
HaveEnough copies own told position = (position ≤ own.position)
    × (copies ≤ suc (count_by (counts own.view position) told))

-- The position up to which a primary acknowledges: enough copies have the writes up to it, and up to no greater one. It
-- is 0 if there is none.
pub record IsAcknowledged (copies : ℕ) (own : ToldCopy) (told : List ToldCopy) (position : ℕ) : Type 0 where
  pub have : 0 < position → HaveEnough copies own told position
  pub greatest : (other : ℕ) → HaveEnough copies own told other → other ≤ position
