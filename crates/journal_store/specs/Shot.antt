-- The content of a disk in memory at a moment, and what a crash then may leave.
use Rattle.std.specs.Prelude.{◌≡◌, ◌≤◌, ℕ, List, [], ◌++◌, length, take, false, Option, Some, None}
use Rattle.journal_store.specs.declared.shot.Shot.{Shot}

-- a beginning of what is on the disk, not shorter than the last cut, and any bytes in the range that was appended since
-- the last sync
pub record IsLeft (shot : Shot) (content : List ℕ) : Type 0 where
  pub front : ℕ
  pub torn : List ℕ
  pub cut : shot.floor ≤ front
  pub loose : length torn ≤ shot.loose
  pub is : content ≡ take front shot.synced.items ++ torn

-- what was written by this moment
abbrev pub written_in : Option Shot → List ℕ
written_in None = []
written_in (Some shot) = shot.written.items

-- a crash at this moment may leave this
abbrev pub left_in : Option Shot → List ℕ → Type 0
left_in None content = ⊥
left_in (Some shot) content = IsLeft shot content

-- a crash at this moment may leave no file under its name
abbrev pub nameless_in : Option Shot → Type 0
nameless_in None = ⊥
nameless_in (Some shot) = shot.is_named ≡ false

-- the place from which on all bytes were written by this process
abbrev pub own_in : Option Shot → ℕ
own_in None = 0
own_in (Some shot) = shot.own
