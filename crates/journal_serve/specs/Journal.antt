-- A journal in its store, between two appends.
use Rattle.std.specs.Prelude.{◌≡◌, ℕ, List, map, All}
use Rattle.journal_lines.specs.Objects.{listed, IsBatch}
use Rattle.journal_lines.specs.Lines.{no_sum}
use Rattle.journal_lines.specs.Journal.{last_sum, journal_of}
use Rattle.journal_store.specs.Store.{written_now, IsSynced}
use Rattle.journal_serve.specs.declared.journal.Journal.{Journal}

-- the store has the journal of these batches and nothing behind it, all of it is on the disk, and the sum is that of
-- the last line
pub record IsOnDisk {D : Type 0} (moment : D → ℕ) (written_at : D → ℕ → List ℕ) (left_at : D → ℕ → List ℕ → Type 0)
    (journal : Journal D) (batches : List (List (List ℕ))) : Type 0 where
  pub each : All IsBatch batches
  pub written : written_now moment written_at journal.store ≡ journal_of batches
  pub synced : IsSynced moment written_at left_at journal.store
  pub sum : journal.sum.text ≡ last_sum no_sum (map listed batches)
