-- A store in a file, while it keeps its word.
use Rattle.std.specs.Prelude.{◌≡◌, ◌≤◌, ℕ, List, length, true, false}
use Rattle.journal_store.specs.Store.{written_now}
use Rattle.journal_store.specs.Disk.{IsFirm, IsFirmBut}
use Rattle.journal_store.specs.declared.file.FileStore.{FileStore}

-- Its disk keeps its word. Before the first sync all but the last 8 MiB is on the disk, and then all that was not
-- written through it. So is the file's name, once the folder was synced.
pub record KeepsFile {D : Type 0} (keeps_word : D → Type 0) (moment : D → ℕ) (written_at : D → ℕ → List ℕ)
    (left_at : D → ℕ → List ℕ → Type 0) (nameless_at : D → ℕ → Type 0) (own_from : D → ℕ)
    (store : FileStore D) : Type 0 where
  pub word : keeps_word store.disk
  pub first : store.is_renewed ≡ false → IsFirmBut moment written_at left_at store.disk 8388608
  pub firm : store.is_renewed ≡ true → IsFirm moment written_at left_at store.disk (own_from store.disk)
  pub within : store.is_renewed ≡ true → own_from store.disk ≤ length (written_now moment written_at store.disk)
  pub named : store.is_named ≡ true → nameless_at store.disk (moment store.disk) → ⊥
