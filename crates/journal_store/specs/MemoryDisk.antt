-- A disk in memory, seen as a disk.
use Rattle.std.specs.Prelude.{ℕ, ◌-◌, List, length, slice_get}
use Rattle.journal_store.specs.declared.memory.MemoryDisk.{MemoryDisk}
use Rattle.journal_store.specs.Shot.{written_in, left_in, nameless_in, own_in}

-- its latest moment
abbrev pub memory_moment : MemoryDisk → ℕ
memory_moment disk = length disk.shots.items - 1

-- what was written by a moment
abbrev pub memory_written : MemoryDisk → ℕ → List ℕ
memory_written disk n = written_in (slice_get disk.shots.items n)

-- a crash at a moment may leave this
abbrev pub memory_left : MemoryDisk → ℕ → List ℕ → Type 0
memory_left disk n content = left_in (slice_get disk.shots.items n) content

-- a crash at a moment may leave no file under its name
abbrev pub memory_nameless : MemoryDisk → ℕ → Type 0
memory_nameless disk n = nameless_in (slice_get disk.shots.items n)

-- the place from which on all bytes were written through it
abbrev pub memory_own : MemoryDisk → ℕ
memory_own disk = own_in (slice_get disk.shots.items (memory_moment disk))
