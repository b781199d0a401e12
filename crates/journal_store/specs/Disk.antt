-- A file on a disk and its name: what calls do to them, and what a crash may leave of both.
use Rattle.std.specs.Prelude.{◌≡◌, ◌≤◌, ◌<◌, ◌⊎◌, ◌-◌, ℕ, List, [], ◌++◌, length, take, drop}
use Rattle.journal_store.specs.Store.{written_now, MayLeave, Passes}

-- Time went on in a call as for a store's bytes, and in no new moment a name may be missing that could not be missing
-- before.
pub record DiskPasses {D : Type 0} (moment : D → ℕ) (written_at : D → ℕ → List ℕ) (left_at : D → ℕ → List ℕ → Type 0)
    (nameless_at : D → ℕ → Type 0) (old new : D) (text : List ℕ)
    (told : List ℕ → Type 0) : Type 0 where
  pub bytes : Passes moment written_at left_at old new text told
  pub before : (n : ℕ) → n ≤ moment old → nameless_at new n → nameless_at old n
  pub kept : (n : ℕ) → n ≤ moment old → nameless_at old n → nameless_at new n
  pub each : (n : ℕ) → moment old < n → n ≤ moment new → nameless_at new n → nameless_at old (moment old)

-- what is on a disk once the bytes of a text from a place on were brought there: in front of them it is as it was
abbrev pub IsBrought : ℕ → List ℕ → List ℕ → List ℕ → Type 0
IsBrought from text before content = content ≡ take from before ++ drop from text

-- the first bytes of what was written, up to a place, are on the disk
abbrev pub IsFirm : {D : Type 0} → (D → ℕ) → (D → ℕ → List ℕ) → (D → ℕ → List ℕ → Type 0) → D → ℕ → Type 0
IsFirm moment written_at left_at disk place = (content : List ℕ) → MayLeave moment left_at disk content
    → take place content ≡ take place (written_now moment written_at disk)

-- all that was written but its last bytes, as many as `last`, is on the disk
abbrev pub IsFirmBut : {D : Type 0} → (D → ℕ) → (D → ℕ → List ℕ) → (D → ℕ → List ℕ → Type 0) → D → ℕ → Type 0
IsFirmBut moment written_at left_at disk last =
    IsFirm moment written_at left_at disk (length (written_now moment written_at disk) - last)

-- a crash at a moment may leave this under the file's name: a content of the file, or nothing if the name may be
-- missing
abbrev pub file_left : {D : Type 0} → (D → ℕ → List ℕ → Type 0) → (D → ℕ → Type 0) → D → ℕ → List ℕ → Type 0
file_left left_at nameless_at disk n content = left_at disk n content ⊎ (nameless_at disk n × (content ≡ []))
