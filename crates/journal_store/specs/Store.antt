-- The effects of a store's calls on its bytes, and what a crash may leave of them, moment by moment. A moment is a
-- number that does not fall; a call takes one or more, or none. A store is seen by three functions: its latest moment,
-- what was written by a moment, and what a crash at a moment may leave.
use Rattle.std.specs.Prelude.{◌≡◌, ◌≤◌, ◌<◌, ℕ, List, ◌++◌, length, take, drop}

-- what was written by now
abbrev pub written_now : {D : Type 0} → (D → ℕ) → (D → ℕ → List ℕ) → D → List ℕ
written_now moment written_at store = written_at store (moment store)

-- a crash now may leave this
abbrev pub MayLeave : {D : Type 0} → (D → ℕ) → (D → ℕ → List ℕ → Type 0) → D → List ℕ → Type 0
MayLeave moment left_at store content = left_at store (moment store) content

-- a crash now leaves what was written, and nothing else
abbrev pub IsSynced : {D : Type 0} → (D → ℕ) → (D → ℕ → List ℕ) → (D → ℕ → List ℕ → Type 0) → D → Type 0
IsSynced moment written_at left_at store =
    (content : List ℕ) → left_at store (moment store) content → content ≡ written_at store (moment store)

-- Time went on in a call: what was before is as it was, and in each new moment this text was written, and a crash may
-- leave only what is told.
pub record Passes {D : Type 0} (moment : D → ℕ) (written_at : D → ℕ → List ℕ) (left_at : D → ℕ → List ℕ → Type 0)
    (old new : D) (text : List ℕ) (told : List ℕ → Type 0) : Type 0 where
  pub later : moment old ≤ moment new
  pub texts : (n : ℕ) → n ≤ moment old → written_at new n ≡ written_at old n
  pub before : (n : ℕ) (content : List ℕ) → n ≤ moment old → left_at new n content → left_at old n content
  pub kept : (n : ℕ) (content : List ℕ) → n ≤ moment old → left_at old n content → left_at new n content
  pub written : (n : ℕ) → moment old < n → n ≤ moment new → written_at new n ≡ text
  pub each : (n : ℕ) (content : List ℕ) → moment old < n → n ≤ moment new → left_at new n content → told content

-- what an append of these bytes may leave of a content before it: any bytes in their range, or a part of it
abbrev pub IsTorn : List ℕ → List ℕ → List ℕ → Type 0
IsTorn bytes before content = (torn : List ℕ) × (length torn ≤ length bytes) × (content ≡ before ++ torn)

-- what a cut to this length may leave of a content before it: no less
abbrev pub IsCut : ℕ → List ℕ → List ℕ → Type 0
IsCut least before content = (most : ℕ) × (least ≤ most) × (content ≡ take most before)

-- some content that may have been left before leads to this one
abbrev pub StepsTo : (List ℕ → Type 0) → (List ℕ → List ℕ → Type 0) → List ℕ → Type 0
StepsTo left step content = (before : List ℕ) × left before × step before content

-- n bytes of the text, from a place on, stand at the front of a piece; none only behind its end, or if there is no room
pub record IsPiece (text : List ℕ) (at : ℕ) (piece : List ℕ) (n : ℕ) : Type 0 where
  pub bytes : take n piece ≡ take n (drop at text)
  pub within : n ≤ length (drop at text)
  pub none : n ≡ 0 → 0 < length piece → length text ≤ at
