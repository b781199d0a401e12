-- Recovery: the effect on a store, and the content that a crash leaves meanwhile. `StartsAs`, `ComesNext`, `IsFront`,
-- `WasRead` and `HasReplayed` are internal: you need not read them for the public contracts.
use Rattle.std.specs.Prelude.{◌≡◌, ◌≤◌, ◌<◌, ◌⊎◌, ◌+◌, ℕ, List, [], ◌∷◌, ◌++◌, length, take, drop, All}
use Rattle.journal_lines.specs.declared.reading.Reading.{Reading}
use Rattle.journal_lines.specs.Objects.{IsBatch}
use Rattle.journal_lines.specs.Lines.{head}
use Rattle.journal_lines.specs.Journal.{journal_of, RecoversTo, IsForeign}
use Rattle.journal_lines.specs.Reading.{Reads}
use Rattle.journal_store.specs.Store.{written_now, MayLeave, Passes}
use Rattle.journal_serve.specs.declared.applies.Applied.TheVariants.{Unchanged}
use Rattle.journal_serve.specs.declared.recovery.Beginning.{Beginning}
use Rattle.journal_serve.specs.declared.recovery.Beginning.TheVariants.{Head, Other, NotBegun}
use Rattle.journal_serve.specs.Trace.{Exchange, exchange, ReplaysCommands}
use Rattle.journal_serve.specs.Session.{commands_of}

-- the content is this text, or both recover to the same commands
abbrev pub IsSameJournal : List ℕ → List ℕ → Type 0
IsSameJournal text content =
    (content ≡ text) ⊎ ((entries : List (List ℕ)) × RecoversTo text entries × RecoversTo content entries)

-- Time went on in a recovery: what was before is as it was; in each new moment the store has the same journal, and a
-- crash leaves what it might have left before, or the same journal.
pub record KeepsJournal {D : Type 0} (moment : D → ℕ) (written_at : D → ℕ → List ℕ)
    (left_at : D → ℕ → List ℕ → Type 0) (old new : D) : Type 0 where
  pub later : moment old ≤ moment new
  pub texts : (n : ℕ) → n ≤ moment old → written_at new n ≡ written_at old n
  pub before : (n : ℕ) (content : List ℕ) → n ≤ moment old → left_at new n content → left_at old n content
  pub written : (n : ℕ) → moment old < n → n ≤ moment new
      → IsSameJournal (written_now moment written_at old) (written_at new n)
  pub each : (n : ℕ) (content : List ℕ) → moment old < n → n ≤ moment new → left_at new n content
      → MayLeave moment left_at old content ⊎ IsSameJournal (written_now moment written_at old) content

-- Once these commands were replayed, and then the first of those, the next of those may be applied and told as
-- unchanged.
pub record HasUnchanged {A : Type 0} (takes : A → Exchange → A → Type 0) (first : A)
    (entries commands : List (List ℕ)) : Type 0 where
  pub front : List (List ℕ)
  pub command : List ℕ
  pub others : List (List ℕ)
  pub are : commands ≡ front ++ command ∷ others
  pub reached : A
  pub replayed : ReplaysCommands takes (entries ++ front) first reached
  pub reply : List ℕ
  pub next : A
  pub unchanged : takes reached (exchange command Unchanged reply) next

-- The line of this number goes on from those before it, and a command on it may be applied and told as unchanged, once
-- the commands before it were replayed.
pub record IsUnfit {A : Type 0} (takes : A → Exchange → A → Type 0) (first : A) (content : List ℕ)
    (number : ℕ) : Type 0 where
  pub batches : List (List (List ℕ))
  pub commands : List (List ℕ)
  pub rest : List ℕ
  pub each : All IsBatch batches
  pub batch : IsBatch commands
  pub is : content ≡ journal_of (batches ++ commands ∷ []) ++ rest
  pub at : number ≡ length batches + 2
  pub one : HasUnchanged takes first (commands_of batches) commands

-- a text begins like this
abbrev pub StartsAs : List ℕ → Beginning → Type 0
StartsAs text Head = take (length head) text ≡ head
StartsAs text Other = IsForeign text
StartsAs text NotBegun = length text ≤ length head

-- these bytes of a text stand from a place on; none only behind its end
pub record ComesNext (text : List ℕ) (at : ℕ) (bytes : List ℕ) : Type 0 where
  pub is : bytes ≡ take (length bytes) (drop at text)
  pub within : length bytes ≤ length (drop at text)
  pub last : length bytes ≡ 0 → length text ≤ at

-- a text begins with this front, which is the whole text or has more than `most` bytes
pub record IsFront (text : List ℕ) (most : ℕ) (front : List ℕ) : Type 0 where
  pub is : front ≡ take (length front) text
  pub within : length front ≤ length text
  pub long : (length text ≤ length front) ⊎ (most < length front)

-- a store was read, and is as it was
pub record WasRead {D : Type 0} (moment : D → ℕ) (written_at : D → ℕ → List ℕ) (left_at : D → ℕ → List ℕ → Type 0)
    (old new : D) : Type 0 where
  pub same : written_now moment written_at new ≡ written_now moment written_at old
  pub time : Passes moment written_at left_at old new (written_now moment written_at old) (MayLeave moment left_at old)

-- the first `at` bytes of a text were read: the head, lines with these batches, and an open line
pub record HasReplayed (text : List ℕ) (at : ℕ) (reading : Reading) (batches : List (List (List ℕ)))
    (open_line : List ℕ) : Type 0 where
  pub lines : List ℕ
  pub reads : Reads reading lines batches
  pub is : take at text ≡ head ++ (lines ++ open_line)
  pub within : at ≤ length text
