-- The replies of a session, and what a crash leaves of its journal. `IsBetween` and `HasChanges` are internal: you need
-- not read them for the public contracts.
use Rattle.std.specs.Prelude.{◌≡◌, ◌≤◌, ℕ, List, [], ◌++◌, length, take, map, Option}
use Rattle.std.specs.List.{flat_map}
use Rattle.std.specs.Io.KnownBytes.{Appends}
use Rattle.journal_lines.specs.Journal.{RecoversTo, HasNoForged}
use Rattle.journal_serve.specs.declared.journal.Journal.{Journal}
use Rattle.journal_serve.specs.Journal.{IsOnDisk}
use Rattle.journal_serve.specs.declared.pending.Pending.{Pending}
use Rattle.journal_serve.specs.declared.turn.Turn.{Turn}
use Rattle.journal_serve.specs.Pieces.{Splits}
use Rattle.journal_serve.specs.Trace.{Exchange, lines_in, changes_in, replies_in, LeadsThrough}
use Rattle.journal_serve.specs.Turn.{kept_line, lines_taken, taken_line}

-- the commands of these batches, in their order
abbrev pub commands_of : List (List (List ℕ)) → List (List ℕ)
commands_of batches = flat_map (λ batch. batch) batches

-- known bytes grew by a beginning of this text
abbrev pub GrowsWithin : Option (List ℕ) → Option (List ℕ) → List ℕ → Type 0
GrowsWithin old new text = (n : ℕ) × Appends old new (take n text)

-- An input was served as far as these exchanges: step by step they lead from one state to another, their lines are the
-- first of the input's, and what was written is of their replies.
pub record HasServed {A : Type 0} (takes : A → Exchange → A → Type 0) (input : List ℕ)
    (before after : Option (List ℕ)) (old new : A) (trace : List Exchange) : Type 0 where
  pub leads : LeadsThrough takes old trace new
  pub others : List (List ℕ)
  pub are : lines_taken input ≡ lines_in trace ++ others
  pub told : GrowsWithin before after (replies_in trace)

-- These exchanges are those of each line of the input, and all of their replies were written.
pub record IsServed (input : List ℕ) (before after : Option (List ℕ)) (trace : List Exchange) : Type 0 where
  pub are : lines_taken input ≡ lines_in trace
  pub told : Appends before after (replies_in trace)

-- the content recovers to these commands, and the changes of the first `least` of these exchanges or of more
abbrev pub RecoversBeyond : List (List ℕ) → List Exchange → ℕ → List ℕ → Type 0
RecoversBeyond entries trace least content =
    (k : ℕ) × (least ≤ k) × (k ≤ length trace) × RecoversTo content (entries ++ changes_in (take k trace))

-- From one moment to another, what a crash leaves at each recovers to these commands and what the first of these
-- exchanges changed, if no line of it is forged.
abbrev pub EachRecovers : {D : Type 0} → (D → ℕ) → (D → ℕ → List ℕ) → (D → ℕ → List ℕ → Type 0) → List (List ℕ)
    → List Exchange → D → D → Type 0
EachRecovers {D} moment written_at left_at entries trace old new =
    (n : ℕ) (content : List ℕ) → moment old ≤ n → n ≤ moment new
    → left_at new n content → HasNoForged (written_at new n) content → RecoversBeyond entries trace 0 content

-- The first `safe` of these exchanges are safe: nothing was written but of their replies, what a crash now leaves has
-- what they changed, and at each moment of the call a crash left what the first of the exchanges changed, none skipped
-- and none in part. The content before the call is as it was.
pub record AreSafe {D : Type 0} (moment : D → ℕ) (written_at : D → ℕ → List ℕ) (left_at : D → ℕ → List ℕ → Type 0)
    (entries : List (List ℕ)) (trace : List Exchange) (before after : Option (List ℕ)) (old new : D)
    (safe : ℕ) : Type 0 where
  pub within : safe ≤ length trace
  pub told : GrowsWithin before after (replies_in (take safe trace))
  pub now : (content : List ℕ) → left_at new (moment new) content → HasNoForged (written_at new (moment new)) content
      → RecoversBeyond entries trace safe content
  pub any_moment : EachRecovers moment written_at left_at entries trace old new
  pub later : moment old ≤ moment new
  pub past : (n : ℕ) (content : List ℕ) → n ≤ moment old → left_at new n content → left_at old n content

-- Between two reads of a session, this text was read. Its lines were applied, and their replies written.
pub record IsBetween {A : Type 0} (takes : A → Exchange → A → Type 0) (text : List ℕ) (lines : List (List ℕ))
    (open_line : List ℕ) (trace : List Exchange)
    (first state : A) (before after : Option (List ℕ)) (pending : Pending) (turn : Turn) : Type 0 where
  pub splits : Splits text lines open_line
  pub held : pending.text.items ≡ kept_line open_line
  pub are : lines_in trace ≡ map taken_line lines
  pub leads : LeadsThrough takes first trace state
  pub told : Appends before after (replies_in trace)
  pub changed : turn.changed.items ≡ []
  pub replies : turn.replies.items ≡ []

-- The journal has what these exchanges changed, on the disk, and a crash at a moment since the old store left no more
-- than that.
pub record HasChanges {D : Type 0} (keeps_word : D → Type 0) (moment : D → ℕ) (written_at : D → ℕ → List ℕ)
    (left_at : D → ℕ → List ℕ → Type 0)
    (entries : List (List ℕ)) (trace : List Exchange) (old : D) (journal : Journal D) : Type 0 where
  pub batches : List (List (List ℕ))
  pub word : keeps_word journal.store
  pub on_disk : IsOnDisk moment written_at left_at journal batches
  pub are : commands_of batches ≡ entries ++ changes_in trace
  pub later : moment old ≤ moment journal.store
  pub any_moment : EachRecovers moment written_at left_at entries trace old journal.store
  pub before : (n : ℕ) (content : List ℕ) → n ≤ moment old → left_at journal.store n content → left_at old n content
