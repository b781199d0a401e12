-- The lines of a turn of a session. `Took` and `TookText` are internal: you need not read them for the public
-- contracts.
use Rattle.std.specs.Prelude.{◌≡◌, ℕ, ◌-◌, List, ◌++◌, All, drop, if◌then◌else◌, length, map, nat_lt, take}
use Rattle.std.specs.Char.{is_ascii_whitespace}
use Rattle.std.specs.List.{prefix_len, suffix_len}
use Rattle.journal_lines.specs.Objects.{IsObject, behind_commas}
use Rattle.journal_serve.specs.declared.pending.Pending.{Pending}
use Rattle.journal_serve.specs.declared.turn.Turn.{Turn}
use Rattle.journal_serve.specs.Pieces.{Splits, lines_of}
use Rattle.journal_serve.specs.Trace.{Exchange, lines_in, changes_in, replies_in, LeadsThrough}

-- a line as far as it is kept: its first 64 MiB, and one byte that tells that there are more
abbrev pub kept_line : List ℕ → List ℕ
kept_line line = take 67108865 line

-- a text without the blanks at its front
abbrev pub without_front : List ℕ → List ℕ
without_front text = drop (prefix_len is_ascii_whitespace text) text

-- a text without the blanks at its end
abbrev pub without_end : List ℕ → List ℕ
without_end text = take (length text - suffix_len is_ascii_whitespace text) text

-- a text without the blanks around it
abbrev pub bare : List ℕ → List ℕ
bare text = without_end (without_front text)

-- what is applied of a line that is kept: it without the blanks around it, and all of one that is too long
abbrev pub bare_line : List ℕ → List ℕ
bare_line line = if nat_lt (length line) 67108865 then bare line else line

-- the line as it is applied
abbrev pub taken_line : List ℕ → List ℕ
taken_line line = bare_line (kept_line line)

-- the lines of a text, each as it is applied
abbrev pub lines_taken : List ℕ → List (List ℕ)
lines_taken text = map taken_line (lines_of text)

-- Lines were applied: behind what the turn had, it has their replies, and those of them that changed something.
pub record Took (trace : List Exchange) (old new : Turn) : Type 0 where
  pub replies : new.replies.items ≡ old.replies.items ++ replies_in trace
  pub changed : new.changed.items ≡ old.changed.items ++ behind_commas (changes_in trace)
  pub objects : All IsObject (changes_in trace)

-- A text was read as these lines and an open one: the lines were applied, and the open one is pending.
pub record TookText {A : Type 0} (takes : A → Exchange → A → Type 0) (text : List ℕ) (lines : List (List ℕ))
    (open_line : List ℕ) (trace : List Exchange)
    (pending : Pending) (first state : A) (old new : Turn) : Type 0 where
  pub splits : Splits text lines open_line
  pub held : pending.text.items ≡ kept_line open_line
  pub are : lines_in trace ≡ map taken_line lines
  pub leads : LeadsThrough takes first trace state
  pub took : Took trace old new
