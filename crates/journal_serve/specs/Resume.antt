-- A session over a journal that was recovered: what it told, and what a crash leaves.
use Rattle.std.specs.Prelude.{◌≤◌, ◌⊎◌, ℕ, List, ◌++◌, length, take, Option}
use Rattle.std.specs.Io.KnownBytes.{Keeps}
use Rattle.journal_lines.specs.Journal.{RecoversTo, HasNoForged}
use Rattle.journal_store.specs.Store.{MayLeave}
use Rattle.journal_serve.specs.Trace.{Exchange, replies_in}
use Rattle.journal_serve.specs.Session.{GrowsWithin, RecoversBeyond}

-- the content recovers to these commands, and maybe more behind them
abbrev pub HasAtLeast : List (List ℕ) → List ℕ → Type 0
HasAtLeast told content = (more : List (List ℕ)) × RecoversTo content (told ++ more)

-- The commands found, and the first `safe` of these exchanges, are safe: nothing was written but of their replies. If
-- something was, a crash now leaves what was found with what they changed. At each moment of the call a crash left what
-- it might have left before, or what was found with what the first of the exchanges changed.
pub record HasResumed {D : Type 0} (moment : D → ℕ) (written_at : D → ℕ → List ℕ) (left_at : D → ℕ → List ℕ → Type 0)
    (found : List (List ℕ)) (trace : List Exchange) (before after : Option (List ℕ)) (old new : D)
    (safe : ℕ) : Type 0 where
  pub within : safe ≤ length trace
  pub told : GrowsWithin before after (replies_in (take safe trace))
  pub now : (content : List ℕ) → left_at new (moment new) content → HasNoForged (written_at new (moment new)) content
      → RecoversBeyond found trace safe content ⊎ (Keeps before after × MayLeave moment left_at old content)
  pub any_moment : (n : ℕ) (content : List ℕ) → moment old ≤ n → n ≤ moment new → left_at new n content
      → HasNoForged (written_at new n) content
      → RecoversBeyond found trace 0 content ⊎ MayLeave moment left_at old content
