use Rattle.std.proofs.Common.{◌≡◌, ℕ, List, ◌++◌, length}
use Rattle.journal_serve.specs.Pieces.{IsOneLine}
use Rattle.journal_serve.specs.Trace.{Exchange}
use Rattle.journal_serve.specs.Turn.{kept_line, TookText}
use Rattle.journal_serve.proofs.turn.Turn.take_piece.Given as goal

abbrev pub invariant-loop-used : goal.invariant-loop-used
invariant-loop-used g l = (raw : List ℕ) → IsOneLine raw → l.initial.pending.text.items ≡ kept_line raw
    → (text : List ℕ) × (lines : List (List ℕ)) × (open_line : List ℕ) × (trace : List Exchange) × (raw ++ l.initial.rest ≡ text ++ l.rest)
    × TookText g.A.Applies.takes text lines open_line trace l.pending l.initial.state l.state l.initial.self l.self

abbrev pub decreases-loop-used : goal.decreases-loop-used
decreases-loop-used g l = length l.rest
