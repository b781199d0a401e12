use Rattle.std.proofs.Common.{◌≡◌, ℕ, ◌+◌, ◌≤◌, List, ◌++◌, length}
use Rattle.journal_lines.specs.Reading.{Reads}
use Rattle.journal_serve.specs.Trace.{ReplaysCommands}
use Rattle.journal_serve.specs.Session.{commands_of}
use Rattle.journal_serve.proofs.replay.replay_piece.Given as goal

abbrev pub invariant-loop-used : goal.invariant-loop-used
invariant-loop-used g l = (l.reading.end + length l.pending.text.items + length l.rest ≤ l.initial.reading.end + length l.initial.pending.text.items + length l.initial.rest)
    × (commands : List (List ℕ)) × ReplaysCommands g.A.Applies.takes commands l.initial.state l.state
    × ((text : List ℕ) (batches : List (List (List ℕ))) → Reads l.initial.reading text batches
    → (read : List ℕ) × (next : List (List (List ℕ))) × (text ++ (l.initial.pending.text.items ++ l.initial.rest) ≡ read ++ (l.pending.text.items ++ l.rest)) × Reads l.reading read next
    × (commands_of next ≡ commands_of batches ++ commands))

abbrev pub decreases-loop-used : goal.decreases-loop-used
decreases-loop-used g l = length l.rest
