use Rattle.std.proofs.Common.{◌≡◌, ◌+◌, ◌≤◌, ℕ, List, [], length, take}
use Rattle.journal_lines.specs.Lines.{head}
use Rattle.journal_lines.specs.Reading.{Reads}
use Rattle.journal_store.specs.Store.{written_now}
use Rattle.journal_serve.specs.Trace.{ReplaysCommands}
use Rattle.journal_serve.specs.Session.{commands_of}
use Rattle.journal_serve.specs.Recovery.{WasRead, HasReplayed}
use Rattle.journal_serve.proofs.recovery.replay.Given as goal

abbrev pub invariant-loop : goal.invariant-loop
invariant-loop g l = (l.reading.end + length l.pending.text.items ≤ l.at)
    × (g.S.Store.keeps_word l.initial.store → g.S.Store.keeps_word l.store × WasRead g.S.Store.moment g.S.Store.written_at g.S.Store.left_at l.initial.store l.store)
    × (commands : List (List ℕ)) × ReplaysCommands g.A.Applies.takes commands l.initial.state l.state
    × (g.S.Store.keeps_word l.initial.store → take (length head) (written_now g.S.Store.moment g.S.Store.written_at l.initial.store) ≡ head → Reads l.initial.reading [] []
    → (batches : List (List (List ℕ))) × HasReplayed (written_now g.S.Store.moment g.S.Store.written_at l.initial.store) l.at l.reading batches l.pending.text.items
    × (commands_of batches ≡ commands))
