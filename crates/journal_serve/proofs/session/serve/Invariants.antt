use Rattle.std.proofs.Common.{ℕ, List}
use Rattle.std.specs.Io.KnownBytes.{Consumes}
use Rattle.journal_serve.specs.Journal.{IsOnDisk}
use Rattle.journal_serve.specs.Trace.{Exchange}
use Rattle.journal_serve.specs.Session.{commands_of, IsBetween, HasChanges}
use Rattle.journal_serve.proofs.session.serve.Given as goal

abbrev pub invariant-loop : goal.invariant-loop
invariant-loop g l = (text : List ℕ) × (lines : List (List ℕ)) × (open_line : List ℕ) × (trace : List Exchange)
    × Consumes (g.R.Read.remaining l.initial.reader) (g.R.Read.remaining l.reader) text
    × IsBetween g.A.Applies.takes text lines open_line trace l.initial.state l.state (g.W.Write.contents l.initial.writer) (g.W.Write.contents l.writer) l.pending l.turn
    × ((batches : List (List (List ℕ))) → g.S.Store.keeps_word l.initial.journal.store → IsOnDisk g.S.Store.moment g.S.Store.written_at g.S.Store.left_at l.initial.journal batches
    → HasChanges g.S.Store.keeps_word g.S.Store.moment g.S.Store.written_at g.S.Store.left_at (commands_of batches) trace l.initial.journal.store l.journal)
