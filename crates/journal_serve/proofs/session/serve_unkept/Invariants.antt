use Rattle.std.proofs.Common.{ℕ, List}
use Rattle.std.specs.Io.KnownBytes.{Consumes}
use Rattle.journal_serve.specs.Trace.{Exchange}
use Rattle.journal_serve.specs.Session.{IsBetween}
use Rattle.journal_serve.proofs.session.serve_unkept.Given as goal

abbrev pub invariant-loop : goal.invariant-loop
invariant-loop g l = (text : List ℕ) × (lines : List (List ℕ)) × (open_line : List ℕ) × (trace : List Exchange)
    × Consumes (g.R.Read.remaining l.initial.reader) (g.R.Read.remaining l.reader) text
    × IsBetween g.A.Applies.takes text lines open_line trace l.initial.state l.state (g.W.Write.contents l.initial.writer) (g.W.Write.contents l.writer) l.pending l.turn
