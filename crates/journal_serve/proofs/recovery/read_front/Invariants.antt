use Rattle.std.proofs.Common.{◌≡◌, length, take}
use Rattle.journal_store.specs.Store.{written_now}
use Rattle.journal_serve.specs.Recovery.{WasRead}
use Rattle.journal_serve.proofs.recovery.read_front.Given as goal

abbrev pub invariant-loop : goal.invariant-loop
invariant-loop g l = g.S.Store.keeps_word l.initial.store → g.S.Store.keeps_word l.store × WasRead g.S.Store.moment g.S.Store.written_at g.S.Store.left_at l.initial.store l.store
    × (l.text.items ≡ take (length l.text.items) (written_now g.S.Store.moment g.S.Store.written_at l.initial.store))
