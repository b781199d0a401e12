use Rattle.journal_serve.proofs.StoreSteps.{end_cut, end_synced}
use Rattle.journal_serve.proofs.recovery.cut_end.Goals as goal

pub returns-in_err-cut-clause-keeps : goal.returns-in_err-cut-clause-keeps
returns-in_err-cut-clause-keeps g c word synced batches one size =
    end_cut g.S.Store.moment g.S.Store.written_at g.S.Store.left_at c.args.store.now c.cut.new.self synced batches c.args.whole one size (c.cut.ensures.time word)

pub returns-clause-keeps : goal.returns-clause-keeps
returns-clause-keeps g c word synced batches one size =
    end_synced g.S.Store.moment g.S.Store.written_at g.S.Store.left_at c.args.store.now c.cut.new.self synced batches c.args.whole one size (c.cut.ensures.time word)
    c.sync.new.self (c.in_ok-cut.ensures.written word) (c.sync.ensures.time (c.in_ok-cut.ensures.word word))
