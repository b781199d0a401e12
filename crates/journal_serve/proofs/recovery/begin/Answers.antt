use Rattle.journal_serve.proofs.StoreSteps.{begin_cut, begin_sync, begin_append, begin_done}
use Rattle.journal_serve.proofs.recovery.begin.Goals as goal

pub returns-in_err-cut-clause-keeps : goal.returns-in_err-cut-clause-keeps
returns-in_err-cut-clause-keeps g c word synced short =
    begin_cut g.S.Store.moment g.S.Store.written_at g.S.Store.left_at c.args.store.now c.cut.new.self synced short (c.cut.ensures.time word)

pub returns-in_err-sync-clause-keeps : goal.returns-in_err-sync-clause-keeps
returns-in_err-sync-clause-keeps g c word synced short =
    begin_sync g.S.Store.moment g.S.Store.written_at g.S.Store.left_at c.args.store.now c.cut.new.self synced short (c.cut.ensures.time word)
    c.sync.new.self (c.in_ok-cut.ensures.written word) (c.sync.ensures.time (c.in_ok-cut.ensures.word word))

pub returns-in_err-append-clause-keeps : goal.returns-in_err-append-clause-keeps
returns-in_err-append-clause-keeps g c word synced short =
    let cut_word = c.in_ok-cut.ensures.word word in
    let sync_word = c.in_ok-sync.ensures.word cut_word in
    begin_append g.S.Store.moment g.S.Store.written_at g.S.Store.left_at c.args.store.now c.cut.new.self synced short (c.cut.ensures.time word)
    c.sync.new.self (c.in_ok-cut.ensures.written word) (c.sync.ensures.time cut_word)
    c.append.new.self c.journal_head.result.now (c.in_ok-sync.ensures.synced cut_word) (c.sync.ensures.written cut_word) c.journal_head.ensures (c.append.ensures.time sync_word)

pub returns-clause-keeps : goal.returns-clause-keeps
returns-clause-keeps g c word synced short =
    let cut_word = c.in_ok-cut.ensures.word word in
    let sync_word = c.in_ok-sync.ensures.word cut_word in
    begin_done g.S.Store.moment g.S.Store.written_at g.S.Store.left_at c.args.store.now c.cut.new.self synced short (c.cut.ensures.time word)
    c.sync.new.self (c.in_ok-cut.ensures.written word) (c.sync.ensures.time cut_word)
    c.append.new.self c.journal_head.result.now (c.in_ok-sync.ensures.synced cut_word) (c.sync.ensures.written cut_word) c.journal_head.ensures (c.append.ensures.time sync_word)
    c.sync-2.new.self (c.in_ok-append.ensures.written sync_word) (c.sync-2.ensures.time (c.in_ok-append.ensures.word sync_word))
