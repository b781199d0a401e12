use Rattle.std.proofs.Common.{◌∙◌}
use Rattle.journal_store.proofs.Files.{renew_passes, renewed_sync}
use Rattle.journal_store.proofs.file.FileStoreStore.sync.Goals as goal

pub returns-in_err-renew-clause-time : goal.returns-in_err-renew-clause-time
returns-in_err-renew-clause-time g c kept =
    let disk = g.D.Disk in
    renew_passes disk.moment disk.written_at disk.left_at disk.nameless_at c.args.self.now c.renew.new.self (c.renew.ensures.time kept.word)

pub returns-clause-time : goal.returns-clause-time
returns-clause-time g c kept =
    let disk = g.D.Disk in
    renewed_sync disk.moment disk.written_at disk.left_at disk.nameless_at c.args.self.now c.renew.new.self c.sync_renewed.new.self (c.renew.ensures.time kept.word) (c.renew.ensures.same kept.word)
    (c.sync_renewed.ensures.time (c.in_ok-renew.ensures.word kept))

pub returns-clause-written : goal.returns-clause-written
returns-clause-written g c kept = c.sync_renewed.ensures.written (c.in_ok-renew.ensures.word kept).word ∙ c.renew.ensures.same kept.word
