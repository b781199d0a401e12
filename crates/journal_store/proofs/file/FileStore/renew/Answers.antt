use Rattle.std.proofs.Common.{refl}
use Rattle.journal_store.proofs.Files.{keeps_renew}
use Rattle.journal_store.proofs.file.FileStore.renew.Goals as goal

pub returns-clause-word : goal.returns-clause-word
returns-clause-word g c kept =
    let disk = g.D.Disk in
    keeps_renew disk.keeps_word disk.moment disk.written_at disk.left_at disk.nameless_at disk.own_from c.args.self.now _ kept (c.in_ok-renew.ensures.word kept.word) (c.renew.ensures.time kept.word)
    (c.renew.ensures.same kept.word) (c.in_ok-renew.ensures.own kept.word) c.if-self.false refl refl
