use Rattle.std.proofs.Common.{refl}
use Rattle.journal_store.proofs.Files.{keeps_cut}
use Rattle.journal_store.proofs.file.FileStoreStore.cut.Goals as goal

pub returns-in-Ok-clause-word : goal.returns-in-Ok-clause-word
returns-in-Ok-clause-word g c kept =
    let disk = g.D.Disk in
    keeps_cut disk.keeps_word disk.moment disk.written_at disk.left_at disk.nameless_at disk.own_from c.args.self.now _ c.args.least kept (c.in-Ok.ensures.word kept.word) (c.cut.ensures.time kept.word)
    (c.in-Ok.ensures.written kept.word) (c.in-Ok.ensures.own kept.word) (c.in-Ok.ensures.within kept.word) (cc) (cc) refl
