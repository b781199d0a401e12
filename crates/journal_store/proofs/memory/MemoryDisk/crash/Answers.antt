use Rattle.std.proofs.Common.{sym, subst}
use Rattle.std.proofs.lemmas.Result.{IfOk-weaker}
use Rattle.std.proofs.lemmas.Option.{IfSome_then}
use Rattle.journal_store.specs.Shot.{left_in}
use Rattle.journal_store.proofs.memory.MemoryDisk.crash.Goals as goal

pub returns : goal.returns
returns c = IfOk-weaker c.crash.result _ _ (λ found is. IfSome_then found is (λ content left. subst (λ o. left_in o content.items) (sym c.present.ensures) left)) c.crash.ensures
