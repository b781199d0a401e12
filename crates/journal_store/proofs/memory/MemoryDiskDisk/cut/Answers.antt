use Rattle.std.proofs.Common.{take, refl, sym, ◌∙◌, ap, arith}
use Rattle.std.proofs.lemmas.Result.{on_ok_weaker}
use Rattle.journal_store.proofs.Shots.{passes_on, passes_same, leads_on, own_push}
use Rattle.journal_store.specs.Store.{IsCut}
use Rattle.journal_store.specs.Shot.{written_in, own_in}
use Rattle.journal_store.proofs.memory.MemoryDiskDisk.cut.Goals as goal

pub returns-in_err-next-clause-time : goal.returns-in_err-next-clause-time
returns-in_err-next-clause-time c word = passes_same c.args.self.now c.args.self.now _ _ refl

pub returns-clause-time : goal.returns-clause-time
returns-clause-time c word = passes_on c.args.self.now _ c.present.result.now c.in_ok-next.next _ _ c.args.self.now.some c.present.ensures c.go_on.ensures.shots
    (c.in_ok-next.ensures.written ∙ ap (λ o. take c.args.least (written_in o)) (sym c.present.ensures))
    (λ content left. leads_on _ c.present.result.now (IsCut c.args.least) content c.present.ensures (c.in_ok-next.ensures.left content left))
    (λ not. sym c.in_ok-next.ensures.named ∙ not)

pub returns-clause-own : goal.returns-clause-own
returns-clause-own c word = on_ok_weaker c.go_on.result (λ pushed. omega (arith, own_push c.go_on.new.self c.args.self.now.shots.items c.in_ok-next.next pushed, c.in_ok-next.ensures.own, ap own_in c.present.ensures)) c.go_on.ensures.ok

pub returns-clause-within : goal.returns-clause-within
returns-clause-within c word = on_ok_weaker c.go_on.result (λ pushed. omega (arith, own_push c.go_on.new.self c.args.self.now.shots.items c.in_ok-next.next pushed, c.in_ok-next.ensures.short)) c.go_on.ensures.ok
