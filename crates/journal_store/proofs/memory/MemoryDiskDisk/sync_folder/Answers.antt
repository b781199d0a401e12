use Rattle.std.proofs.Common.{refl, sym, ◌∙◌, ap, subst}
use Rattle.std.proofs.lemmas.Result.{on_ok_weaker}
use Rattle.journal_store.proofs.Shots.{passes_on, passes_same, nameless_push, own_push}
use Rattle.journal_store.specs.Shot.{written_in, left_in, own_in}
use Rattle.journal_store.proofs.memory.MemoryDiskDisk.sync_folder.Goals as goal

pub returns-in_err-next-clause-time : goal.returns-in_err-next-clause-time
returns-in_err-next-clause-time c word = passes_same c.args.self.now c.args.self.now _ _ refl

pub returns-clause-time : goal.returns-clause-time
returns-clause-time c word = passes_on c.args.self.now _ c.present.result.now c.in_ok-next.next _ _ c.args.self.now.some c.present.ensures c.go_on.ensures.shots
    (c.in_ok-next.ensures.written ∙ ap written_in (sym c.present.ensures))
    (λ content left. subst (λ o. left_in o content) (sym c.present.ensures) (c.in_ok-next.ensures.left content left))
    (λ not. let is = c.in_ok-next.ensures.named in absurd (cc))

pub returns-clause-named : goal.returns-clause-named
returns-clause-named c word = on_ok_weaker c.go_on.result (λ pushed nameless. let not = nameless_push c.go_on.new.self c.args.self.now.shots.items c.in_ok-next.next pushed nameless in let is = c.in_ok-next.ensures.named in cc) c.go_on.ensures.ok

pub returns-clause-own : goal.returns-clause-own
returns-clause-own c word = on_ok_weaker c.go_on.result (λ pushed. own_push c.go_on.new.self c.args.self.now.shots.items c.in_ok-next.next pushed ∙ c.in_ok-next.ensures.own ∙ ap own_in (sym c.present.ensures)) c.go_on.ensures.ok
