-- Permits stay, and what has begun is what is returned.
use Rattle.std.proofs.Common.{List, ℕ, arith, map, subst, sym}
use Rattle.sm_driver.specs.Orders.{epoch_base}
use Rattle.sm_reopening.specs.Ongoing.{net_reopening}
use Rattle.smpland_reopening.specs.Begun.{BeginsUnder}
use Rattle.smpland_reopening.proofs.Begun.{earlier_permits}
use Rattle.smpland_reopening.proofs.reopening.DocumentReopening.replace.Goals as goal

pub new-requires-clause-permits : goal.new-requires-clause-permits
new-requires-clause-permits c = earlier_permits (epoch_base c.args.self.now.epoch) (epoch_base c.args.epoch) c.in-Ok.kept.permits.items c.in-Ok.ensures.earlier (omega (arith, c.requires))

pub returns-in-Ok-clause-over : goal.returns-in-Ok-clause-over
returns-in-Ok-clause-over c =
    let lost : List (List ℕ) = map (λ n. n.now) c.args.lost.now in
    subst (λ o. BeginsUnder (net_reopening c.args.self.now.ongoing) c.args.self.now.numbering c.args.document.config c.new.result.numbering lost c.args.epoch o) (sym c.new.ensures.ongoing)
    (subst (λ n. BeginsUnder (net_reopening c.args.self.now.ongoing) c.args.self.now.numbering c.args.document.config n lost c.args.epoch c.in-Ok.begun.ongoing) (sym c.new.ensures.numbering) c.in-Ok.ensures.over)

pub returns-in-Ok-clause-numbered : goal.returns-in-Ok-clause-numbered
returns-in-Ok-clause-numbered c = c.new.ensures.numbered c.args.self.now.numbering c.in-Ok.ensures.numbered
