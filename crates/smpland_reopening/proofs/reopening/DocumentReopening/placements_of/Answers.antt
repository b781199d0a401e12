-- Both placements have the same roles.
use Rattle.std.proofs.Common.{◌∙◌, ◌<◌, ℕ, Bool, ap, length, map, subst, sym}
use Rattle.smpland_reopening.specs.Confirmed.{roles_in_order}
use Rattle.smpland_reopening.specs.RoleGrids.{role_at}
use Rattle.smpland_reopening.specs.Roles.{is_down_in}
use Rattle.smpland_reopening.specs.Settled.{IsPlacedBy}
use Rattle.smpland_reopening.proofs.Renumbered.{renumbered}
use Rattle.smpland_reopening.specs.Reopening.{IsReopening, ReopeningModel}
use Rattle.smpland_reopening.proofs.reopening.DocumentReopening.placements_of.Goals as goal

pub returns-clause-same : goal.returns-clause-same
returns-clause-same c room =
    renumbered c.args.self.now c.args.roles.now c.in_ok-down.down.items c.deref.result.now c.deref-2.result.now c.in_ok-settlement.settlement c.in_ok-next.next room
    (subst IsReopening c.self.view_is c.self.invariant) c.deref.ensures.value c.deref-2.ensures.value c.in_ok-settlement.ensures.cells
    (λ v h. c.in_ok-settlement.ensures.down v (subst (λ (r : ReopeningModel). v < length r.numbering.servers) (sym c.self.view_is) h))
    c.in_ok-next.ensures.servers c.in_ok-next.ensures.shards c.in_ok-next.ensures.eased c.in_ok-next.ensures.cells c.in_ok-next.ensures.down

pub returns-clause-kept : goal.returns-clause-kept
returns-clause-kept c =
    let r = c.args.self.now in
    subst (λ (f : ℕ → Bool). IsPlacedBy r.document.config (roles_in_order r (role_at c.args.roles.now)) (is_down_in (map f r.servers)) r.document.limit c.in_ok-next.next)
    (ap is_down_in c.deref-2.ensures.value ∙ c.in_ok-down.ensures) c.in_ok-next.ensures.placed
