-- The confirmed settlement is that of the roles that were chosen.
use Rattle.std.proofs.Common.{◌∙◌, ap, subst}
use Rattle.sm_placement.specs.Layout.{place_of}
use Rattle.smpland_reopening.specs.Confirmed.{down_in_order, is_down_next, roles_in_order}
use Rattle.smpland_reopening.specs.Roles.{cell_by_role}
use Rattle.smpland_reopening.specs.Settled.{IsPlacedBy, RolesGiven}
use Rattle.smpland_reopening.proofs.Chosen.{confirmed_as, kept_as}
use Rattle.smpland_reopening.proofs.reopening.DocumentReopening.confirm.Goals as goal

pub returns-clause-confirmed : goal.returns-clause-confirmed
returns-clause-confirmed c =
    let r = c.args.self.now in
    confirmed_as r c.confirm_placement.new.self c.args.chosen.now c.in_ok-settlement.settlement c.confirm_placement.result c.confirm_placement.ensures.confirmed
    (λ s v k l. c.in_ok-settlement.ensures.cells s v ∙ ap cell_by_role (c.in_ok-roles.ensures.roles s v k l))
    (subst (λ (f : RolesGiven). IsPlacedBy r.numbering f (is_down_next r) r.document.limit c.in_ok-settlement.settlement) c.in_ok-roles.ensures.all
    c.in_ok-settlement.ensures.placed)

pub returns-clause-kept : goal.returns-clause-kept
returns-clause-kept c =
    let r = c.args.self.now in
    kept_as r c.confirm_placement.new.self c.args.chosen.now c.in_ok-settlement.next c.confirm_placement.result c.confirm_placement.ensures.next
    (subst (λ (f : RolesGiven). IsPlacedBy r.document.config (roles_in_order r f) (down_in_order r) r.document.limit c.in_ok-settlement.next) c.in_ok-roles.ensures.all
    c.in_ok-settlement.ensures.kept)
