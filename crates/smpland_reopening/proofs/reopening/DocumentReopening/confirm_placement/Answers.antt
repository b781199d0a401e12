-- A settlement that is confirmed is kept under both orders.
use Rattle.std.proofs.Common.{◌∙◌, ap, arith, refl, subst, sym}
use Rattle.sm_placement.specs.Layout.{place_of}
use Rattle.laws_network.specs.Reopening.{Confirm, Settlement, entered}
use Rattle.sm_reopening.specs.Faults.{MayConfirm}
use Rattle.sm_reopening.specs.Ongoing.{net_reopening}
use Rattle.smpland_reopening.specs.Reopening.{IsRenumbered, ReopeningModel}
use Rattle.smpland_reopening.proofs.Frames.{now_confirmed}
use Rattle.smpland_reopening.proofs.reopening.DocumentReopening.confirm_placement.Goals as goal

pub invariant_of-self : goal.invariant_of-self
invariant_of-self c =
    let log = c.self.inside.document.log in
    let s : Settlement = record { setup = c.args.settlement.setup; place = place_of c.args.settlement; room = log } in
    now_confirmed _ c.confirm.new.self s c.args.next c.self.invariant c.in-Ok.ensures.reopening c.in-Ok.ensures.same (record {
      same = subst (λ (r : ReopeningModel). IsRenumbered r.document.config r.shards r.servers s c.args.next) (sym c.self.view_is) (c.requires.same log);
      settled = c.requires.next_settled;
      room = omega (arith, c.if-log-down_count.false, c.down_count.ensures);
      most = omega (arith, c.if-log-gt-MOST_PLACES.false);
    })

pub returns-in-Ok-clause-confirmed : goal.returns-in-Ok-clause-confirmed
returns-in-Ok-clause-confirmed c =
    let s : Settlement = record { setup = c.args.settlement.setup; place = place_of c.args.settlement; room = c.self.inside.document.log } in (
      s,
      subst (λ (r : ReopeningModel). MayConfirm r.ongoing s) c.self.view_is c.in-Ok.ensures.may,
      c.in-Ok.ensures.reopening ∙ ap (λ (r : ReopeningModel). entered (Confirm s) (net_reopening r.ongoing)) c.self.view_is,
      refl,
      refl,
      ap (λ (r : ReopeningModel). r.document.log) c.self.view_is,
    )
