-- The next epoch.
use Rattle.std.proofs.Common.{◌≡◌, ◌∙◌, None, sym, ap, subst, ◌≤◌, length, arith}
use Rattle.std.specs.Prelude.{◌==◌, slice_get}
use Rattle.std.proofs.lemmas.Bool.{eqb-false}
use Rattle.sm_placement.specs.Setup.{Sizes, sizes_of}
use Rattle.sm_placement.specs.Place.{Place}
use Rattle.sm_placement.specs.Layout.{PlacementModel, place_of}
use Rattle.sm_placement.specs.Lead.{IsSettled}
use Rattle.sm_plan_code.specs.declared.limits.TheConstants.{MOST_PLACES}
use Rattle.sm_protocol.specs.State.{State}
use Rattle.sm_protocol.specs.Next.{unfinished_plans}
use Rattle.sm_machine.specs.State.{state_of}
use Rattle.sm_driver.specs.Driver.{DriverModel, record_of}
use Rattle.sm_driver.specs.Epochs.{last_epoch, shard_spent}
use Rattle.sm_driver.proofs.AtRest.{are_done, no_fault, rest_is_settled}
use Rattle.sm_driver.proofs.Driving.{epoch_driving, within_places}
use Rattle.sm_driver.proofs.driver.Driver.new_epoch.Goals as goal

pub open-requires : goal.open-requires
open-requires c =
    let d : DriverModel = c.args.self.now in
    let w : State = state_of c.machine-machine.result.now in
    let is : record_of d ≡ w = ap state_of (sym c.machine-machine.ensures) in
    let parts = no_fault (slice_get (unfinished_plans (record_of d)) 0) (d.epoch == last_epoch) (shard_spent (record_of d)) (sym c.epoch_fault.ensures ∙ c.in_default.is) in
    let done = are_done w (subst (λ (u : State). slice_get (unfinished_plans u) 0 ≡ None) is parts.0) in
    let settled = rest_is_settled _ w c.is_reached.ensures done c.is_safe.ensures.safe.place (subst (λ (u : State). shard_spent u ≡ None) is parts.2) in
    subst (λ (p : PlacementModel). IsSettled (sizes_of p.setup) (place_of p)) (sym c.in-Ok.ensures)
    (subst (λ (q : Place). IsSettled (sizes_of c.placement.result.now.setup) q) (sym c.placement.ensures.place)
    (subst (λ (s : Sizes). IsSettled s w.place) (sym c.placement.ensures.sizes) settled))

pub epoch_after-self-inside-requires : goal.epoch_after-self-inside-requires
epoch_after-self-inside-requires c =
    let d : DriverModel = c.args.self.now in
    let parts = no_fault (slice_get (unfinished_plans (record_of d)) 0) (d.epoch == last_epoch) (shard_spent (record_of d)) (sym c.epoch_fault.ensures ∙ c.in_default.is) in
    λ same. eqb-false d.epoch last_epoch parts.1 (sym (ap (λ (x : DriverModel). x.epoch) c.self.view_is) ∙ same)

pub invariant_of-self : goal.invariant_of-self
invariant_of-self c =
    let inside = c.self.inside in
    let w : State = state_of c.machine-machine.result.now in
    let back : w ≡ state_of inside.director = sym (ap record_of c.self.view_is ∙ ap state_of (sym c.machine-machine.ensures)) in
    let places : length (state_of inside.director).log ≤ MOST_PLACES = subst (λ (u : State). length u.log ≤ MOST_PLACES) back
    (let p = within_places _ w c.is_reached.ensures in let l = p.0 in let m = p.1 in omega arith) in
    epoch_driving inside.room _ c.replace-old.new.dest _ (sizes_of c.in-Ok.placement.setup) (place_of c.in-Ok.placement) c.epoch_after-self-inside.ensures places
    (ap state_of c.replace-old.ensures.after ∙ c.in-Ok-open.ensures.state)
    (ap (λ (p : PlacementModel). sizes_of p.setup) c.in-Ok.ensures ∙ c.placement.ensures.sizes ∙ ap (λ (u : State). u.sizes) back)
    (ap (λ (p : PlacementModel). (place_of p).down) c.in-Ok.ensures ∙ ap (λ (q : Place). q.down) c.placement.ensures.place ∙ ap (λ (u : State). u.place.down) back)
    c.self.invariant
