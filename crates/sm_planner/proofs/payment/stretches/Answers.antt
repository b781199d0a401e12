use Rattle.std.proofs.Common.{◌≡◌, ◌<◌, ◌^◌, ◌∙◌, arith, length, take, ap, ℕ}
use Rattle.std.proofs.lemmas.List.{get_or_default, length-take}
use Rattle.std.proofs.lemmas.List.FromFn.{length-map-range_with_len}
use Rattle.sm_planner.specs.Basis.{basis_of, IsMoveOf, no_move, move_at, move_load}
use Rattle.sm_planner.specs.Stretches.{stretch}
use Rattle.sm_planner.specs.Accounts.{room_freed}
use Rattle.sm_planner.proofs.Ranges.{pushed_more}
use Rattle.sm_planner.proofs.Accounting.{known_at}
use Rattle.sm_planner.proofs.Stretching.{summed_start, summed_next, stretch_is, fits_more}
use Rattle.sm_planner.proofs.payment.stretches.Goals as goal

pub loop-wanted-init : goal.loop-wanted-init
loop-wanted-init c = record {
  stretches = c.in_ok-stretches.ensures.items;
  sums = summed_start (basis_of c.args.placement.now c.args.pool.now) c.config-config.result.now c.in_ok-taken.taken c.in_ok-freed.freed
      c.config-config.ensures.setup c.in_ok-taken.ensures.none c.in_ok-freed.ensures.room c.in_ok-freed.ensures.small;
}

pub loop-wanted-preserved : goal.loop-wanted-preserved
loop-wanted-preserved c =
    let b = basis_of c.args.placement.now c.args.pool.now in
    let order = c.args.order.now in
    let k = c.loop-wanted.wanted-index in
    let setup = c.config-config.result.now in
    let m = c.wanted-item.result in
    let is : m ≡ move_at order k = c.wanted-item.is ∙ get_or_default order k m no_move c.loop-wanted-test.true in
    let known : IsMoveOf setup m = known_at c.args.placement.now.setup setup order k m c.requires c.config-config.ensures.setup c.loop-wanted-test.true c.wanted-item.is in
    let load : c.load-load.result ≡ move_load setup m = c.load-load.ensures.load in
    let here = stretch_is b setup order k m c.loop-wanted.taken c.loop-wanted.freed c.load-load.result c.room.result c.at.result c.at-in-loop-wanted.result
    c.loop-wanted.invariant.sums c.config-config.ensures.setup known is load c.room.ensures c.at.ensures c.at-in-loop-wanted.ensures in
    record {
      stretches = pushed_more (stretch b order) c.loop-wanted.stretches.items c.push.new.self.items k _ c.in_ok-push.ensures.items here c.loop-wanted.invariant.stretches;
      sums = summed_next b setup order k m c.loop-wanted.taken c.loop-wanted.freed _ _ c.load-load.result c.loop-wanted.invariant.sums c.loop-wanted-test.true c.config-config.ensures.setup
          known is load c.load-load.ensures.fits (c.put.ensures ∙ ap (λ (x : ℕ). room_freed c.loop-wanted.taken m.to x) c.from.ensures)
          (c.put-in-loop-wanted.ensures ∙ ap (λ (x : ℕ). room_freed c.loop-wanted.freed m.from x) c.from-in-loop-wanted.ensures);
    }

pub put-requires : goal.put-requires
put-requires c =
    let b = basis_of c.args.placement.now c.args.pool.now in
    let setup = c.config-config.result.now in
    let known : IsMoveOf setup c.wanted-item.result = known_at c.args.placement.now.setup setup c.args.order.now c.loop-wanted.wanted-index c.wanted-item.result c.requires c.config-config.ensures.setup c.loop-wanted-test.true c.wanted-item.is in
    let v = c.loop-wanted.stretches in
    let e : length v.items ≡ c.loop-wanted.wanted-index = ap length c.loop-wanted.invariant.stretches ∙ length-map-range_with_len (stretch b c.args.order.now) 0 c.loop-wanted.wanted-index in
    let l = length-take c.loop-wanted.wanted-index c.args.order.now in
    let p = v.ok in let q = p.0 in let r = p.1 in let z = v.small in
    let long : length (take c.loop-wanted.wanted-index c.args.order.now) < 2 ^ 64 = omega arith in
    let fit = fits_more b setup (take c.loop-wanted.wanted-index c.args.order.now) c.wanted-item.result c.loop-wanted.taken c.loop-wanted.freed c.load-load.result c.loop-wanted.invariant.sums c.config-config.ensures.setup known long c.load-load.ensures.fits in
    let one = fit.0 in let e = c.from.ensures in omega arith

pub put-requires-in-loop-wanted : goal.put-requires-in-loop-wanted
put-requires-in-loop-wanted c =
    let b = basis_of c.args.placement.now c.args.pool.now in
    let setup = c.config-config.result.now in
    let known : IsMoveOf setup c.wanted-item.result = known_at c.args.placement.now.setup setup c.args.order.now c.loop-wanted.wanted-index c.wanted-item.result c.requires c.config-config.ensures.setup c.loop-wanted-test.true c.wanted-item.is in
    let v = c.loop-wanted.stretches in
    let e : length v.items ≡ c.loop-wanted.wanted-index = ap length c.loop-wanted.invariant.stretches ∙ length-map-range_with_len (stretch b c.args.order.now) 0 c.loop-wanted.wanted-index in
    let l = length-take c.loop-wanted.wanted-index c.args.order.now in
    let p = v.ok in let q = p.0 in let r = p.1 in let z = v.small in
    let long : length (take c.loop-wanted.wanted-index c.args.order.now) < 2 ^ 64 = omega arith in
    let fit = fits_more b setup (take c.loop-wanted.wanted-index c.args.order.now) c.wanted-item.result c.loop-wanted.taken c.loop-wanted.freed c.load-load.result c.loop-wanted.invariant.sums c.config-config.ensures.setup known long c.load-load.ensures.fits in
    let one = fit.1 in let e = c.from-in-loop-wanted.ensures in omega arith
