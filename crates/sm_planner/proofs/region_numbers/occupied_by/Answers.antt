use Rattle.std.proofs.Common.{◌<◌, ◌∙◌, ◌&&◌, ℕ, Bool, false, length, get_or, refl, arith}
use Rattle.std.specs.Prelude.{not}
use Rattle.sm_placement.proofs.Sums.{bit-le-one}
use Rattle.sm_planner.proofs.Numbering.{occupied_further, count_entered}
use Rattle.sm_planner.proofs.region_numbers.occupied_by.Goals as goal

pub loop-number-preserved : goal.loop-number-preserved
loop-number-preserved c =
    let setup = c.args.config.now in
    let regions = c.args.regions.now in
    let has : ℕ → Bool = λ v. get_or c.args.has.now v false in
    let n = c.loop-number.number in
    let region : ℕ = get_or regions n 0 in
    let old = c.loop-number.occupied.marks.items in
    let l : n < length setup.servers = omega arith in
    let b = bit-le-one (c.is_marked.result && not (get_or old region false)) in
    let entered = c.enter.ensures.count in
    record {
      wide = c.enter.ensures.wide ∙ c.loop-number.invariant.wide;
      marked = λ r m. occupied_further regions has n region c.is_marked.result old c.enter.new.self.marks.items r c.is_marked.ensures refl (c.enter.ensures.marks r) (c.loop-number.invariant.marked r m);
      count = count_entered setup regions c.requires has n region c.loop-number.occupied.count c.enter.new.self.count c.is_marked.result old l c.is_marked.ensures refl
          (c.loop-number.invariant.marked region (c.requires.known n l)) entered c.loop-number.invariant.count;
      few = omega arith;
    }
