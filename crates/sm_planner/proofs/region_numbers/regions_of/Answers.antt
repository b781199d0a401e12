use Rattle.std.proofs.Common.{◌≡◌, ◌+◌, ◌∙◌, ◌++◌, ◌∷◌, [], ℕ, length, subst, ap, arith}
use Rattle.std.proofs.lemmas.List.{length_push}
use Rattle.sm_planner.specs.Regions.{IsRegionOf}
use Rattle.sm_planner.proofs.Numbering.{are_regions, regions_pushed}
use Rattle.sm_planner.proofs.region_numbers.regions_of.Goals as goal

pub loop-number-preserved : goal.loop-number-preserved
loop-number-preserved c =
    let setup = c.args.config.now in
    let old = c.loop-number.regions.items in
    let r = c.region_of.result in
    let e : c.push.new.self.items ≡ old ++ r ∷ [] = c.in_ok-push.ensures.items in
    record {
      wide = ap length e ∙ length_push old r ∙ ap (λ (n : ℕ). n + 1) c.loop-number.invariant.wide;
      each = regions_pushed setup old c.push.new.self.items c.loop-number.number r e (subst (λ (k : ℕ). IsRegionOf setup k r) c.new.ensures c.region_of.ensures) c.loop-number.invariant.wide c.loop-number.invariant.each;
    }

pub returns : goal.returns
returns c = are_regions c.args.config.now c.loop-number.regions.items (omega arith) (λ v l. c.loop-number.invariant.each v (omega arith))
