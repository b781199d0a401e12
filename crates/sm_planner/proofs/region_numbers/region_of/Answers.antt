use Rattle.std.proofs.Common.{arith}
use Rattle.sm_planner.proofs.Numbering.{own_region}
use Rattle.sm_planner.proofs.region_numbers.region_of.Goals as goal

pub returns-then-same_region : goal.returns-then-same_region
returns-then-same_region c = record {
  within = omega arith;
  same = cc;
  lowest = c.loop-number.invariant;
}

pub returns : goal.returns
returns c = own_region c.args.config.now c.args.server c.number.result c.number.ensures (λ u l. c.loop-number.invariant u (omega arith))
