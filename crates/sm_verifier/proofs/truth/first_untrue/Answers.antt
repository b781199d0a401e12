use Rattle.std.proofs.Common.{inl, inr, arith, length}
use Rattle.std.proofs.lemmas.Bool.{cases_lt}
use Rattle.sm_plan_code.specs.Plan.{IsKnownStream}
use Rattle.sm_verifier.proofs.Growth.{all_at}
use Rattle.sm_verifier.proofs.Judging.{nothing_past}
use Rattle.sm_verifier.proofs.truth.first_untrue.Goals as goal

pub untrue_key-requires : goal.untrue_key-requires
untrue_key-requires c =
    let fits = all_at (IsKnownStream (length c.args.placement.now.setup.shards) (length c.args.placement.now.setup.servers)) c.args.streams.now c.loop-stream.stream-index c.stream-item.result c.requires c.loop-stream-test.true c.stream-item.is in
    (rw (← c.stream.view_is) at fits).holds

pub returns-clause-none : goal.returns-clause-none
returns-clause-none c = λ i key. elim (cases_lt i (length c.args.streams.now)) [
  | inl less ↦ c.loop-stream.invariant i (omega (arith, c.loop-stream-test.false, less)) key
  | inr past ↦ λ has. absurd (nothing_past c.args.streams.now i past key has)
]
