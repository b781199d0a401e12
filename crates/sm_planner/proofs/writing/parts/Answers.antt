use Rattle.std.proofs.Common.{◌≡◌, ap, arith}
use Rattle.std.proofs.lemmas.List.FromFn.{sum_by-map-range_with_len_more}
use Rattle.sm_plan_code.specs.Plan.{StreamModel}
use Rattle.sm_planner.specs.Basis.{basis_of}
use Rattle.sm_planner.specs.Plan.{stream}
use Rattle.sm_planner.proofs.Ranges.{pushed_more}
use Rattle.sm_planner.proofs.writing.parts.Goals as goal

pub loop-number-preserved : goal.loop-number-preserved
loop-number-preserved c =
    let f = stream (basis_of c.args.placement.now c.args.pool.now) c.args.draft.now.moves.items in
    let n = c.loop-number.number in
    let is : c.in_ok-stream.stream ≡ f n = c.in_ok-stream.ensures.value in
    let view : c.stream-in-loop-number.inside.budget ≡ c.in_ok-stream.stream.budget = ap (λ (s : StreamModel). s.budget) c.stream-in-loop-number.view_is in
    let budget : c.in_ok-stream.stream.budget ≡ (f n).budget = ap (λ (s : StreamModel). s.budget) is in
    let more = sum_by-map-range_with_len_more (λ (s : StreamModel). s.budget) f 0 n n (omega arith) in
    let so_far = c.loop-number.invariant.budget in
    let small = c.loop-number.invariant.small in
    let here = c.in_ok-stream.ensures.small in
    record {
      streams = pushed_more f c.loop-number.streams.items c.push.new.self.items n c.in_ok-stream.stream c.in_ok-push.ensures.items is c.loop-number.invariant.streams;
      budget = omega arith;
      small = omega arith;
    }
