use Rattle.std.proofs.Common.{rules, tests}
use Rattle.std.proofs.lemmas.Iterator.{cases_from_all, YieldsList-from_slice}
use Rattle.sm_plan_code.specs.Plan.{IsKnownStream}
use Rattle.sm_plan_code.proofs.EachLemmas.{true_iff_All}
use Rattle.sm_plan_code.proofs.fits.are_streams_below.Goals as goal

pub returns : goal.returns
returns c =
    let streams = c.args.streams.now in
    let cases = cases_from_all _ _ c.all.result (IsKnownStream c.args.shards c.args.servers) (λ x. ¬ IsKnownStream c.args.shards c.args.servers x) c.all.ensures.ran (YieldsList-from_slice streams cc) (λ x q k. search (rules, tests)) (λ x q k. search (rules, tests)) in
    true_iff_All (IsKnownStream c.args.shards c.args.servers) c.all.result streams cases
