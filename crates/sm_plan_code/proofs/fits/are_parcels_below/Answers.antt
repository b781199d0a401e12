use Rattle.std.proofs.Common.{rules, tests}
use Rattle.std.proofs.lemmas.Iterator.{cases_from_all, YieldsList-from_slice}
use Rattle.sm_plan_code.specs.Plan.{IsKnownParcel}
use Rattle.sm_plan_code.proofs.EachLemmas.{true_iff_All}
use Rattle.sm_plan_code.proofs.fits.are_parcels_below.Goals as goal

pub returns : goal.returns
returns c =
    let parcels = c.args.parcels.now in
    let cases = cases_from_all _ _ c.all.result (IsKnownParcel c.args.shards c.args.servers) (λ x. ¬ IsKnownParcel c.args.shards c.args.servers x) c.all.ensures.ran (YieldsList-from_slice parcels cc) (λ x q k. search (rules, tests)) (λ x q k. search (rules, tests)) in
    true_iff_All (IsKnownParcel c.args.shards c.args.servers) c.all.result parcels cases
