-- The plan of a document that was read is one, and it is of the document's configuration, which has no more shards than it may have.
use Rattle.std.proofs.Common.{◌≡◌, ◌≤◌, List, [], length, Option, Some, None, Ok, option_map, ℕ, refl, subst, IfSome, All, map}
use Rattle.std.proofs.lemmas.List.Elements.{All-map}
use Rattle.serde_json.specs.Data.{Data}
use Rattle.sm_placement.specs.Setup.{Setup}
use Rattle.sm_placement.specs.declared.limits.TheConstants.{MOST_SHARDS}
use Rattle.sm_plan_code.specs.Plan.{PlanModel, IsPlan, IsKnownPlan}
use Rattle.sm_plan_text.specs.declared.fault.TextFault.{TextFault}
use Rattle.sm_plan_text.specs.declared.member.Member.TheVariants as members
use Rattle.sm_plan_text.specs.Faults.{answered}
use Rattle.sm_plan_text.specs.Values.{found, list_in, entries_in}
use Rattle.sm_plan_text.specs.Tables.{walked}
use Rattle.sm_plan_text.specs.Parcels.{HaveIds}
use Rattle.sm_plan_text.specs.Plans.{faults_within, plan_faults, plan_in}
use Rattle.sm_plan_text.specs.Documents.{DocumentModel, document_faults, server_names_in, shard_names_in, rows_in}
use Rattle.sm_plan_text.specs.Reading.{data_of, read_data, read}
use Rattle.sm_plan_text.proofs.Faultless.{none_noted, walked_entries}
use Rattle.sm_plan_text.proofs.FaultlessPlan.{plan_good}
use Rattle.sm_plan_text.proofs.Known.{names_are_few, shards_are_few, plan_without_faults, plans_without_faults, each_where_there, document_is_known}

-- the parts are a plan, and one of the configuration
pub record IsPlanOf (setup : Setup) (plan : PlanModel) : Type 0 where
  pub is : IsPlan plan
  pub fits : IsKnownPlan (length setup.shards) (length setup.servers) plan

-- The plan that a document has, where it has one, and each of its list of plans are of its configuration, which has no more shards than it
-- may have.
pub record HasItsPlans (d : DocumentModel) : Type 0 where
  pub plan : IfSome d.plan (IsPlanOf d.setup)
  pub plans : IfSome d.plans (All (IsPlanOf d.setup))
  pub shards : length d.setup.shards ≤ MOST_SHARDS

plan_is : (shards servers : List (List ℕ)) (o : Option Data) → HaveIds shards servers → faults_within (plan_faults members.Plan shards servers []) o ≡ [] → IfSome (option_map (plan_in shards servers) o) IsPlan
plan_is shards servers None few h = tt
plan_is shards servers (Some d) few h = (plan_good members.Plan shards servers d few h).plan

plans_are : (shards servers : List (List ℕ)) (ds : List Data) → HaveIds shards servers → walked (plan_faults members.Plans shards servers) [] ds ≡ [] → All IsPlan (map (plan_in shards servers) ds)
plans_are shards servers ds few h =
    All-map IsPlan (plan_in shards servers) ds
    (walked_entries (plan_faults members.Plans shards servers) (λ d. IsPlan (plan_in shards servers d)) (λ before d none. (plan_good members.Plans shards servers d few none).plan) [] ds h)

both_where_there : (setup : Setup) (o : Option PlanModel) → IfSome o IsPlan → IfSome o (IsKnownPlan (length setup.shards) (length setup.servers)) → IfSome o (IsPlanOf setup)
both_where_there setup None is fits = tt
both_where_there setup (Some plan) is fits = record { is = is; fits = fits }

all_where_there : (setup : Setup) (o : Option (List PlanModel)) → IfSome o (All IsPlan) → IfSome o (All (IsKnownPlan (length setup.shards) (length setup.servers))) → IfSome o (All (IsPlanOf setup))
all_where_there setup None is fits = tt
all_where_there setup (Some plans) is fits = λ k plan below. record { is = is k plan below; fits = fits k plan below }

in_order : (d : Data) → document_faults d ≡ [] → HasItsPlans (rows_in d)
in_order d h = record {
  plan = both_where_there (rows_in d).setup (rows_in d).plan (plan_is (shard_names_in d) (server_names_in d) (found members.Plan d) (names_are_few d h) (plan_without_faults d h)) (document_is_known d h).plan;
  plans = all_where_there (rows_in d).setup (rows_in d).plans
      (each_where_there IsPlan (plan_in (shard_names_in d) (server_names_in d)) (list_in members.Plans d)
      (plans_are (shard_names_in d) (server_names_in d) (entries_in members.Plans d) (names_are_few d h) (plans_without_faults d h)))
      (document_is_known d h).plans;
  shards = shards_are_few d h;
}

data_has_plan : (o : Option Data) (d : DocumentModel) → read_data o ≡ Ok d → HasItsPlans d
data_has_plan None d e = absurd (cc)
data_has_plan (Some value) d e = go (answered (document_faults value)) refl
  where
    go : (fault : Option TextFault) → answered (document_faults value) ≡ fault → HasItsPlans d
    go None is =
        let same : rows_in value ≡ d = let said = rw is at e in cc in
        subst HasItsPlans same (in_order value (none_noted (document_faults value) is))
    go (Some fault) is = absurd (let said = rw is at e in cc)

-- the plans of a document that was read are plans, and of the document's configuration, which has no more shards than it may have
pub read_has_plan : (bytes : List ℕ) (d : DocumentModel) → read bytes ≡ Ok d → HasItsPlans d
read_has_plan bytes d e = data_has_plan (data_of bytes) d e
