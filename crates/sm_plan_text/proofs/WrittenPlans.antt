-- The data written for a plan over a configuration's names is read as that plan.
use Rattle.std.proofs.Common.{◌≡◌, ◌<◌, length, get_or, refl, ap, sym, ◌∙◌, subst, All, arith, ℕ, List, Some, Ok}
use Rattle.std.proofs.lemmas.List.{length-map}
use Rattle.sm_placement.specs.Setup.{Setup, IsSetup, names_of_servers, names_of_shards, no_server, no_shard}
use Rattle.sm_placement.proofs.NamedLemmas.{server_named_at, shard_named_at}
use Rattle.sm_reservation.specs.Rights.{Rights}
use Rattle.sm_reservation.proofs.InOrder.{in_order_of_ordered}
use Rattle.sm_plan_code.specs.Plan.{PlanModel, IsOrderedParcel, IsPlan, IsKnownPlan}
use Rattle.sm_plan_text.specs.declared.member.Member.{Member}
use Rattle.sm_plan_text.specs.Faults.{answered}
use Rattle.sm_plan_text.specs.Values.{number_named}
use Rattle.sm_plan_text.specs.declared.member.Member.TheVariants as members
use Rattle.sm_plan_text.specs.Reading.{data_of, read_plan}
use Rattle.sm_plan_text.specs.PlanTexts.{plan_data, IsReadBack}
use Rattle.sm_plan_text.proofs.Written.{shard_name_at, server_name_at}
use Rattle.sm_plan_text.proofs.NamesBack.{LeadBack}
use Rattle.sm_plan_text.proofs.PlansBack.{IsPlaced, plan_no_fault, plan_back}

server_names_lead : (setup : Setup) → IsSetup setup → LeadBack (names_of_servers setup)
server_names_lead setup is =
    let counted : length (names_of_servers setup) ≡ length setup.servers = length-map setup.servers (λ r. r.name) in
    record {
      back = λ n h.
          let within : n < length setup.servers = subst (λ k. n < k) counted h in
          ap (number_named (names_of_servers setup)) (sym (server_name_at setup n within)) ∙ server_named_at setup n (get_or setup.servers n no_server) is within refl;
      few = omega (arith, counted, is.servers);
    }

shard_names_lead : (setup : Setup) → IsSetup setup → LeadBack (names_of_shards setup)
shard_names_lead setup is =
    let counted : length (names_of_shards setup) ≡ length setup.shards = length-map setup.shards (λ r. r.name) in
    record {
      back = λ n h.
          let within : n < length setup.shards = subst (λ k. n < k) counted h in
          ap (number_named (names_of_shards setup)) (sym (shard_name_at setup n within)) ∙ shard_named_at setup n (get_or setup.shards n no_shard) is within refl;
      few = omega (arith, counted, is.shards);
    }

placed : (r : Rights) → IsOrderedParcel r → IsPlaced r
placed r h = record { ordered = h.ordered; same = in_order_of_ordered r h.ordered h.positive }

-- what is written for a plan of a configuration has no fault, and is read as that plan
pub written_is_read : (parent : Member) (setup : Setup) (p : PlanModel) → IsSetup setup → IsPlan p → IsKnownPlan (length setup.shards) (length setup.servers) p → IsReadBack parent (names_of_shards setup) (names_of_servers setup) p
written_is_read parent setup p setup_is plan_is fits =
    let shards = names_of_shards setup in
    let servers = names_of_servers setup in
    let a : LeadBack shards = shard_names_lead setup setup_is in
    let b : LeadBack servers = server_names_lead setup setup_is in
    let within : IsKnownPlan (length shards) (length servers) p =
    subst (λ n. IsKnownPlan n (length servers) p) (sym (length-map setup.shards (λ r. r.name)))
    (subst (λ n. IsKnownPlan (length setup.shards) n p) (sym (length-map setup.servers (λ r. r.name))) fits) in
    let held : All (λ s. IsPlaced s.holds) p.streams = λ i d h. placed _ (plan_is.parcels.streams i d h) in
    let carried : All IsPlaced p.signals = λ i d h. placed _ (plan_is.parcels.signals i d h) in
    record {
      faultless = ap answered (plan_no_fault parent shards servers p a b plan_is within held carried);
      same = plan_back shards servers p a b plan_is within held carried;
    }

-- a text whose value is the one that is written for a plan is read as that plan
pub text_is_read : (shards servers : List (List ℕ)) (p : PlanModel) (bytes : List ℕ) → data_of bytes ≡ Some (plan_data shards servers p) → IsReadBack members.Document shards servers p → read_plan shards servers bytes ≡ Ok p
text_is_read shards servers p bytes is back = rw is (rw back.faultless (ap Ok back.same))
