use Rattle.std.proofs.Common.{◌≡◌, ◌≤◌, ◌∙◌, ℕ, List, [], length, ap, sym, subst, arith}
use Rattle.std.proofs.lemmas.List.{length-map}
use Rattle.serde_json.specs.Data.{Data}
use Rattle.json_tree.specs.View.{view}
use Rattle.sm_placement.specs.Setup.{Setup, IsSetup, ServerRow, ShardRow}
use Rattle.sm_placement.specs.declared.limits.TheConstants.{MOST_SERVERS, MOST_SHARDS}
use Rattle.sm_plan_code.specs.Plan.{IsKnownPlan}
use Rattle.sm_plan_text.specs.declared.cursor.Cursor.{Cursor}
use Rattle.sm_plan_text.specs.Parcels.{HaveIds}
use Rattle.sm_plan_text.specs.Plans.{plan_faults, plan_in}
use Rattle.sm_plan_text.proofs.Faultless.{none_noted}
use Rattle.sm_plan_text.proofs.FaultlessPlan.{plan_good}
use Rattle.sm_plan_text.proofs.plan_text.read_plan_value.Goals as goal

pub returns-clause-fits : goal.returns-clause-fits
returns-clause-fits c =
    let setup : Setup = c.args.config.now in
    let d : Data = view c.new-cursor.result.tree.now in
    let shards : List (List ℕ) = c.new-cursor.result.scope.shards.now in
    let servers : List (List ℕ) = c.new-cursor.result.scope.servers.now in
    let shard_count : length shards ≡ length setup.shards = ap (λ (p : Cursor). length p.scope.shards.now) c.new-cursor.ensures ∙ ap length c.in_ok-shards.ensures.names ∙ length-map setup.shards (λ (row : ShardRow). row.name) in
    let server_count : length servers ≡ length setup.servers = ap (λ (p : Cursor). length p.scope.servers.now) c.new-cursor.ensures ∙ ap length c.in_ok-servers.ensures.names ∙ length-map setup.servers (λ (row : ServerRow). row.name) in
    let is_setup : IsSetup setup = c.in_ok-shards.ensures.setup in
    let most_shards : length setup.shards ≤ MOST_SHARDS = is_setup.shards in
    let most_servers : length setup.servers ≤ MOST_SERVERS = is_setup.servers in
    let few : HaveIds shards servers = record { shards = omega arith; servers = omega arith } in
    let faults = plan_faults c.new-cursor.result.member shards servers [] d in
    let faultless : faults ≡ [] = none_noted faults (sym c.in_ok-plan.ensures.faults ∙ c.in-None.is) in
    let good : IsKnownPlan (length setup.shards) (length setup.servers) (plan_in shards servers d) =
    subst (λ n. IsKnownPlan n (length setup.servers) (plan_in shards servers d)) shard_count
    (subst (λ n. IsKnownPlan (length shards) n (plan_in shards servers d)) server_count (plan_good c.new-cursor.result.member shards servers d few faultless).fits) in
    subst (IsKnownPlan (length setup.shards) (length setup.servers)) (sym (c.in_ok-plan.ensures.value few c.in-None.is)) good
