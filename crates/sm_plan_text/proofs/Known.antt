-- A document without faults: its servers and shards are a configuration, and each id is below its count.
use Rattle.std.proofs.Common.{◌≡◌, ◌++◌, ◌<◌, ◌≤◌, ℕ, Bool, true, false, cond, ◌||◌, not, List, [], length, get_or, map, Option, Some, None, option_map, unwrap_or, nat_lt, refl, ap, sym, ◌∙◌, subst, arith, All, IfSome}
use Rattle.std.specs.List.{flat_map}
use Rattle.std.proofs.lemmas.List.{length-map}
use Rattle.std.proofs.lemmas.List.Elements.{All-map}
use Rattle.std.proofs.lemmas.Bool.{and_from, or_from}
use Rattle.std.proofs.lemmas.Bool.Decides.{nat_tests}
use Rattle.serde_json.specs.Data.{Data}
use Rattle.sm_placement.specs.declared.config.ConfigFault.TheVariants.{TooMany, BadName, DoubleName, BadNumber}
use Rattle.sm_placement.specs.Names.{has_double}
use Rattle.sm_placement.specs.Setup.{Setup, sizes_of, is_too_large, has_good_names, has_doubled_name, has_good_numbers}
use Rattle.sm_placement.specs.Config.{config_fault}
use Rattle.sm_placement.specs.declared.limits.TheConstants.{MOST_SERVERS, MOST_SHARDS, MOST_CELLS}
use Rattle.sm_plan_code.specs.Plan.{IsKnownPlan}
use Rattle.sm_plan_code.specs.Move.{IsKnownMove}
use Rattle.sm_plan_code.specs.declared.limits.TheConstants.{MOST_MOVES, MOST_PLACES, MOST_PLANS}
use Rattle.sm_plan_text.specs.declared.fault.TextFault.{TextFault}
use Rattle.sm_plan_text.specs.declared.member.Member.TheVariants as members
use Rattle.sm_plan_text.specs.Members.{text_of}
use Rattle.sm_plan_text.specs.Values.{found, text_in, entries_in, list_in, names_in, id_named, ids_in}
use Rattle.sm_plan_text.specs.Tables.{one, maybe, whole, known, object, list, known_list, row_faults, object_faults, own_faults, walked}
use Rattle.sm_plan_text.specs.Servers.{server_faults, server_in}
use Rattle.sm_plan_text.specs.Shards.{shard_faults, shard_in, listed_in, cells_in}
use Rattle.sm_plan_text.specs.Calls.{call_faults, call_in}
use Rattle.sm_plan_text.specs.Parcels.{HaveIds}
use Rattle.sm_plan_text.specs.Plans.{faults_within, plan_faults, plan_in}
use Rattle.sm_protocol.specs.Laws.{NamesKnown}
use Rattle.sm_plan_text.specs.Events.{event_faults, event_in}
use Rattle.sm_plan_text.specs.Moves.{move_faults, move_in}
use Rattle.sm_plan_text.specs.Documents.{document_table, document_faults, servers_in, shards_in, server_names_in, shard_names_in, setup_in, rows_in, IsDocument}
use Rattle.sm_plan_text.specs.declared.limits.TheConstants.{MOST_EVENTS, MOST_ASKS, LOG_PLACES}
use Rattle.sm_plan_text.proofs.Faultless.{nil_left, nil_right, walked_entries, entries_within, optional_within, names_known, id_within, number_in-le, number_or-le}
use Rattle.sm_plan_text.proofs.FaultlessPlan.{plan_good}
use Rattle.sm_plan_text.proofs.ShardLemmas.{cell_count_is}
use Rattle.sm_plan_text.proofs.FaultlessDocument.{IsDistinct, IsKnownNamedCall, servers_named, servers_distinct, servers_good, down_within, names_of_rows, names_of_shard_rows, shards_named, shards_distinct, shards_good, cell_count_within, cells_within, calls_within, moves_within, events_within}

-- the parts of a document without faults have none
record IsFaultless (d : Data) : Type 0 where
  server_count : length (servers_in d) ≤ MOST_SERVERS
  shard_count : length (shards_in d) ≤ MOST_SHARDS
  plan_count : length (entries_in members.Plans d) ≤ MOST_PLANS
  move_count : length (entries_in members.Moves d) ≤ MOST_MOVES
  asks : (length (entries_in members.Asks d) ≤ MOST_ASKS) × All (λ e. unwrap_or (id_named (shard_names_in d) e) 0 < length (shard_names_in d)) (entries_in members.Asks d)
  servers : walked server_faults [] (servers_in d) ≡ []
  shards : walked (shard_faults (server_names_in d)) [] (shards_in d) ≡ []
  calls : walked (call_faults (shard_names_in d) (server_names_in d)) [] (entries_in members.Calls d) ≡ []
  plan : faults_within (plan_faults members.Plan (shard_names_in d) (server_names_in d) []) (found members.Plan d) ≡ []
  plans : walked (plan_faults members.Plans (shard_names_in d) (server_names_in d)) [] (entries_in members.Plans d) ≡ []
  events : walked (event_faults (shard_names_in d) (server_names_in d)) [] (entries_in members.Events d) ≡ []
  moves : walked (move_faults (shard_names_in d) (server_names_in d)) [] (entries_in members.Moves d) ≡ []

faultless_parts : (d : Data) → document_faults d ≡ [] → IsFaultless d
faultless_parts d h =
    let S : List (List ℕ) = server_names_in d in
    let N : List (List ℕ) = shard_names_in d in
    let own : List TextFault = own_faults members.Document (document_table N S) d in
    let of_servers : List TextFault = walked server_faults [] (servers_in d) in
    let of_shards : List TextFault = walked (shard_faults S) [] (shards_in d) in
    let of_calls : List TextFault = walked (call_faults N S) [] (entries_in members.Calls d) in
    let of_events : List TextFault = walked (event_faults N S) [] (entries_in members.Events d) in
    let of_moves : List TextFault = walked (move_faults N S) [] (entries_in members.Moves d) in
    let of_plan : List TextFault = faults_within (plan_faults members.Plan N S []) (found members.Plan d) in
    let of_plans : List TextFault = walked (plan_faults members.Plans N S) [] (entries_in members.Plans d) in
    let to_events : own ++ of_servers ++ of_shards ++ of_calls ++ of_plan ++ of_plans ++ of_events ≡ [] = nil_left (own ++ of_servers ++ of_shards ++ of_calls ++ of_plan ++ of_plans ++ of_events) of_moves h in
    let to_plans : own ++ of_servers ++ of_shards ++ of_calls ++ of_plan ++ of_plans ≡ [] = nil_left (own ++ of_servers ++ of_shards ++ of_calls ++ of_plan ++ of_plans) of_events to_events in
    let to_plan : own ++ of_servers ++ of_shards ++ of_calls ++ of_plan ≡ [] = nil_left (own ++ of_servers ++ of_shards ++ of_calls ++ of_plan) of_plans to_plans in
    let to_calls : own ++ of_servers ++ of_shards ++ of_calls ≡ [] = nil_left (own ++ of_servers ++ of_shards ++ of_calls) of_plan to_plan in
    let to_shards : own ++ of_servers ++ of_shards ≡ [] = nil_left (own ++ of_servers ++ of_shards) of_calls to_calls in
    let to_servers : own ++ of_servers ≡ [] = nil_left (own ++ of_servers) of_shards to_shards in
    let rows = nil_right (object_faults members.Document (map (λ row. text_of row.member) (document_table N S)) d) (flat_map (row_faults d) (document_table N S)) (nil_left own of_servers to_servers) in
    let after_limit = nil_right (row_faults d (one members.Limit (whole MOST_SERVERS))) _ rows in
    let after_servers = nil_right (row_faults d (one members.Servers (list MOST_SERVERS))) _ after_limit in
    let after_shards = nil_right (row_faults d (one members.Shards (list MOST_SHARDS))) _ after_servers in
    let after_log = nil_right (row_faults d (maybe members.Log (whole MOST_PLACES))) _ after_shards in
    let after_calls = nil_right (row_faults d (maybe members.Calls (list MOST_EVENTS))) _ after_log in
    let after_plan = nil_right (row_faults d (maybe members.Plan object)) _ after_calls in
    let after_plans = nil_right (row_faults d (maybe members.Plans (list MOST_PLANS))) _ after_plan in
    let after_events = nil_right (row_faults d (maybe members.Events (list MOST_EVENTS))) _ after_plans in
    let after_moves = nil_right (row_faults d (maybe members.Moves (list MOST_MOVES))) _ after_events in
    let after_drain = nil_right (row_faults d (maybe members.Drain (known S))) _ after_moves in
    record {
      server_count = entries_within members.Servers MOST_SERVERS d (nil_left (row_faults d (one members.Servers (list MOST_SERVERS))) _ after_limit);
      shard_count = entries_within members.Shards MOST_SHARDS d (nil_left (row_faults d (one members.Shards (list MOST_SHARDS))) _ after_servers);
      plan_count = optional_within members.Plans MOST_PLANS d (nil_left (row_faults d (maybe members.Plans (list MOST_PLANS))) _ after_plan);
      move_count = optional_within members.Moves MOST_MOVES d (nil_left (row_faults d (maybe members.Moves (list MOST_MOVES))) _ after_events);
      asks = names_known members.Asks MOST_ASKS N d (nil_left (row_faults d (maybe members.Asks (known_list MOST_ASKS N))) _ after_drain);
      servers = nil_right own of_servers to_servers;
      shards = nil_right (own ++ of_servers) of_shards to_shards;
      calls = nil_right (own ++ of_servers ++ of_shards) of_calls to_calls;
      plan = nil_right (own ++ of_servers ++ of_shards ++ of_calls) of_plan to_plan;
      plans = nil_right (own ++ of_servers ++ of_shards ++ of_calls ++ of_plan) of_plans to_plans;
      events = nil_right (own ++ of_servers ++ of_shards ++ of_calls ++ of_plan ++ of_plans) of_events to_events;
      moves = nil_right (own ++ of_servers ++ of_shards ++ of_calls ++ of_plan ++ of_plans ++ of_events) of_moves h;
    }

-- ---- a configuration

no_fault : (large names doubled numbers : Bool) → large ≡ false → names ≡ true → doubled ≡ false → numbers ≡ true → cond large (Some TooMany) (cond (not names) (Some BadName) (cond doubled (Some DoubleName) (cond (not numbers) (Some BadNumber) None))) ≡ None
no_fault false true false true l n d k = refl
no_fault false true false false l n d k = absurd (cc)
no_fault false true true numbers l n d k = absurd (cc)
no_fault false false doubled numbers l n d k = absurd (cc)
no_fault true names doubled numbers l n d k = absurd (cc)

not_large : (a b : ℕ) → a ≤ MOST_SERVERS → b ≤ MOST_SHARDS → (nat_lt MOST_SERVERS a || nat_lt MOST_SHARDS b) ≡ false
not_large a b h k = grind (arith, nat_tests)

-- the servers and shards of a document without faults are a configuration
pub setup_is_good : (d : Data) → document_faults d ≡ [] → config_fault (setup_in d) ≡ None
setup_is_good d h =
    let parts : IsFaultless d = faultless_parts d h in
    let setup : Setup = setup_in d in
    no_fault (is_too_large setup) (has_good_names setup) (has_doubled_name setup) (has_good_numbers setup)
    (not_large (length (map server_in (servers_in d))) (length (map shard_in (shards_in d)))
    (subst (λ n. n ≤ MOST_SERVERS) (sym (length-map (servers_in d) server_in)) parts.server_count)
    (subst (λ n. n ≤ MOST_SHARDS) (sym (length-map (shards_in d) shard_in)) parts.shard_count))
    (and_from _ _ (servers_named (servers_in d) parts.servers) (shards_named (server_names_in d) (shards_in d) parts.shards))
    (or_from _ _
    (ap has_double (names_of_rows (servers_in d)) ∙ (servers_distinct (servers_in d) parts.servers).single)
    (ap has_double (names_of_shard_rows (shards_in d)) ∙ (shards_distinct (server_names_in d) (shards_in d) parts.shards).single))
    (and_from _ _ (servers_good (servers_in d)) (shards_good (server_names_in d) (shards_in d) parts.shards))

-- ---- ids

names_counted : (ds : List Data) → IsDistinct ds → length (names_in ds) ≡ length ds
names_counted ds distinct = ap length distinct.names ∙ length-map ds (text_in members.Name)

-- the names of a document without faults are no more than ids have numbers
pub names_are_few : (d : Data) → document_faults d ≡ [] → HaveIds (shard_names_in d) (server_names_in d)
names_are_few d h =
    let parts : IsFaultless d = faultless_parts d h in
    let servers = names_counted (servers_in d) (servers_distinct (servers_in d) parts.servers) in
    let shards = names_counted (shards_in d) (shards_distinct (server_names_in d) (shards_in d) parts.shards) in
    let most_servers = parts.server_count in
    let most_shards = parts.shard_count in
    record { shards = omega arith; servers = omega arith }

-- a document without faults has no more shards than a configuration may have
pub shards_are_few : (d : Data) → document_faults d ≡ [] → length (rows_in d).setup.shards ≤ MOST_SHARDS
shards_are_few d h =
    let parts : IsFaultless d = faultless_parts d h in
    subst (λ n. n ≤ MOST_SHARDS) (sym (length-map (shards_in d) shard_in)) parts.shard_count

-- what holds of all entries of a list that may be missing holds of them where it is there
pub each_where_there : {A : Type 0} (P : A → Type 0) (f : Data → A) (o : Option (List Data)) → All P (map f (unwrap_or o [])) → IfSome (option_map (map f) o) (All P)
each_where_there P f None h = tt
each_where_there P f (Some ds) h = h

counted_where_there : {A : Type 0} (limit : ℕ) (f : Data → A) (o : Option (List Data)) → length (unwrap_or o []) ≤ limit → IfSome (option_map (map f) o) (λ xs. length xs ≤ limit)
counted_where_there limit f None h = tt
counted_where_there limit f (Some ds) h = subst (λ n. n ≤ limit) (sym (length-map ds f)) h

-- ---- plans

plan_fits : (shards servers : List (List ℕ)) (o : Option Data) → HaveIds shards servers → faults_within (plan_faults members.Plan shards servers []) o ≡ [] → IfSome (option_map (plan_in shards servers) o) (IsKnownPlan (length shards) (length servers))
plan_fits shards servers None few h = tt
plan_fits shards servers (Some d) few h = (plan_good members.Plan shards servers d few h).fits

-- the plan of a document without faults has none
pub plan_without_faults : (d : Data) → document_faults d ≡ [] → faults_within (plan_faults members.Plan (shard_names_in d) (server_names_in d) []) (found members.Plan d) ≡ []
plan_without_faults d h = (faultless_parts d h).plan

-- nor has one of its list of plans
pub plans_without_faults : (d : Data) → document_faults d ≡ [] → walked (plan_faults members.Plans (shard_names_in d) (server_names_in d)) [] (entries_in members.Plans d) ≡ []
plans_without_faults d h = (faultless_parts d h).plans

plans_fit : (shards servers : List (List ℕ)) (ds : List Data) → HaveIds shards servers → walked (plan_faults members.Plans shards servers) [] ds ≡ [] → All (IsKnownPlan (length shards) (length servers)) (map (plan_in shards servers) ds)
plans_fit shards servers ds few h =
    All-map (IsKnownPlan (length shards) (length servers)) (plan_in shards servers) ds
    (walked_entries (plan_faults members.Plans shards servers) (λ d. IsKnownPlan (length shards) (length servers) (plan_in shards servers d)) (λ before d none. (plan_good members.Plans shards servers d few none).fits) [] ds h)

-- each id in a document without faults is below its count
pub document_is_known : (d : Data) → document_faults d ≡ [] → IsDocument (rows_in d)
document_is_known d h =
    let parts : IsFaultless d = faultless_parts d h in
    let servers : length (server_names_in d) ≡ length (map server_in (servers_in d)) = names_counted (servers_in d) (servers_distinct (servers_in d) parts.servers) ∙ sym (length-map (servers_in d) server_in) in
    let shards : length (shard_names_in d) ≡ length (map shard_in (shards_in d)) = names_counted (shards_in d) (shards_distinct (server_names_in d) (shards_in d) parts.shards) ∙ sym (length-map (shards_in d) shard_in) in
    record {
      cells = subst (λ n. All (λ cell. (cell.0 < n) × (cell.1 < length (map server_in (servers_in d)))) (cells_in (server_names_in d) (shards_in d))) (sym (length-map (shards_in d) shard_in))
          (subst (λ n. All (λ cell. (cell.0 < length (shards_in d)) × (cell.1 < n)) (cells_in (server_names_in d) (shards_in d))) servers (cells_within (server_names_in d) (shards_in d) parts.shards));
      listed = subst (λ n. All (λ entry. IfSome entry (λ server. server < n)) (map (listed_in (server_names_in d)) (shards_in d))) servers
          (All-map (λ entry. IfSome entry (λ server. server < length (server_names_in d))) (listed_in (server_names_in d)) (shards_in d) (λ k e below. id_within (server_names_in d) members.Listed (get_or (shards_in d) k e)));
      down = subst (λ n. All (λ server. server < n) (rows_in d).down) (sym (length-map (servers_in d) server_in)) (down_within (servers_in d));
      calls = each_where_there (IsKnownNamedCall (length (map shard_in (shards_in d))) (length (map server_in (servers_in d)))) (call_in (shard_names_in d) (server_names_in d)) (list_in members.Calls d)
          (subst (λ n. All (IsKnownNamedCall (length (map shard_in (shards_in d))) n) (map (call_in (shard_names_in d) (server_names_in d)) (entries_in members.Calls d))) servers
          (subst (λ n. All (IsKnownNamedCall n (length (server_names_in d))) (map (call_in (shard_names_in d) (server_names_in d)) (entries_in members.Calls d))) shards (calls_within (shard_names_in d) (server_names_in d) (entries_in members.Calls d) parts.calls)));
      plan = subst (λ n. IfSome (rows_in d).plan (IsKnownPlan (length (map shard_in (shards_in d))) n)) servers
          (subst (λ n. IfSome (rows_in d).plan (IsKnownPlan n (length (server_names_in d)))) shards (plan_fits (shard_names_in d) (server_names_in d) (found members.Plan d) (names_are_few d h) parts.plan));
      plans = each_where_there (IsKnownPlan (length (map shard_in (shards_in d))) (length (map server_in (servers_in d)))) (plan_in (shard_names_in d) (server_names_in d)) (list_in members.Plans d)
          (subst (λ n. All (IsKnownPlan (length (map shard_in (shards_in d))) n) (map (plan_in (shard_names_in d) (server_names_in d)) (entries_in members.Plans d))) servers
          (subst (λ n. All (IsKnownPlan n (length (server_names_in d))) (map (plan_in (shard_names_in d) (server_names_in d)) (entries_in members.Plans d))) shards (plans_fit (shard_names_in d) (server_names_in d) (entries_in members.Plans d) (names_are_few d h) parts.plans)));
      events = each_where_there (NamesKnown (sizes_of (setup_in d))) (event_in (shard_names_in d) (server_names_in d)) (list_in members.Events d)
          (subst (λ n. All (NamesKnown (record (sizes_of (setup_in d)) { servers = n })) (map (event_in (shard_names_in d) (server_names_in d)) (entries_in members.Events d))) servers
          (subst (λ n. All (NamesKnown (record (sizes_of (setup_in d)) { shards = n; servers = length (server_names_in d) })) (map (event_in (shard_names_in d) (server_names_in d)) (entries_in members.Events d))) shards (events_within (sizes_of (setup_in d)) (shard_names_in d) (server_names_in d) (entries_in members.Events d) parts.events)));
      moves = each_where_there (IsKnownMove (length (map shard_in (shards_in d))) (length (map server_in (servers_in d)))) (move_in (shard_names_in d) (server_names_in d)) (list_in members.Moves d)
          (subst (λ n. All (IsKnownMove (length (map shard_in (shards_in d))) n) (map (move_in (shard_names_in d) (server_names_in d)) (entries_in members.Moves d))) servers
          (subst (λ n. All (IsKnownMove n (length (server_names_in d))) (map (move_in (shard_names_in d) (server_names_in d)) (entries_in members.Moves d))) shards (moves_within (shard_names_in d) (server_names_in d) (entries_in members.Moves d) parts.moves)));
      drain = subst (λ n. IfSome (rows_in d).drain (λ server. server < n)) servers (id_within (server_names_in d) members.Drain d);
      asks = subst (λ n. All (λ shard. shard < n) (ids_in (shard_names_in d) members.Asks d)) shards
          (All-map (λ shard. shard < length (shard_names_in d)) (λ entry. unwrap_or (id_named (shard_names_in d) entry) 0) (entries_in members.Asks d) parts.asks.1);
      listed_length = length-map (shards_in d) (listed_in (server_names_in d)) ∙ sym (length-map (shards_in d) shard_in);
      cell_count = subst (λ n. n ≤ MOST_CELLS) (sym (cell_count_is (server_names_in d) (shards_in d))) (cell_count_within (server_names_in d) (shards_in d) parts.shards);
      limit = number_in-le members.Limit MOST_SERVERS d;
      log = number_or-le LOG_PLACES members.Log MOST_PLACES d (omega arith);
      plan_count = counted_where_there MOST_PLANS (plan_in (shard_names_in d) (server_names_in d)) (list_in members.Plans d) parts.plan_count;
      move_count = counted_where_there MOST_MOVES (move_in (shard_names_in d) (server_names_in d)) (list_in members.Moves d) parts.move_count;
      ask_count = subst (λ n. n ≤ MOST_ASKS) (sym (length-map (entries_in members.Asks d) (λ entry. unwrap_or (id_named (shard_names_in d) entry) 0))) parts.asks.0;
    }
